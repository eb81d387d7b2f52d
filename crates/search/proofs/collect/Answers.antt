-- The search adds what is listed, and put in order that is the list; where the slots are too few its number alone is told.
use Rattle.std.specs.Prelude.{◌≡◌, ℕ, ◌≤◌, List, length}
use native.Mathlib.Omega.{arith}
use mathlib.Core.Path.{sym, ◌∙◌}
use lib.Seq.{length-take-le}
use Rattle.sets.specs.Words.{masks}
use Rattle.sets.specs.Words.Masks.{offset_fits, lent_before, back_before}
use Rattle.search.specs.CallLaws.{added_length, collects_fits, collects_short}
use Rattle.search.proofs.collect.Goals as goal

-- ---- the needs
pub returns-then-room-m : goal.returns-then-room-m
returns-then-room-m c =
    collects_short c.requires.0 c.enumerate-m.ensures (omega (arith, c.if-room-m.true, c.count-room.ensures, added_length c.requires.0 c.enumerate-m.ensures))

pub slice_bounds-sort-end : goal.slice_bounds-sort-end
slice_bounds-sort-end c =
    let room_fits : c.enumerate-m.result ≤ length (masks c.enumerate-m.new.slots) = omega (arith, c.if-room-m.false, c.count-room.ensures) in
    let end_fits : c.offset-end.result ≤ length c.enumerate-m.new.slots =
    offset_fits c.enumerate-m.result c.offset-end.result c.enumerate-m.new.slots c.offset-end.ensures room_fits in
    end_fits

pub slice_bounds-sort-end-2 : goal.slice_bounds-sort-end-2
slice_bounds-sort-end-2 c =
    let room_fits : c.enumerate-m.result ≤ length (masks c.enumerate-m.new.slots) = omega (arith, c.if-room-m.false, c.count-room.ensures) in
    let end_fits : c.offset-end.result ≤ length c.enumerate-m.new.slots =
    offset_fits c.enumerate-m.result c.offset-end.result c.enumerate-m.new.slots c.offset-end.ensures room_fits in
    sym (length-take-le _ _ end_fits)

pub returns : goal.returns
returns c =
    let room_fits : c.enumerate-m.result ≤ length (masks c.enumerate-m.new.slots) = omega (arith, c.if-room-m.false, c.count-room.ensures) in
    let end_fits : c.offset-end.result ≤ length c.enumerate-m.new.slots =
    offset_fits c.enumerate-m.result c.offset-end.result c.enumerate-m.new.slots c.offset-end.ensures room_fits in
    let part : List ℕ = c.sort.new.part in
    let end : ℕ = c.offset-end.result in
    let long : length part ≡ end = c.sort.auto.part ∙ length-take-le end c.enumerate-m.new.slots end_fits in
    collects_fits c.requires.0 c.enumerate-m.ensures (omega (arith, room_fits, added_length c.requires.0 c.enumerate-m.ensures))
    (rw (lent_before c.enumerate-m.new.slots c.enumerate-m.result end c.offset-end.ensures room_fits) at c.sort.ensures)
    (back_before c.enumerate-m.new.slots c.enumerate-m.result end c.offset-end.ensures part long)
