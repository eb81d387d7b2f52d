-- The front of a table of its own, as long as the rows, takes the changed graph, which can be searched as the graph can.
use Rattle.std.specs.Prelude.{ℕ, ◌*◌, refl, List, drop}
use Rattle.std.proofs.Common.{arith, ap, ◌∙◌}
use Rattle.std.proofs.Math.Seq.{length-take-le}
use Rattle.sets.specs.Words.{per_set, width, masks}
use Rattle.sets.specs.Words.Groups.{blank}
use Rattle.sets.specs.Words.Masks.{offset_fits, lent_length, front_part}
use Rattle.search.specs.StartLaws.{table_fits}
use Rattle.books.specs.CallLaws.{changed_accepted}
use Rattle.books.proofs.renew_changed.Goals as goal

-- the table before a row is stored
abbrev table : List ℕ
table = blank (width * per_set)

pub offset-end-requires : goal.offset-end-requires
offset-end-requires c = omega (arith, table_fits table c.requires.0.sized refl)

pub copy_changed-requires : goal.copy_changed-requires
copy_changed-requires c =
    let at_end = c.offset-end.ensures ∙ ap (λ (n : ℕ). n * per_set) c.count.ensures in
    let room = table_fits table c.requires.0.sized refl in
    (c.requires.0.sized, c.requires.1.one, c.requires.1.other, lent_length table _ c.offset-end.result at_end room)

pub renew-requires : goal.renew-requires
renew-requires c =
    let at_end = c.offset-end.ensures ∙ ap (λ (n : ℕ). n * per_set) c.count.ensures in
    let room = table_fits table c.requires.0.sized refl in
    let long = offset_fits _ c.offset-end.result table at_end room in
    let stored_long = c.copy_changed.auto.table ∙ length-take-le c.offset-end.result table long in
    let made_graph = ap masks (front_part c.copy_changed.new.table (drop c.offset-end.result table) stored_long) ∙ c.copy_changed.ensures in
    rw made_graph (changed_accepted c.requires.0 c.requires.1)
