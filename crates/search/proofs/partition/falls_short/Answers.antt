-- A plex between s and a has, together with r, at most room + q members, and each member chosen takes what it misses beyond k off the room.
use Rattle.std.specs.Prelude.{ℕ}
use native.Mathlib.Omega.{arith}
use mathlib.Core.Path.{ap, ◌∙◌}
use mathlib.Core.Bool.{false≢true}
use lib.Bits.{bit_and, bit_or}
use Rattle.sets.specs.Words.{mask}
use Rattle.search.specs.PartitionLaws.{bounding_none, bounding_more, short_off, short_all, left_below, best_below, left_falls}
use Rattle.search.proofs.partition.falls_short.Goals as goal

pub returns-then-n-q : goal.returns-then-n-q
returns-then-n-q c e = short_all _ _ _ _ _ _ c.size-n.ensures.0 c.if-n-q.true

pub loop-s-init : goal.loop-s-init
loop-s-init c = bounding_none c.size-n.ensures.0 c.if-n-q.false c.requires.part

pub pick-requires : goal.pick-requires
pick-requires c = left_below c.loop-s.invariant c.requires

pub returns-in_default : goal.returns-in_default
returns-in_default c e = absurd (false≢true e)

pub overflow_sub-over : goal.overflow_sub-over
overflow_sub-over c = omega (arith, c.in-Some.ensures.0)

pub returns-then-room-over : goal.returns-then-room-over
returns-then-room-over c e = short_off c.loop-s.invariant c.in-Some.ensures.1 c.in-Some.ensures.0 c.if-room-over.true

pub get-requires : goal.get-requires
get-requires c = best_below c.loop-s.invariant c.in-Some.ensures.1 c.in-Some.ensures.0 c.requires

pub loop-s-smaller : goal.loop-s-smaller
loop-s-smaller c = left_falls c.in-Some.ensures.1 c.in-Some.ensures.0

pub loop-s-preserved : goal.loop-s-preserved
loop-s-preserved c =
    let joined = c.join.ensures ∙ ap (λ (x : ℕ). bit_or x (mask c.args.s)) c.get.ensures in
    bounding_more c.loop-s.invariant c.in-Some.ensures.1 c.in-Some.ensures.0 c.if-room-over.false
    (c.meet-r.ensures ∙ ap (bit_and (mask c.loop-s.r)) joined)

pub returns : goal.returns
returns c e = absurd (false≢true e)
