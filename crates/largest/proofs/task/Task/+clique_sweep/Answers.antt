-- A clique in s and the coloured candidates has fewer than q members, so a sweep tries the others: it gives the first clique that is found with one of them,
-- and where none is found, nothing listed is there. The measure is the candidates, which fall when a vertex joins.
use Rattle.std.proofs.Common.{arith}
use Rattle.sets.specs.PointLaws.{bit_none}
use Rattle.sets.specs.WalkLaws.{walk_falls}
use Rattle.largest.specs.ColourLaws.{coloured_size}
use Rattle.largest.specs.SeekLaws.{seek_large, coloured_empty, coloured_candidates, coloured_sweeping}
use Rattle.largest.specs.SeekLaws.{step, swept_vertex, swept_seeking, swept_falls, swept_some, swept_next}
use Rattle.largest.proofs.task.Task.+clique_sweep.Goals as goal

pub clique-returns-then-self-have : goal.clique-returns-then-self-have
clique-returns-then-self-have t c = seek_large c.requires c.if-self-have.true

pub clique-returns-then-size-need : goal.clique-returns-then-size-need
clique-returns-then-size-need t c =
    coloured_empty 0 (λ u. omega (arith, bit_none u)) c.requires.counted (coloured_size _ _ _ _)
    (omega (arith, c.if-size-need.true, c.size.ensures.0))

pub clique-sweep-requires : goal.clique-sweep-requires
clique-sweep-requires t c = (
  omega (arith, coloured_candidates c.colour-base.ensures c.minus.ensures, c.decreases),
  coloured_sweeping c.colour-base.ensures c.minus.ensures c.requires (omega (arith, c.if-self-have.false)),
)

pub clique-returns : goal.clique-returns
clique-returns t c = rw (coloured_candidates c.colour-base.ensures c.minus.ensures) at c.sweep.ensures

pub sweep-get-requires : goal.sweep-get-requires
sweep-get-requires t c = swept_vertex c.loop-s.invariant c.lowest-v.ensures

pub sweep-clique-requires : goal.sweep-clique-requires
sweep-clique-requires t c =
    let joined =
    step c.lowest-v.ensures c.rest-left.ensures c.with-waiting.ensures c.get.ensures c.meet-beside.ensures c.with.ensures
    in (omega (arith, swept_falls c.loop-s.invariant joined, c.decreases), swept_seeking c.loop-s.invariant joined)

pub sweep-returns-in-Some : goal.sweep-returns-in-Some
sweep-returns-in-Some t c =
    swept_some c.loop-s.invariant
    (step c.lowest-v.ensures c.rest-left.ensures c.with-waiting.ensures c.get.ensures c.meet-beside.ensures c.with.ensures) c.in-Some.ensures

pub sweep-loop-s-smaller : goal.sweep-loop-s-smaller
sweep-loop-s-smaller t c = walk_falls c.lowest-v.ensures c.rest-left.ensures

pub sweep-loop-s-preserved : goal.sweep-loop-s-preserved
sweep-loop-s-preserved t c =
    swept_next c.loop-s.invariant
    (step c.lowest-v.ensures c.rest-left.ensures c.with-waiting.ensures c.get.ensures c.meet-beside.ensures c.with.ensures) c.in_default.ensures
