-- The lowest vertex that is left is chosen, and its neighbours are looked at no more: so no two that are chosen are adjacent.
use Rattle.sets.specs.Words.{mask, masks}
use Rattle.largest.specs.ColourLaws.{Choosing}
use Rattle.largest.proofs.colours.class.Given as goal

abbrev pub invariant-loop-left : goal.invariant-loop-left
invariant-loop-left l = Choosing (masks l.rows) (mask l.initial.left) (mask l.left) (mask l.chosen)

abbrev pub decreases-loop-left : goal.decreases-loop-left
decreases-loop-left l = mask l.left
