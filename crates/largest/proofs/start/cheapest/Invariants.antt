-- The best so far is always a candidate: the lowest at first, and later one that was looked at.
use Rattle.sets.specs.Words.{mask}
use Rattle.search.specs.ChoiceLaws.{Choosing}
use Rattle.largest.proofs.start.cheapest.Given as goal

abbrev pub invariant-loop-s : goal.invariant-loop-s
invariant-loop-s l = Choosing (mask l.initial.left) (mask l.left) l.best

abbrev pub decreases-loop-s : goal.decreases-loop-s
decreases-loop-s l = mask l.left
