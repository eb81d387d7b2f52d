-- The best so far is always a member: the lowest at first, and later one that was looked at.
use Rattle.sets.specs.Words.{mask}
use Rattle.search.specs.ChoiceLaws.{Choosing}
use Rattle.search.proofs.choice.farthest.Given as goal

abbrev pub invariant-loop-a : goal.invariant-loop-a
invariant-loop-a l = Choosing (mask l.initial.left) (mask l.left) l.best

abbrev pub decreases-loop-a : goal.decreases-loop-a
decreases-loop-a l = mask l.left
