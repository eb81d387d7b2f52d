-- What is found midway through the neighbours of v is their rows joined so far, and nothing outside the reach (`Reaching`); at the end it is the reach.
use Rattle.sets.specs.Words.{mask, masks}
use Rattle.bounds.specs.ReachLaws.{Reaching}
use Rattle.bounds.proofs.reach.reach.Given as goal

abbrev pub invariant-loop-left : goal.invariant-loop-left
invariant-loop-left l = Reaching (masks l.rows) l.v (mask l.left) (mask l.found)

abbrev pub decreases-loop-left : goal.decreases-loop-left
decreases-loop-left l = mask l.left
