-- The members are looked at in rising order, so the last of them is the highest.
use Rattle.sets.specs.Words.{mask}
use Rattle.largest.specs.Climb.{Topmost}
use Rattle.largest.proofs.lowest.highest.Given as goal

abbrev pub invariant-loop-last : goal.invariant-loop-last
invariant-loop-last l = Topmost (mask l.initial.todo) (mask l.todo) l.last

abbrev pub decreases-loop-last : goal.decreases-loop-last
decreases-loop-last l = mask l.todo
