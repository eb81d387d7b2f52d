-- The members are looked at in rising order, so the last of them is the highest.
use Rattle.sets.specs.WalkLaws.{walk_falls, empty_holds}
use Rattle.largest.specs.ClimbLaws.{topmost_next, topmost_all}
use Rattle.largest.proofs.lowest.highest.Goals as goal

pub loop-last-smaller : goal.loop-last-smaller
loop-last-smaller c = walk_falls c.lowest-last-in-loop-last.ensures c.rest-todo.ensures

pub loop-last-preserved : goal.loop-last-preserved
loop-last-preserved c = topmost_next c.loop-last.invariant c.lowest-last-in-loop-last.ensures c.rest-todo.ensures

pub returns : goal.returns
returns c = topmost_all (empty_holds c.is_empty.ensures c.loop-last-test.false) c.loop-last.invariant
