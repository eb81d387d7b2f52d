-- Every lower plex of the size is among the candidates that are left; once there are none, w is the lowest. The candidates fall, as a number.
use Rattle.sets.specs.Words.{mask, masks}
use Rattle.largest.specs.Climb.{Lowering}
use Rattle.largest.specs.Task.{graph, ask}
use Rattle.largest.proofs.task.Task.lowest.Given as goal

abbrev pub invariant-loop-s : goal.invariant-loop-s
invariant-loop-s l = Lowering (graph l.self) (masks l.self.near.now) (ask l.self) (mask l.initial.s) (mask l.s) (mask l.left) (mask l.best)

abbrev pub decreases-loop-s : goal.decreases-loop-s
decreases-loop-s l = mask l.left
