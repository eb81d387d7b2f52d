-- What has joined is a plex at every turn, and the candidates beside it fall.
use Rattle.sets.specs.Words.{mask, masks}
use Rattle.largest.specs.Fit.{Growing}
use Rattle.largest.specs.Task.{graph, ask}
use Rattle.largest.proofs.task.Task.greedy.Given as goal

abbrev pub invariant-loop-left : goal.invariant-loop-left
invariant-loop-left l = Growing (graph l.self) (masks l.self.near.now) (ask l.self) (mask l.initial.s) (mask l.s) (mask l.left)

abbrev pub decreases-loop-left : goal.decreases-loop-left
decreases-loop-left l = mask l.left
