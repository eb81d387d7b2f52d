-- Each forced vertex joins as a candidate does in the search, so that every listed plex that holds all of them is still found.
use Rattle.sets.specs.Words.{mask, masks}
use Rattle.largest.specs.Fit.{Joining}
use Rattle.largest.specs.Task.{graph, ask}
use Rattle.largest.proofs.task.Task.fit.Given as goal

abbrev pub invariant-loop-s : goal.invariant-loop-s
invariant-loop-s l = Joining (graph l.self) (masks l.self.near.now) (ask l.self) (mask l.initial.left) (mask l.s) (mask l.c) (mask l.left)

abbrev pub decreases-loop-s : goal.decreases-loop-s
decreases-loop-s l = mask l.left
