-- Each member passed is dropped or kept, and best is the one passed that misses most, if that is more than k.
use Rattle.sets.specs.Words.{mask, masks}
use Rattle.search.specs.PartitionLaws.{Picking}
use Rattle.search.proofs.partition.pick.Given as goal

abbrev pub invariant-loop-r : goal.invariant-loop-r
invariant-loop-r l = Picking (masks l.rows) l.k (mask l.r) (mask l.initial.todo) (mask l.todo) (mask l.kept) l.best l.most

abbrev pub decreases-loop-r : goal.decreases-loop-r
decreases-loop-r l = mask l.todo
