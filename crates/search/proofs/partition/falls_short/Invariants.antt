-- A plex between s and a has, together with r, at most room + q members, and each member chosen takes what it misses beyond k off the room.
use Rattle.sets.specs.Set.{size}
use Rattle.sets.specs.Words.{mask, masks}
use Rattle.search.specs.PartitionLaws.{Bounding}
use Rattle.search.proofs.partition.falls_short.Given as goal

abbrev pub invariant-loop-s : goal.invariant-loop-s
invariant-loop-s l = Bounding (masks l.rows) l.k l.q (mask l.s) (mask l.initial.r) (mask l.left) (mask l.r) l.room

abbrev pub decreases-loop-s : goal.decreases-loop-s
decreases-loop-s l = size (mask l.left)
