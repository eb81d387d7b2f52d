-- The candidates are narrowed by the row of each member that v is not adjacent to and that misses k or more: what goes is in no plex that holds s.
use Rattle.sets.specs.Set.{minus}
use Rattle.sets.specs.Graph.{row}
use Rattle.sets.specs.Words.{mask, masks}
use Rattle.judging.specs.NarrowLaws.{Narrowed}
use Rattle.search.proofs.trim.drop_blocked.Given as goal

abbrev pub invariant-loop-s : goal.invariant-loop-s
invariant-loop-s l = Narrowed (masks l.rows) l.k (mask l.s) (minus (mask l.s) (row (masks l.rows) l.v)) (mask l.initial.kept) (mask l.left) (mask l.kept)

abbrev pub decreases-loop-s : goal.decreases-loop-s
decreases-loop-s l = mask l.left
