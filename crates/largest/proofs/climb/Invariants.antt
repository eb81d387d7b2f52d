-- The best so far holds the forced vertices at every turn, and the table serves its size; where no larger one is held, none is larger, and the lowest of the
-- size is sought.
use Rattle.std.specs.Prelude.{◌-◌, ◌≤◌, ◌≡◌}
use Rattle.sets.specs.Set.{size}
use Rattle.sets.specs.Words.{mask, masks}
use Rattle.largest.specs.Largest.{Holding}
use Rattle.largest.proofs.climb.Given as goal

abbrev pub invariant-loop-size : goal.invariant-loop-size
invariant-loop-size l = record {
  holds : Holding (masks l.rows) l.k (mask l.forced) (mask l.best);
  rows : masks l.table.rows.now ≡ masks l.rows;
  slack : l.table.k ≡ l.k;
  floor : l.table.floor ≤ size (mask l.best);
}

abbrev pub decreases-loop-size : goal.decreases-loop-size
decreases-loop-size l = l.n - size (mask l.best)
