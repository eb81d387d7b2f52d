-- After v turns the first v rows are those of the cuts that are switched on, each of which is near.
use Rattle.std.specs.Prelude.{◌≡◌, length}
use Rattle.sets.specs.Words.{mask, masks}
use Rattle.search.specs.NearRows.{near_row}
use Rattle.search.specs.NearRowsLaws.{Written}
use Rattle.search.proofs.near.fill.Given as goal

abbrev pub invariant-loop-v : goal.invariant-loop-v
invariant-loop-v l = Written (near_row (masks l.rows) l.k l.q (mask l.all) (mask l.fn.core) l.reach l.pairs) l.v (masks l.initial.near) (masks l.near) ×
    (length l.near ≡ length l.initial.near)
