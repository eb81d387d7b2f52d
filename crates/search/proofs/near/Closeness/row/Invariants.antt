-- A walk through the given members, v aside, drops each member that is not close to v, so that those that are close to v stay.
use Rattle.std.specs.Prelude.{not, length}
use Rattle.sets.specs.Words.{mask, masks}
use Rattle.sets.specs.DropLaws.{Dropping}
use Rattle.search.specs.NearRows.{close}
use Rattle.search.proofs.near.Closeness.row.Given as goal

abbrev pub invariant-loop-left : goal.invariant-loop-left
invariant-loop-left l = let g = masks l.self.rows.now in
    Dropping (length g) (λ u. not (close g l.self.k l.self.q (mask l.self.core) l.v u)) (mask l.initial.left) (mask l.initial.left) (mask l.left) (mask l.kept)

abbrev pub decreases-loop-left : goal.decreases-loop-left
decreases-loop-left l = mask l.left
