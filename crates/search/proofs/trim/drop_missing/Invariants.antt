-- Of the candidates that v is not adjacent to those are dropped that miss k or more of s: no plex that holds s has such a one.
use Rattle.std.specs.Prelude.{length}
use Rattle.sets.specs.Set.{minus}
use Rattle.sets.specs.Graph.{row}
use Rattle.sets.specs.Words.{mask, masks}
use Rattle.sets.specs.DropLaws.{Dropping}
use Rattle.search.specs.TrimLaws.{costly}
use Rattle.search.proofs.trim.drop_missing.Given as goal

abbrev pub invariant-loop-s : goal.invariant-loop-s
invariant-loop-s l = let g = masks l.rows in
    Dropping (length g) (costly g l.k (mask l.s)) (mask l.initial.kept) (minus (mask l.initial.kept) (row g l.v)) (mask l.left) (mask l.kept)

abbrev pub decreases-loop-s : goal.decreases-loop-s
decreases-loop-s l = mask l.left
