-- A walk through the silent set drops each that is adjacent to at most m members of s, so that those that are adjacent to more stay.
use Rattle.std.specs.Prelude.{leb, length}
use Rattle.sets.specs.Words.{mask, masks}
use Rattle.sets.specs.DropLaws.{Dropping}
use Rattle.judging.specs.Graph.{degree}
use Rattle.search.proofs.attached.Given as goal

abbrev pub invariant-loop-s : goal.invariant-loop-s
invariant-loop-s l = let g = masks l.rows in
    Dropping (length g) (λ v. leb (degree g (mask l.s) v) l.m) (mask l.initial.left) (mask l.initial.left) (mask l.left) (mask l.kept)

abbrev pub decreases-loop-s : goal.decreases-loop-s
decreases-loop-s l = mask l.left
