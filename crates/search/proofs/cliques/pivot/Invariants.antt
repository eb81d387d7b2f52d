-- What is best so far are all candidates, or those that a vertex of m is not adjacent to.
use Rattle.sets.specs.Words.{mask, masks}
use Rattle.search.specs.CliqueLaws.{Pivoting}
use Rattle.search.proofs.cliques.pivot.Given as goal

abbrev pub invariant-loop-c : goal.invariant-loop-c
invariant-loop-c l = Pivoting (masks l.rows) (mask l.c) (mask l.initial.left) (mask l.left) (mask l.best)

abbrev pub decreases-loop-c : goal.decreases-loop-c
decreases-loop-c l = mask l.left
