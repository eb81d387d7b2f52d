-- A clique in s and the coloured candidates has fewer than q members, so a sweep tries the others: it gives the first clique that is found with one of them,
-- and where none is found, nothing listed is there. The measure is the candidates, which fall when a vertex joins.
use Rattle.std.specs.Prelude.{◌+◌, ◌*◌, bit_or}
use Rattle.sets.specs.Words.{mask}
use Rattle.largest.specs.SeekLaws.{Swept}
use Rattle.largest.specs.Task.{graph, ask}
use Rattle.largest.proofs.task.Task.+clique_sweep.Given as goal

abbrev pub invariant-sweep-loop-s : goal.invariant-sweep-loop-s
invariant-sweep-loop-s l =
    Swept (graph l.self) (ask l.self) l.have (mask l.s) (mask l.initial.waiting) (mask l.initial.left) (mask l.waiting) (mask l.left)

abbrev pub decreases-sweep-loop-s : goal.decreases-sweep-loop-s
decreases-sweep-loop-s l = mask l.left

abbrev pub decreases-clique : goal.decreases-clique
decreases-clique l = 2 * mask l.c + 1

abbrev pub decreases-sweep : goal.decreases-sweep
decreases-sweep l = 2 * bit_or (mask l.todo) (mask l.base)
