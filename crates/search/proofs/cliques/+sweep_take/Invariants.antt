-- A sweep adds what each vertex to take adds in turn. A clique adds what its end adds where at most two candidates are left or no more is wanted, and else
-- what a sweep over the candidates of a pivot adds. The measure is the candidates, which fall when a vertex is taken.
use Rattle.std.specs.Prelude.{◌≡◌, ◌+◌, ◌*◌}
use lib.Bits.{bit_or}
use Rattle.judging.specs.Request.{request}
use Rattle.sets.specs.Words.{mask, masks}
use Rattle.search.specs.SweepLaws.{Swept}
use Rattle.search.proofs.cliques.+sweep_take.Given as goal

abbrev pub invariant-sweep-loop-want : goal.invariant-sweep-loop-want
invariant-sweep-loop-want g l = record {
  swept : Swept (masks l.rows) (request 1 (g.W.Wanted.least l.want (mask l.s)) (g.W.Wanted.silent l.want)) (mask l.s) (mask l.initial.waiting) (mask l.m)
      (mask l.initial.left) (masks l.initial.slots.lent.now) l.initial.slots.count (mask l.waiting) (mask l.left) (masks l.slots.lent.now) l.slots.count;
  same : l.slots.lent.ghost_name ≡ l.initial.slots.lent.ghost_name;
}

abbrev pub decreases-sweep-loop-want : goal.decreases-sweep-loop-want
decreases-sweep-loop-want g l = mask l.left

abbrev pub decreases-sweep : goal.decreases-sweep
decreases-sweep g l = 2 * bit_or (mask l.base) (mask l.todo)

abbrev pub decreases-take : goal.decreases-take
decreases-take g l = 2 * mask l.c + 1
