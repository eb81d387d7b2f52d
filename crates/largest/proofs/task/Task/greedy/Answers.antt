-- What has joined is a plex at every turn, and the candidates beside it fall.
use Rattle.std.proofs.Common.{arith}
use Rattle.search.specs.ReadyLaws.{ready_vertex}
use Rattle.largest.specs.FitLaws.{join_falls, growing_next}
use Rattle.largest.proofs.task.Task.greedy.Goals as goal

pub with-s-requires : goal.with-s-requires
with-s-requires c = omega (arith, ready_vertex c.loop-left.invariant.ready _ c.cheapest-v.ensures)

pub loop-left-smaller : goal.loop-left-smaller
loop-left-smaller c = join_falls c.cheapest-v.ensures c.beside-left.ensures

pub loop-left-preserved : goal.loop-left-preserved
loop-left-preserved c = growing_next c.loop-left.invariant c.cheapest-v.ensures c.beside-left.ensures c.with-s.ensures
