-- The candidates beside s and v in the near row of v, and of these those with enough common neighbours.
use Rattle.search.specs.ReadyLaws.{ready_joinable}
use Rattle.largest.specs.FitLaws.{join_siftable, join_sifted}
use Rattle.largest.proofs.task.Task.beside.Goals as goal

pub beside-close-requires : goal.beside-close-requires
beside-close-requires c = ready_joinable (record { settled = c.args.self.now.settled; fine = c.requires.0 }) _ c.requires.1

pub sift-requires : goal.sift-requires
sift-requires c = join_siftable (record { settled = c.args.self.now.settled; fine = c.requires.0 }) c.beside-close.ensures c.requires.1

pub returns : goal.returns
returns c = join_sifted (record { settled = c.args.self.now.settled; fine = c.requires.0 }) c.beside-close.ensures c.sift.ensures
