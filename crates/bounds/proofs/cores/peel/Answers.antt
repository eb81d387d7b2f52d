-- The passes start from all vertices, and the core within them is the core.
use Rattle.bounds.specs.PeelLaws.{all_peeled}
use Rattle.bounds.proofs.cores.peel.Goals as goal

pub returns : goal.returns
returns c = all_peeled _ c.count.ensures c.full.ensures _ c.peel_from.ensures
