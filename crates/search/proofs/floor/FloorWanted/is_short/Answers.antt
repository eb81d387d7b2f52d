-- One vertex is one member, or none where it is silent.
use Rattle.sets.specs.BitLaws.{bit_le}
use Rattle.search.proofs.floor.FloorWanted.is_short.Goals as goal

pub overflow_sub-result : goal.overflow_sub-result
overflow_sub-result c = rw c.indicator.ensures (bit_le _ _)
