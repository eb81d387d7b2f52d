-- Words that are 0 are the mask 0.
use Rattle.sets.specs.Words.Operations.{empty_mask}
use Rattle.sets.proofs.Set.empty.Goals as goal

pub returns : goal.returns
returns c = empty_mask
