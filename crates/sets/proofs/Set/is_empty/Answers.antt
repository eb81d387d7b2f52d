-- A mask is 0 exactly where each of its words is.
use Rattle.sets.specs.Words.Operations.{is_empty_mask}
use Rattle.sets.proofs.Set.is_empty.Goals as goal

pub returns : goal.returns
returns c = is_empty_mask c.args.self
