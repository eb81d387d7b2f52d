-- 1 is shifted up by v, which is below the width, so no digit is lost.
use Rattle.sets.specs.Words.Operations.{single_mask}
use Rattle.sets.proofs.Set.single.Goals as goal

pub returns : goal.returns
returns c = single_mask c.args.v c.requires
