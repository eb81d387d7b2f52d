-- The digit at v, shifted down and freed of the others, is the number itself.
use native.Mathlib.Omega.{arith}
use Rattle.sets.specs.Words.Operations.{indicator_mask}
use Rattle.sets.proofs.Set.indicator.Goals as goal

pub returns : goal.returns
returns c = indicator_mask c.args.self c.args.v (omega arith, tt) c.requires
