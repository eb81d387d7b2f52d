-- The bit of v is shifted down and the others are masked off, which leaves the digit at v.
use native.Mathlib.Omega.{arith}
use Rattle.sets.specs.Words.Operations.{has_mask}
use Rattle.sets.proofs.Set.has.Goals as goal

pub returns : goal.returns
returns c = has_mask c.args.self c.args.v (omega arith, tt) c.requires
