-- A union goes word by word.
use native.Mathlib.Omega.{arith}
use Rattle.sets.specs.Words.Operations.{join_mask}
use Rattle.sets.proofs.Set.join.Goals as goal

pub returns : goal.returns
returns c = join_mask c.args.self c.args.t (omega arith, tt) (omega arith, tt)
