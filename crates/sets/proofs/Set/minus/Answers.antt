-- A difference goes word by word: what is taken out is masked off by its complement.
use native.Mathlib.Omega.{arith}
use Rattle.sets.specs.Words.Operations.{minus_mask}
use Rattle.sets.proofs.Set.minus.Goals as goal

pub returns : goal.returns
returns c = minus_mask c.args.self c.args.t (omega arith, tt) (omega arith, tt)
