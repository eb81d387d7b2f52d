-- The members are counted as the ones of the words, which are at most as many as the width.
use native.Mathlib.Omega.{arith}
use Rattle.sets.specs.Words.Operations.{size_mask}
use Rattle.sets.proofs.Set.size.Goals as goal

pub overflow_cast-result : goal.overflow_cast-result
overflow_cast-result c = omega (arith, size_mask c.args.self (omega arith, tt))

pub returns : goal.returns
returns c = size_mask c.args.self (omega arith, tt)
