-- A word that is not 0 has its lowest member behind its trailing zeros, which are fewer than the width.
use native.Mathlib.Omega.{arith}
use lib.Count.{trailing_le}
use Rattle.sets.specs.Words.Operations.{lowest_mask}
use Rattle.sets.proofs.Set.lowest.Goals as goal

pub overflow_cast-result : goal.overflow_cast-result
overflow_cast-result c = omega (arith, trailing_le 64 c.args.self.word)

pub returns : goal.returns
returns c = lowest_mask c.args.self (omega arith, tt) c.requires
