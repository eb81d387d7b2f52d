-- A word of ones, shifted down until n are left, has the vertices below n.
use native.Mathlib.Omega.{arith}
use Rattle.sets.specs.Words.Operations.{full_mask}
use Rattle.sets.proofs.Set.full.Goals as goal

pub returns : goal.returns
returns c = full_mask c.args.n (omega arith)
