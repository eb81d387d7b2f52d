-- An intersection goes word by word.
use native.Mathlib.Omega.{arith}
use Rattle.sets.specs.Words.Operations.{meet_mask}
use Rattle.sets.proofs.Set.meet.Goals as goal

pub returns : goal.returns
returns c = meet_mask c.args.self c.args.t (omega arith, tt) (omega arith, tt)
