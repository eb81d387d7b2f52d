-- The mask of the set of a word is the word.
use Prim.Native.Nat.{ℕ}
use mathlib.Core.Path.{ap}
use Rattle.judging.specs.Request.{request}
use Rattle.kadvisk.proofs.request_of.Goals as goal

pub returns : goal.returns
returns c = ap (λ (z : ℕ). request c.args.slack c.args.floor z) c.from.ensures
