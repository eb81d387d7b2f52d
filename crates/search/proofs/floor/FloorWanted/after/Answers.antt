-- One member less is lacking beside one more, or as many where v is silent.
use Rattle.std.specs.Prelude.{refl}
use native.Mathlib.Omega.{arith}
use Rattle.sets.specs.BitLaws.{bit_le}
use Rattle.sets.specs.Words.{mask}
use Rattle.judging.specs.Request.{request}
use Rattle.search.specs.RecordedLaws.{recorded_with}
use Rattle.search.proofs.floor.FloorWanted.after.Goals as goal

pub overflow_add-result : goal.overflow_add-result
overflow_add-result c = omega (arith, c.requires.1, c.indicator.ensures, bit_le (mask c.args.self.silent) c.args.v)

pub returns : goal.returns
returns c = (
  refl,
  λ s out. omega (
    arith,
    c.requires.1,
    c.indicator.ensures,
    bit_le (mask c.args.self.silent) c.args.v,
    recorded_with (request 1 0 (mask c.args.self.silent)) s c.args.v out,
  ),
)
