-- Each branch is a case of the definition: the figures below 10, and the letters from there on.
use native.Mathlib.Omega.{arith}
use Rattle.sheets.specs.DigitLaws.{byte_figure, byte_letter}
use Rattle.sheets.proofs.digits.byte.Goals as goal

pub returns-then-d-lt10 : goal.returns-then-d-lt10
returns-then-d-lt10 c = omega (arith, byte_figure c.args.d c.if-d-lt10.true)

pub returns-else-d-lt10 : goal.returns-else-d-lt10
returns-else-d-lt10 c = omega (arith, byte_letter c.args.d c.if-d-lt10.false)
