-- Each arm is a case of the definition: a digit, or what is below or above the digits.
use Rattle.dimacs.specs.FigureLaws.{digit_inside, digit_outside, decimal_below, decimal_above}
use Rattle.std.proofs.Common.{Some, ap, ◌∙◌}
use native.Mathlib.Omega.{arith}
use Rattle.dimacs.proofs.figures.value.Goals as goal

pub returns-in-48-to-57 : goal.returns-in-48-to-57
returns-in-48-to-57 c = ap Some c.from.ensures ∙ digit_inside c.args.b (omega arith) (omega arith)

pub returns-in_default : goal.returns-in_default
returns-in_default c = digit_outside c.args.b (decimal_below c.args.b (omega arith))

pub returns-in_default-2 : goal.returns-in_default-2
returns-in_default-2 c = digit_outside c.args.b (decimal_above c.args.b (omega arith))
