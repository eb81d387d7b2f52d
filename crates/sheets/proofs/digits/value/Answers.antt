-- Each arm is a case of the definition: a figure, a letter, or what is below, between or above them.
use Rattle.sheets.specs.DigitLaws.{value_figure, value_letter, value_below, value_amid, value_above}
use native.Mathlib.Omega.{arith}
use Rattle.sheets.proofs.digits.value.Goals as goal

pub returns-in-48-to-57 : goal.returns-in-48-to-57
returns-in-48-to-57 c = let v = value_figure c.args.b (omega arith) (omega arith) in (omega arith, omega arith)

pub returns-in-65-to-70 : goal.returns-in-65-to-70
returns-in-65-to-70 c = let v = value_letter c.args.b (omega arith) (omega arith) in (omega arith, omega arith)

pub returns-in_default : goal.returns-in_default
returns-in_default c = omega (arith, value_below c.args.b (omega arith))

pub returns-in_default-2 : goal.returns-in_default-2
returns-in_default-2 c = omega (arith, value_amid c.args.b (omega arith) (omega arith))

pub returns-in_default-3 : goal.returns-in_default-3
returns-in_default-3 c = omega (arith, value_above c.args.b (omega arith))
