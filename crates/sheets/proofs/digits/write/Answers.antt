-- The digits still to be written and those that stand are the digits of x (Filling): each turn writes the lowest digit to the last place that is left.
use native.Mathlib.Omega.{arith}
use Rattle.sheets.specs.DigitLaws.{filling_more, filling_all}
use Rattle.sheets.proofs.digits.write.Goals as goal

pub loop-left-preserved : goal.loop-left-preserved
loop-left-preserved c = filling_more c.loop-left.invariant (omega arith) c.byte.ensures

pub returns : goal.returns
returns c = filling_all c.loop-left.invariant (omega arith)
