-- The digits still to be written and those that stand are the digits of x (Filling): each turn writes the lowest digit to the last place that is left.
use Rattle.sheets.specs.DigitLaws.{Filling}
use Rattle.sheets.proofs.digits.write.Given as goal

abbrev pub invariant-loop-left : goal.invariant-loop-left
invariant-loop-left l = Filling l.x l.initial.text l.text l.left l.high
