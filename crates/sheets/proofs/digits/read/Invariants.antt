-- The bytes before the present one are digits (Passing), and x is their number (Numbering): a digit more makes it 16 x and the digit's value, which a word
-- has room for. The first byte that is no digit ends the loop.
use Rattle.sheets.specs.DigitLaws.{Passing, Numbering}
use Rattle.sheets.proofs.digits.read.Given as goal

abbrev pub invariant-loop-b : goal.invariant-loop-b
invariant-loop-b l = Passing l.text l.b-index × Numbering l.text l.b-index l.x
