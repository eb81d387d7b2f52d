-- At each turn x is the number of the digits before the index, capped (Numbering), so that ten times x and a digit more fit: the first byte that is no digit
-- ends it.
use Rattle.dimacs.specs.FigureLaws.{Numbering}
use Rattle.dimacs.proofs.figures.digits.Given as goal

abbrev pub invariant-loop-b : goal.invariant-loop-b
invariant-loop-b l = Numbering l.text l.b-index l.x
