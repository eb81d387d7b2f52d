-- At each turn x is the number of the digits before the index, capped (Numbering), so that ten times x and a digit more fit: the first byte that is no digit
-- ends it.
use Rattle.std.proofs.Common.{◌∙◌}
use native.Mathlib.Omega.{arith}
use Rattle.dimacs.specs.FigureLaws.{digit_small, numbering_none, numbering_more, numbering_stop, numbering_all}
use Rattle.dimacs.proofs.figures.digits.Goals as goal

pub loop-b-init : goal.loop-b-init
loop-b-init c = numbering_none

pub returns-in_err-value : goal.returns-in_err-value
returns-in_err-value c = c.from_residual.ensures ∙ numbering_stop c.loop-b.invariant (omega arith) c.in_err-value.ensures

pub overflow_add-branch : goal.overflow_add-branch
overflow_add-branch c = omega (arith, c.loop-b.invariant.low, digit_small _ c.in_ok-value.ensures)

pub loop-b-preserved : goal.loop-b-preserved
loop-b-preserved c = numbering_more c.loop-b.invariant (omega arith) c.in_ok-value.ensures (omega (arith, c.min-x.ensures))

pub returns : goal.returns
returns c = numbering_all c.loop-b.invariant (omega arith)
