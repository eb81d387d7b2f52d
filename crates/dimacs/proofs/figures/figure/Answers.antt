-- No byte, or a 0 before others, is no figure; and else the digits decide, as in the definition.
use Rattle.std.proofs.Common.{◌∙◌, true-eqb, false-eqb}
use native.Mathlib.Omega.{arith}
use Rattle.dimacs.specs.FigureLaws.{figure_empty, figure_one, figure_padded, figure_other}
use Rattle.dimacs.proofs.figures.figure.Goals as goal
use Rattle.dimacs.proofs.figures.figure.Goals.{else-first-eq48-via-then-first-eq48+else-not-is_empty, else-first-eq48-via-else-first-eq48}

pub returns-in_err-first : goal.returns-in_err-first
returns-in_err-first c = c.from_residual.ensures ∙ figure_empty _ c.in_err-first.ensures.cases

pub returns-then-not-is_empty : goal.returns-then-not-is_empty
returns-then-not-is_empty c = figure_padded c.in_ok-first.ensures.cases.0 (omega (arith, false-eqb _ 0 c.if-not-is_empty.ensures)) c.if-first-eq48.true

pub returns : goal.returns
returns c =
    c.digits.ensures
    ∙ elim c.else-first-eq48.branch [
      | else-first-eq48-via-then-first-eq48+else-not-is_empty w ↦ figure_one c.in_ok-first.ensures.cases.0 (true-eqb _ 0 w.if-not-is_empty.ensures)
      | else-first-eq48-via-else-first-eq48 w ↦ figure_other c.in_ok-first.ensures.cases.0 w.if-first-eq48.false
    ]
