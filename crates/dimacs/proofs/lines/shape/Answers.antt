-- The first byte tells which of the definition's cases the line is, and what stands behind it whether it has that shape.
use Rattle.std.proofs.Common.{◌∙◌, ap}
use native.Mathlib.Omega.{arith}
use Rattle.dimacs.specs.Lines.{problem_word, problem_kind, edge_word, edge_kind}
use Rattle.dimacs.specs.Setting.{kind_told}
use Rattle.dimacs.specs.LineLaws.{behind_other, behind_told, shape_empty, shape_comment, shape_problem, shape_edge, shape_other}
use Rattle.dimacs.proofs.lines.shape.Goals as goal

pub returns-in_err-letter : goal.returns-in_err-letter
returns-in_err-letter c = ap kind_told c.from_residual.ensures ∙ shape_empty _ c.in_err-letter.ensures.cases

pub returns-in-99 : goal.returns-in-99
returns-in-99 c = shape_comment c.in_ok-letter.ensures.cases.0 c.in-99.is

pub returns-in_err-strip_prefix-in-112 : goal.returns-in_err-strip_prefix-in-112
returns-in_err-strip_prefix-in-112 c =
    ap kind_told c.from_residual-in_err-strip_prefix-in-112.ensures
    ∙ shape_problem c.in_ok-letter.ensures.cases.0 c.in-112.is (behind_other problem_word problem_kind _ c.in_err-strip_prefix-in-112.ensures.cases)

pub returns-in_ok-strip_prefix-in-112 : goal.returns-in_ok-strip_prefix-in-112
returns-in_ok-strip_prefix-in-112 c =
    let strip = c.in_ok-strip_prefix-in-112.ensures.cases in
    shape_problem c.in_ok-letter.ensures.cases.0 c.in-112.is (behind_told problem_word problem_kind _ strip.0 strip.1 c.problem.ensures)

pub returns-in_err-strip_prefix-in-101 : goal.returns-in_err-strip_prefix-in-101
returns-in_err-strip_prefix-in-101 c =
    ap kind_told c.from_residual-in_err-strip_prefix-in-101.ensures
    ∙ shape_edge c.in_ok-letter.ensures.cases.0 c.in-101.is (behind_other edge_word edge_kind _ c.in_err-strip_prefix-in-101.ensures.cases)

pub returns-in_ok-strip_prefix-in-101 : goal.returns-in_ok-strip_prefix-in-101
returns-in_ok-strip_prefix-in-101 c =
    let strip = c.in_ok-strip_prefix-in-101.ensures.cases in
    shape_edge c.in_ok-letter.ensures.cases.0 c.in-101.is (behind_told edge_word edge_kind _ strip.0 strip.1 c.edge.ensures)

pub returns-in_default : goal.returns-in_default
returns-in_default c = shape_other c.in_ok-letter.ensures.cases.0 (λ e. omega arith) (λ e. omega arith) (λ e. omega arith)
