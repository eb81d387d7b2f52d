-- What is told of the two fields decides, as in the definition: an m above its limit makes the line one of another shape.
use Rattle.std.proofs.Common.{◌∙◌, ap}
use Rattle.dimacs.specs.Setting.{kind_told}
use Rattle.dimacs.specs.LineLaws.{problem_other, problem_large, problem_told}
use Rattle.dimacs.proofs.lines.problem.Goals as goal

pub returns-in_err-vertices : goal.returns-in_err-vertices
returns-in_err-vertices c = ap kind_told c.from_residual.ensures ∙ problem_other _ c.in_err-vertices.ensures

pub returns-then-edges-gt-MOST_EDGES : goal.returns-then-edges-gt-MOST_EDGES
returns-then-edges-gt-MOST_EDGES c = problem_large _ c.in_ok-vertices.ensures c.if-edges-gt-MOST_EDGES.true

pub returns : goal.returns
returns c = problem_told _ c.in_ok-vertices.ensures c.if-edges-gt-MOST_EDGES.false
