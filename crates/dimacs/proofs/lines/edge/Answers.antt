-- What is told of the two fields decides, as in the definition.
use Rattle.std.proofs.Common.{◌∙◌, ap}
use Rattle.dimacs.specs.Setting.{kind_told}
use Rattle.dimacs.specs.LineLaws.{edge_other, edge_told}
use Rattle.dimacs.proofs.lines.edge.Goals as goal

pub returns-in_err-u : goal.returns-in_err-u
returns-in_err-u c = ap kind_told c.from_residual.ensures ∙ edge_other _ c.in_err-u.ensures

pub returns : goal.returns
returns c = edge_told _ c.in_ok-u.ensures
