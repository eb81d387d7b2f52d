-- The line ends at the first byte 10 of what stands from the position on; where there is none, it is of no shape.
use Rattle.dimacs.specs.LineLaws.{line_unended, line_ended}
use Rattle.dimacs.proofs.lines.line_from.Goals as goal

pub returns-in_default : goal.returns-in_default
returns-in_default c = line_unended _ _ c.requires c.in_default.ensures

pub returns : goal.returns
returns c = line_ended _ _ c.in-Some.ensures c.shape.ensures
