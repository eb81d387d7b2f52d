-- The first field ends at the first blank, and the second is all that stands behind it: what is told of both decides, as in the definition.
use Rattle.std.proofs.Common.{◌∙◌}
use Rattle.dimacs.specs.LineLaws.{one_field, first_cut, second_cut, first_none, second_none, both_some}
use Rattle.dimacs.proofs.lines.fields.Goals as goal

pub returns-in_err-i : goal.returns-in_err-i
returns-in_err-i c = c.from_residual.ensures ∙ one_field _ c.in_err-i.ensures

pub returns-in_err-first : goal.returns-in_err-first
returns-in_err-first c = c.from_residual-in_err-first.ensures ∙ first_none _ (c.in_err-first.ensures ∙ first_cut _ c.in_ok-i.ensures)

pub returns-in_err-second : goal.returns-in_err-second
returns-in_err-second c = c.from_residual-in_err-second.ensures ∙ second_none _ (c.in_err-second.ensures ∙ second_cut _ c.in_ok-i.ensures)

pub returns : goal.returns
returns c =
    both_some _ (c.in_ok-first.ensures ∙ first_cut _ c.in_ok-i.ensures) (c.in_ok-second.ensures ∙ second_cut _ c.in_ok-i.ensures)
