-- The numbers decide first; once they have passed, the edges.
use mathlib.Core.Path.{◌∙◌, sym}
use Rattle.judging.specs.Calls.{number_check, floor_check, passed}
use Rattle.judging.proofs.PassedLaws.{numbers_sized}
use Rattle.judging.specs.CallLaws.{handed_on, front_refused, front_accepted}
use Rattle.judging.proofs.check.check_floor.Goals as goal

pub returns-in_err-check_numbers : goal.returns-in_err-check_numbers
unfolding floor_check
returns-in_err-check_numbers c =
    rw (handed_on _ c.from_residual.ensures.1)
    (front_refused (number_check _ _ _) _ passed _ (rw (← c.count.ensures) c.in_err-check_numbers.ensures))

pub check_edges-requires : goal.check_edges-requires
check_edges-requires c = numbers_sized _ _ _ (sym (rw c.count.ensures at c.in_ok-check_numbers.ensures))

pub returns : goal.returns
unfolding floor_check
returns c =
    c.check_edges.ensures ∙ sym (front_accepted (number_check _ _ _) _ passed (rw (← c.count.ensures) c.in_ok-check_numbers.ensures))
