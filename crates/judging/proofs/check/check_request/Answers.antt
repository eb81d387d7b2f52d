-- The numbers decide first; once they have passed, the silent set and the edges.
use mathlib.Core.Path.{◌∙◌, sym}
use Rattle.judging.specs.Calls.{number_check, request_check, passed}
use Rattle.judging.proofs.PassedLaws.{numbers_sized}
use Rattle.judging.specs.CallLaws.{handed_on, front_refused, front_accepted}
use Rattle.judging.proofs.check.check_request.Goals as goal

pub returns-in_err-check_numbers : goal.returns-in_err-check_numbers
unfolding request_check
returns-in_err-check_numbers c =
    rw (handed_on _ c.from_residual.ensures.1)
    (front_refused (number_check _ _ _) _ passed _ (rw (← c.count.ensures) c.in_err-check_numbers.ensures))

pub check_silent-requires : goal.check_silent-requires
check_silent-requires c = numbers_sized _ _ _ (sym (rw c.count.ensures at c.in_ok-check_numbers.ensures))

pub returns : goal.returns
unfolding request_check
returns c =
    c.check_silent.ensures ∙ sym (front_accepted (number_check _ _ _) _ passed (rw (← c.count.ensures) c.in_ok-check_numbers.ensures))
