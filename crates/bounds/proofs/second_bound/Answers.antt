-- The checks decide first: a refusal is the call's, and once all have passed the second bound is the answer.
use mathlib.Core.Path.{sym}
use Rattle.judging.specs.CallLaws.{handed_on, check_failed, check_answers}
use Rattle.bounds.specs.BoundCalls.{second_bound_reply}
use Rattle.bounds.specs.BoundCallLaws.{bound_checked}
use Rattle.bounds.proofs.second_bound.Goals as goal

pub returns-in_err-check_bound : goal.returns-in_err-check_bound
unfolding second_bound_reply
returns-in_err-check_bound c = rw (handed_on _ c.from_residual.ensures.1) (check_failed _ _ _ c.in_err-check_bound.ensures)

pub second_bound-requires : goal.second_bound-requires
second_bound-requires c = bound_checked _ _ _ _ _ (sym c.in_ok-check_bound.ensures)

pub returns : goal.returns
unfolding second_bound_reply
returns c = check_answers _ c.in_ok-check_bound.ensures c.second_bound.ensures
