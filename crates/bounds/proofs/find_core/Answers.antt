-- The checks decide first: a refusal is the call's, and once all have passed the core of q - k is the answer, as k is at most q.
use Rattle.judging.specs.CallLaws.{handed_on, check_failed, check_answers}
use Rattle.bounds.specs.Calls.{core_reply}
use Rattle.bounds.specs.CallLaws.{core_peelable, core_floor, peeling_found}
use Rattle.bounds.proofs.find_core.Goals as goal

pub returns-in_err-check_floor : goal.returns-in_err-check_floor
unfolding core_reply
returns-in_err-check_floor c = rw (handed_on _ c.from_residual.ensures.1) (check_failed _ _ _ c.in_err-check_floor.ensures)

pub overflow_sub-floor : goal.overflow_sub-floor
overflow_sub-floor c = core_floor _ _ _ c.in_ok-check_floor.ensures

pub peel-requires : goal.peel-requires
peel-requires c = core_peelable _ _ _ c.in_ok-check_floor.ensures

pub returns : goal.returns
unfolding core_reply
returns c = check_answers _ c.in_ok-check_floor.ensures (peeling_found _ _ c.peel.ensures)
