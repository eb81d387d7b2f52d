-- The checks decide first: a failed one is the reply. What passed is a set of vertices of a valid graph, and the test decides.
use mathlib.Core.Path.{sym}
use Rattle.judging.specs.Calls.{maximal_reply}
use Rattle.judging.proofs.PassedLaws.{set_checked}
use Rattle.judging.specs.CallLaws.{handed_on, check_failed, check_answers}
use Rattle.judging.proofs.judge_maximal.Goals as goal

pub returns-in_err-check_set : goal.returns-in_err-check_set
unfolding maximal_reply
returns-in_err-check_set c = rw (handed_on _ c.from_residual.ensures.1) (check_failed _ _ _ c.in_err-check_set.ensures)

pub is_maximal-requires : goal.is_maximal-requires
is_maximal-requires c = set_checked _ _ _ (sym c.in_ok-check_set.ensures)

pub returns : goal.returns
unfolding maximal_reply
returns c = check_answers _ c.in_ok-check_set.ensures c.is_maximal.ensures
