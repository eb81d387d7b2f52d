-- The checks decide first: a failed one is the reply. What passed is a set of vertices of a valid graph, and its looseness is the answer.
use mathlib.Core.Path.{sym}
use Rattle.judging.specs.Calls.{looseness_reply}
use Rattle.judging.proofs.PassedLaws.{inside_checked}
use Rattle.judging.specs.CallLaws.{handed_on, check_failed, check_answers}
use Rattle.judging.proofs.looseness.Goals as goal

pub returns-in_err-check_inside : goal.returns-in_err-check_inside
unfolding looseness_reply
returns-in_err-check_inside c = rw (handed_on _ c.from_residual.ensures.1) (check_failed _ _ _ c.in_err-check_inside.ensures)

pub looseness-requires : goal.looseness-requires
looseness-requires c = (inside_checked _ _ (sym c.in_ok-check_inside.ensures)).inside

pub returns : goal.returns
unfolding looseness_reply
returns c = check_answers _ c.in_ok-check_inside.ensures c.looseness.ensures
