-- The graph and the slack decide first; once they have passed, the set.
use mathlib.Core.Path.{sym, ◌∙◌}
use Rattle.judging.specs.Calls.{slack_check, set_check, passed}
use Rattle.judging.specs.RefusalLaws.{graph_sized, slack_graph}
use Rattle.judging.specs.CallLaws.{handed_on, front_refused, front_accepted}
use Rattle.judging.proofs.check.check_set.Goals as goal

pub returns-in_err-check_slack : goal.returns-in_err-check_slack
unfolding set_check
returns-in_err-check_slack c = rw (handed_on _ c.from_residual.ensures.1) (front_refused (slack_check _ _) _ passed _ c.in_err-check_slack.ensures)

pub check_below-requires : goal.check_below-requires
check_below-requires c = graph_sized _ (slack_graph _ _ (sym c.in_ok-check_slack.ensures))

pub returns : goal.returns
unfolding set_check
returns c = c.check_below.ensures ∙ sym (front_accepted (slack_check _ _) _ passed c.in_ok-check_slack.ensures)
