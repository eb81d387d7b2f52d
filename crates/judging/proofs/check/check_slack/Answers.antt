-- One test after the other, in the order of the causes: the number of rows, the slack, and then the edges.
use Rattle.judging.specs.Refusal.{vertex_cause, slack_cause}
use Rattle.judging.specs.Calls.{slack_check}
use Rattle.judging.specs.RefusalLaws.{sized}
use Rattle.judging.specs.CallLaws.{accepted, test_refused, test_accepted}
use Rattle.judging.proofs.check.check_slack.Goals as goal

pub returns-then-not-rows_accepted : goal.returns-then-not-rows_accepted
unfolding slack_check vertex_cause slack_cause
returns-then-not-rows_accepted c = test_refused _ _ c.rows_accepted.ensures c.if-not-rows_accepted.true

pub returns-then-not-slack_accepted : goal.returns-then-not-slack_accepted
unfolding slack_check vertex_cause slack_cause
returns-then-not-slack_accepted c =
    test_accepted _ _ c.rows_accepted.ensures c.if-not-rows_accepted.false
    (test_refused _ _ c.slack_accepted.ensures c.if-not-slack_accepted.true)

pub check_edges-requires : goal.check_edges-requires
check_edges-requires c = sized _ (accepted _ _ c.rows_accepted.ensures c.if-not-rows_accepted.false)

pub returns : goal.returns
unfolding slack_check vertex_cause slack_cause
returns c =
    test_accepted _ _ c.rows_accepted.ensures c.if-not-rows_accepted.false
    (test_accepted _ _ c.slack_accepted.ensures c.if-not-slack_accepted.false c.check_edges.ensures)
