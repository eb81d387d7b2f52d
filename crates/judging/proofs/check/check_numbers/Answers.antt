-- One test after the other, in the order of the causes: the number of vertices, the slack, the floor.
use Rattle.judging.specs.Refusal.{most_slack, vertex_cause, slack_cause, floor_cause}
use Rattle.judging.specs.Calls.{number_check}
use Rattle.judging.specs.RefusalLaws.{within_range}
use Rattle.judging.specs.CallLaws.{accepted, no_cause, test_refused, test_accepted}
use Rattle.judging.proofs.check.check_numbers.Goals as goal

pub returns-then-not-vertices_accepted : goal.returns-then-not-vertices_accepted
unfolding number_check vertex_cause slack_cause floor_cause
returns-then-not-vertices_accepted c = test_refused _ _ c.vertices_accepted.ensures c.if-not-vertices_accepted.true

pub returns-then-not-slack_accepted : goal.returns-then-not-slack_accepted
unfolding number_check vertex_cause slack_cause floor_cause
returns-then-not-slack_accepted c =
    test_accepted _ _ c.vertices_accepted.ensures c.if-not-vertices_accepted.false
    (test_refused _ _ c.slack_accepted.ensures c.if-not-slack_accepted.true)

pub floor_accepted-requires : goal.floor_accepted-requires
floor_accepted-requires c = within_range 1 most_slack _ (accepted _ _ c.slack_accepted.ensures c.if-not-slack_accepted.false)

pub returns-then-not-floor_accepted : goal.returns-then-not-floor_accepted
unfolding number_check vertex_cause slack_cause floor_cause
returns-then-not-floor_accepted c =
    test_accepted _ _ c.vertices_accepted.ensures c.if-not-vertices_accepted.false
    (test_accepted _ _ c.slack_accepted.ensures c.if-not-slack_accepted.false
    (test_refused _ _ c.floor_accepted.ensures c.if-not-floor_accepted.true))

pub returns : goal.returns
unfolding number_check vertex_cause slack_cause floor_cause
returns c =
    test_accepted _ _ c.vertices_accepted.ensures c.if-not-vertices_accepted.false
    (test_accepted _ _ c.slack_accepted.ensures c.if-not-slack_accepted.false
    (test_accepted _ _ c.floor_accepted.ensures c.if-not-floor_accepted.false no_cause))
