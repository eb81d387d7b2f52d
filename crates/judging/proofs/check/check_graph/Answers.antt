-- The number of rows is tested first; where it is accepted, what is left are the causes of the edges.
use Rattle.judging.specs.Refusal.{vertex_cause}
use Rattle.judging.specs.Calls.{graph_check}
use Rattle.judging.specs.RefusalLaws.{sized}
use Rattle.judging.specs.CallLaws.{accepted, test_refused, test_accepted}
use Rattle.judging.proofs.check.check_graph.Goals as goal

pub returns-then-not-rows_accepted : goal.returns-then-not-rows_accepted
unfolding graph_check vertex_cause
returns-then-not-rows_accepted c = test_refused _ _ c.rows_accepted.ensures c.if-not-rows_accepted.true

pub check_edges-requires : goal.check_edges-requires
check_edges-requires c = sized _ (accepted _ _ c.rows_accepted.ensures c.if-not-rows_accepted.false)

pub returns : goal.returns
unfolding graph_check vertex_cause
returns c = test_accepted _ _ c.rows_accepted.ensures c.if-not-rows_accepted.false c.check_edges.ensures
