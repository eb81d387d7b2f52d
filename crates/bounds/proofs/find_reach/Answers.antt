-- The checks of the table decide first and the vertex next: a refusal is the call's, and else the reach of v is the answer.
use native.Mathlib.Omega.{arith}
use Rattle.judging.specs.CallLaws.{handed_on}
use Rattle.bounds.specs.CallLaws.{reach_refused, reach_ready, reach-outside_refused, reach_found}
use Rattle.bounds.proofs.find_reach.Goals as goal

pub returns-in_err-check_graph : goal.returns-in_err-check_graph
returns-in_err-check_graph c = rw (handed_on _ c.from_residual.ensures.1) (reach_refused _ _ _ c.in_err-check_graph.ensures)

pub returns-then-count-v : goal.returns-then-count-v
returns-then-count-v c = reach-outside_refused _ _ c.in_ok-check_graph.ensures (omega arith)

pub reach-requires : goal.reach-requires
reach-requires c = reach_ready _ _ c.in_ok-check_graph.ensures (omega arith)

pub returns : goal.returns
returns c = reach_found _ _ c.in_ok-check_graph.ensures (omega arith) c.reach.ensures
