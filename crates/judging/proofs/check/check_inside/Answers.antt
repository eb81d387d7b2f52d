-- The graph decides first; once it has passed, the set.
use mathlib.Core.Path.{sym, ◌∙◌}
use Rattle.judging.specs.Calls.{graph_check, inside_check, passed}
use Rattle.judging.specs.RefusalLaws.{graph_sized}
use Rattle.judging.specs.CallLaws.{handed_on, front_refused, front_accepted}
use Rattle.judging.proofs.check.check_inside.Goals as goal

pub returns-in_err-check_graph : goal.returns-in_err-check_graph
unfolding inside_check
returns-in_err-check_graph c = rw (handed_on _ c.from_residual.ensures.1) (front_refused (graph_check _) _ passed _ c.in_err-check_graph.ensures)

pub check_below-requires : goal.check_below-requires
check_below-requires c = graph_sized _ (sym c.in_ok-check_graph.ensures)

pub returns : goal.returns
unfolding inside_check
returns c = c.check_below.ensures ∙ sym (front_accepted (graph_check _) _ passed c.in_ok-check_graph.ensures)
