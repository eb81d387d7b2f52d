-- The set decides first; once it is within the graph, the edges.
use mathlib.Core.Path.{◌∙◌, sym}
use Rattle.std.proofs.Common.{[], ◌∷◌}
use Rattle.judging.specs.Refusal.{set_cause}
use Rattle.judging.specs.Calls.{passed}
use Rattle.judging.specs.CallLaws.{handed_on, front_refused, front_accepted}
use Rattle.judging.proofs.check.check_silent.Goals as goal

pub returns-in_err-check_below : goal.returns-in_err-check_below
returns-in_err-check_below c = rw (handed_on _ c.from_residual.ensures.1) (front_refused (set_cause _ _ ∷ []) _ passed _ c.in_err-check_below.ensures)

pub returns : goal.returns
returns c = c.check_edges.ensures ∙ sym (front_accepted (set_cause _ _ ∷ []) _ passed c.in_ok-check_below.ensures)
