-- The request is that of the three arguments, and the outcome that of the answer of `change`, which also leaves the lent buffers as promised.
use mathlib.Core.Path.{ap, ◌∙◌}
use Rattle.kadvisk.specs.Outcome.{outcome, nothing}
use Rattle.kadvisk.proofs.kadvisk_change.Goals as goal

pub returns : goal.returns
returns c =
    let left = rw c.request_of.ensures at c.change-found.ensures in
    record { answer = c.value.ensures ∙ ap (outcome nothing) left.reply; rows = left.rows; slots = left.slots }
