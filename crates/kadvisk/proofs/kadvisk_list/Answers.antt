-- The request is that of the three arguments, and the outcome that of the answer of `list`, which also leaves the lent buffer as promised.
use mathlib.Core.Path.{ap, ◌∙◌}
use Rattle.kadvisk.specs.Outcome.{outcome, nothing}
use Rattle.kadvisk.proofs.kadvisk_list.Goals as goal

pub returns : goal.returns
returns c =
    let left = rw c.request_of.ensures at c.list-found.ensures in
    record { answer = c.value.ensures ∙ ap (outcome nothing) left.reply; slots = left.slots }
