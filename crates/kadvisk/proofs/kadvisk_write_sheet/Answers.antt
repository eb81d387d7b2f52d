-- The request is that of the three arguments, and the outcome that of the answer of `write_sheet`, which also leaves the lent buffer as promised.
use mathlib.Core.Path.{ap, ◌∙◌}
use Rattle.kadvisk.specs.Outcome.{outcome, nothing}
use Rattle.kadvisk.proofs.kadvisk_write_sheet.Goals as goal

pub returns : goal.returns
returns c =
    let left = rw c.request_of.ensures at c.write_sheet-written.ensures in
    record { answer = c.value.ensures ∙ ap (outcome nothing) left.reply; text = left.text }
