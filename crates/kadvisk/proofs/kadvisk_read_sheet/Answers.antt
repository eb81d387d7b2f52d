-- The outcome is that of the answer of `read_sheet`, which also leaves the lent buffer as promised.
use mathlib.Core.Path.{ap, ◌∙◌}
use Rattle.kadvisk.specs.Outcome.{read_outcome}
use Rattle.kadvisk.proofs.kadvisk_read_sheet.Goals as goal

pub returns : goal.returns
returns c = record { answer = c.read.ensures ∙ ap (read_outcome) c.read_sheet.ensures.reply; rows = c.read_sheet.ensures.rows }
