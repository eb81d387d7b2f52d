-- The outcome is that of the answer of `read_dimacs`, which also leaves the lent buffer as promised.
use mathlib.Core.Path.{ap, ◌∙◌}
use Rattle.kadvisk.specs.Outcome.{outcome, nothing}
use Rattle.kadvisk.proofs.kadvisk_read_dimacs.Goals as goal

pub returns : goal.returns
returns c = record { answer = c.value.ensures ∙ ap (outcome nothing) c.read_dimacs.ensures.reply; rows = c.read_dimacs.ensures.rows }
