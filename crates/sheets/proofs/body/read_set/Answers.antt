-- The mask of the set of a word is the word, and the word is the number on the line.
use mathlib.Core.Path.{◌∙◌}
use Rattle.sheets.specs.BodyLaws.{set_read}
use Rattle.sheets.proofs.body.read_set.Goals as goal

pub returns : goal.returns
returns c = let r = set_read _ _ c.in-Some.ensures in (c.from.ensures ∙ r.0, r.1)
