-- n is outside where it is below lo or above hi: below lo the first test fails, and from lo on the second decides.
use mathlib.Core.Path.{◌∙◌}
use borrow.Author.Tests.{lt-leb}
use Rattle.judging.specs.RefusalLaws.{above_low, below_low}
use Rattle.judging.proofs.check.is_between.Goals as goal

pub returns-then-lo-n : goal.returns-then-lo-n
returns-then-lo-n c = above_low _ _ _ c.if-lo-n.true

pub returns-else-lo-n : goal.returns-else-lo-n
returns-else-lo-n c = lt-leb _ _ c.if-lo-n.false ∙ below_low _ _ _ c.if-lo-n.false
