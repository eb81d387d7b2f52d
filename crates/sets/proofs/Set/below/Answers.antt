-- A set has no member of n or above where it does not come after the set of all vertices below n.
use Rattle.std.proofs.Common.{refl, ◌∙◌}
use Rattle.sets.specs.Words.Operations.{le_mask}
use Rattle.sets.specs.Words.Masks.{below_mask}
use Rattle.sets.proofs.Set.below.Goals as goal

pub returns : goal.returns
returns c = c.le.ensures ∙ le_mask _ _ ∙ below_mask c.args.self c.full.result c.args.n _ c.full.ensures refl
