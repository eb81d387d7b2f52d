-- v is taken out of s as the set of v alone.
use mathlib.Core.Path.{ap, ◌∙◌}
use Rattle.sets.specs.Set.{minus}
use Rattle.sets.specs.Words.{mask}
use Rattle.sets.proofs.Set.without.Goals as goal

pub returns : goal.returns
returns c = c.minus.ensures ∙ ap (minus (mask c.args.self)) c.single.ensures
