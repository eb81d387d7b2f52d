-- The shifted bit is the set of v alone where b holds, and else no vertex: that is taken out of s.
use mathlib.Core.Path.{ap, ◌∙◌}
use Rattle.sets.specs.Set.{minus}
use Rattle.sets.specs.Words.{mask}
use Rattle.sets.specs.Words.Operations.{single_if_mask}
use Rattle.sets.specs.Words.Masks.{without_if_mask}
use Rattle.sets.proofs.Set.without_if.Goals as goal

pub returns : goal.returns
returns c =
    c.minus.ensures ∙ ap (minus (mask c.args.self)) (single_if_mask c.args.v c.args.b c.requires)
    ∙ without_if_mask (mask c.args.self) c.args.v c.args.b
