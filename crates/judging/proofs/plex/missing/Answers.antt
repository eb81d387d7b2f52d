-- What v misses of s is the size of s without the neighbours of v, which is how the definition counts it.
use mathlib.Core.Path.{ap, ◌∙◌}
use Rattle.sets.specs.Set.{size, minus}
use Rattle.judging.specs.Graph.{missing}
use Rattle.judging.proofs.plex.missing.Goals as goal

pub returns : goal.returns
unfolding missing
returns c =
    let rest = c.minus.ensures ∙ ap (minus _) c.get.ensures in
    (c.size.ensures.0 ∙ ap size rest, c.size.ensures.1)
