-- An extendable plex adds nothing, any other adds itself.
use mathlib.Core.Path.{sym, ◌∙◌}
use Rattle.lists.specs.PlacingLaws.{unless_more}
use Rattle.search.proofs.branch.Search.leaf.Goals as goal

pub returns-clause-fills : goal.returns-clause-fills
returns-clause-fills c =
    unless_more _ (sym c.is_extendable.ensures ∙ c.if-is_extendable.false)
    (c.push.ensures.fills _ c.requires.below)
