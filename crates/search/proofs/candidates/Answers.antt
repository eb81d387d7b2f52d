-- Every listed plex lies in the core, and in the set of all vertices.
use mathlib.Core.Path.{ap, ◌∙◌}
use Rattle.sets.specs.Set.{full}
use Rattle.search.specs.StartLaws.{core_candidates, all_candidates}
use Rattle.search.proofs.candidates.Goals as goal

pub returns-then-k-q : goal.returns-then-k-q
returns-then-k-q c = core_candidates c.core.ensures

pub returns : goal.returns
returns c = all_candidates (c.full.ensures ∙ ap full c.count.ensures)
