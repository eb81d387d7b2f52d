-- The switch chooses one of two rows: the reach, or all vertices.
use mathlib.Core.Path.{ap, ◌∙◌}
use Rattle.sets.specs.Set.{full}
use Rattle.search.specs.NearRows.{reach_row}
use Rattle.search.proofs.near.reach_row.Goals as goal

pub returns-then-reach : goal.returns-then-reach
unfolding reach_row
returns-then-reach c = rw c.if-reach.true c.reach.ensures

pub returns : goal.returns
unfolding reach_row
returns c = rw c.if-reach.false (c.full.ensures ∙ ap full c.count.ensures)
