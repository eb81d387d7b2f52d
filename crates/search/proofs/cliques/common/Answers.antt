-- The vertices shared by the members passed hold all that the members of s share, and lie in the row of each member passed: when none is left they are
-- the common neighbours.
use mathlib.Core.Path.{ap, ◌∙◌}
use Rattle.sets.specs.Set.{full}
use Rattle.sets.specs.WalkLaws.{walk_falls, empty_holds, walk_below}
use Rattle.search.specs.CliqueLaws.{sharing_none, sharing_next, sharing_all}
use Rattle.search.proofs.cliques.common.Goals as goal

pub loop-left-init : goal.loop-left-init
loop-left-init c = sharing_none (c.full-shared.ensures ∙ ap full c.count.ensures)

pub get-requires : goal.get-requires
get-requires c = walk_below c.requires.below c.loop-left.invariant.beside.part c.lowest-v.ensures

pub loop-left-smaller : goal.loop-left-smaller
loop-left-smaller c = walk_falls c.lowest-v.ensures c.rest-left.ensures

pub loop-left-preserved : goal.loop-left-preserved
loop-left-preserved c = sharing_next c.loop-left.invariant c.lowest-v.ensures c.rest-left.ensures c.get.ensures c.meet-shared.ensures

pub returns : goal.returns
returns c = sharing_all c.loop-left.invariant (empty_holds c.is_empty.ensures c.loop-left-test.false)
