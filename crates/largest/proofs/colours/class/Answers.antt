-- The lowest vertex that is left is chosen, and its neighbours are looked at no more: so no two that are chosen are adjacent.
use Rattle.sets.specs.WalkLaws.{empty_holds}
use Rattle.largest.specs.ColourLaws.{choosing_none, choosing_vertex, choosing_next, choosing_falls, choosing_all}
use Rattle.largest.proofs.colours.class.Goals as goal

pub loop-left-init : goal.loop-left-init
loop-left-init c = choosing_none c.empty-chosen.ensures

pub get-requires : goal.get-requires
get-requires c = choosing_vertex c.requires c.loop-left.invariant c.lowest-v.ensures

pub loop-left-smaller : goal.loop-left-smaller
loop-left-smaller c = choosing_falls _ c.lowest-v.ensures c.rest.ensures c.minus-left.ensures

pub loop-left-preserved : goal.loop-left-preserved
loop-left-preserved c =
    choosing_next c.requires c.loop-left.invariant c.lowest-v.ensures
    c.with-chosen.ensures c.rest.ensures c.get.ensures c.minus-left.ensures

pub returns : goal.returns
returns c = choosing_all (empty_holds c.is_empty.ensures c.loop-left-test.false) c.loop-left.invariant
