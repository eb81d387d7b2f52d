-- The best so far is always a candidate: the lowest at first, and later one that was looked at.
use Rattle.sets.specs.SubsetLaws.{in_below}
use Rattle.sets.specs.WalkLaws.{walk_falls, walk_below}
use Rattle.search.specs.ChoiceLaws.{choosing_same, choosing_more}
use Rattle.largest.proofs.start.cheapest.Goals as goal

pub cost-least-requires : goal.cost-least-requires
cost-least-requires c = in_below _ _ _ c.requires.below c.lowest-best.ensures.member

pub cost-m-requires : goal.cost-m-requires
cost-m-requires c = walk_below c.requires.below c.loop-s.invariant.part c.lowest-v.ensures

pub loop-s-smaller-then-m-least : goal.loop-s-smaller-then-m-least
loop-s-smaller-then-m-least c = walk_falls c.lowest-v.ensures c.rest-left.ensures

pub loop-s-preserved-then-m-least : goal.loop-s-preserved-then-m-least
loop-s-preserved-then-m-least c = choosing_more c.loop-s.invariant c.lowest-v.ensures c.rest-left.ensures

pub loop-s-smaller : goal.loop-s-smaller
loop-s-smaller c = walk_falls c.lowest-v.ensures c.rest-left.ensures

pub loop-s-preserved : goal.loop-s-preserved
loop-s-preserved c = choosing_same c.loop-s.invariant c.lowest-v.ensures c.rest-left.ensures
