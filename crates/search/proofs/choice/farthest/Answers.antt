-- The best so far is always a member: the lowest at first, and later one that was looked at.
use Rattle.std.specs.Prelude.{◌<◌}
use Rattle.sets.specs.Words.{mask}
use Rattle.sets.specs.WalkLaws.{walk_falls, walk_below}
use Rattle.search.specs.ChoiceLaws.{choosing_same, choosing_more}
use Rattle.search.proofs.choice.farthest.Goals as goal

pub missing-m-requires : goal.missing-m-requires
missing-m-requires c = walk_below c.requires.below c.loop-a.invariant.part c.lowest-v.ensures

pub loop-a-smaller-then-most-m : goal.loop-a-smaller-then-most-m
loop-a-smaller-then-most-m c =
    let falls : mask c.rest-left.result < mask c.loop-a.left = walk_falls c.lowest-v.ensures c.rest-left.ensures in
    falls

pub loop-a-preserved-then-most-m : goal.loop-a-preserved-then-most-m
loop-a-preserved-then-most-m c = choosing_more c.loop-a.invariant c.lowest-v.ensures c.rest-left.ensures

pub loop-a-smaller : goal.loop-a-smaller
loop-a-smaller c =
    let falls : mask c.rest-left.result < mask c.loop-a.left = walk_falls c.lowest-v.ensures c.rest-left.ensures in
    falls

pub loop-a-preserved : goal.loop-a-preserved
loop-a-preserved c = choosing_same c.loop-a.invariant c.lowest-v.ensures c.rest-left.ensures
