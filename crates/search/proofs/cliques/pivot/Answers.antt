-- What is best so far are all candidates, or those that a vertex of m is not adjacent to.
use Rattle.sets.specs.WalkLaws.{walk_falls, walk_below}
use Rattle.search.specs.CliqueLaws.{pivoting_none, pivoting_covers, pivoting_next}
use Rattle.search.proofs.cliques.pivot.Goals as goal

pub loop-c-init : goal.loop-c-init
loop-c-init c = pivoting_none c.requires

pub get-requires : goal.get-requires
get-requires c = walk_below c.requires.below c.loop-c.invariant.part c.lowest-p.ensures

pub returns-then-n-few : goal.returns-then-n-few
returns-then-n-few c = pivoting_covers c.loop-c.invariant c.lowest-p.ensures c.get.ensures c.minus-missed.ensures

pub loop-c-smaller-then-n-fewest : goal.loop-c-smaller-then-n-fewest
loop-c-smaller-then-n-fewest c = walk_falls c.lowest-p.ensures c.rest-left.ensures

pub loop-c-preserved-then-n-fewest : goal.loop-c-preserved-then-n-fewest
loop-c-preserved-then-n-fewest c =
    pivoting_next c.loop-c.invariant c.lowest-p.ensures c.rest-left.ensures
    (pivoting_covers c.loop-c.invariant c.lowest-p.ensures c.get.ensures c.minus-missed.ensures)

pub loop-c-smaller : goal.loop-c-smaller
loop-c-smaller c = walk_falls c.lowest-p.ensures c.rest-left.ensures

pub loop-c-preserved : goal.loop-c-preserved
loop-c-preserved c = pivoting_next c.loop-c.invariant c.lowest-p.ensures c.rest-left.ensures c.loop-c.invariant.cover
