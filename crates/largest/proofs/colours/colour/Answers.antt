-- After so many turns as the counter says the base is in as many colour classes: each turn adds a class of what is left.
use Rattle.largest.specs.ColourLaws.{colouring_none, part_judgeable, colouring_next}
use Rattle.largest.proofs.colours.colour.Goals as goal

pub loop-init : goal.loop-init
loop-init c = colouring_none c.empty-base.ensures

pub class-next-requires : goal.class-next-requires
class-next-requires c = part_judgeable _ c.loop.invariant.part c.requires

pub loop-preserved : goal.loop-preserved
loop-preserved c = colouring_next c.loop.invariant c.class-next.ensures c.join-base.ensures c.minus-left.ensures
