-- A k-plex has at most as many of the classes so far as were counted; once nothing is left, these are all of c.
use Rattle.std.proofs.Common.{arith}
use Rattle.std.proofs.lemmas.Bool.{ltb-true}
use Rattle.sets.specs.WalkLaws.{empty_holds, empty_fails}
use Rattle.largest.specs.ColourLaws.{class_coloured, coloured_least, class_falls, part_judgeable, shared_none, shared_next, shared_all}
use Rattle.largest.proofs.task.Task.by_classes.Goals as goal

pub loop-left-init : goal.loop-left-init
loop-left-init c = (0, shared_none, omega arith)

pub class-next-requires : goal.class-next-requires
class-next-requires c = part_judgeable _ c.loop-left.invariant.1.part c.requires

pub loop-left-smaller : goal.loop-left-smaller
loop-left-smaller c = class_falls c.class-next.ensures (empty_fails c.is_empty.ensures c.loop-left-test.true) c.minus-left.ensures

pub loop-left-preserved : goal.loop-left-preserved
loop-left-preserved c =
    (_, shared_next c.loop-left.invariant.1 (coloured_least (class_coloured c.class-next.ensures _ 0)) c.minus-left.ensures, omega arith)

pub returns : goal.returns
returns c e = (
  c.loop-left.invariant.0,
  shared_all c.loop-left.invariant.1 (empty_holds c.is_empty.ensures c.loop-left-test.false),
  omega (arith, ltb-true c.loop-left.most c.args.self.now.q e),
)
