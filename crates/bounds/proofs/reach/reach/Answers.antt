-- What is found midway through the neighbours of v is their rows joined so far, and nothing outside the reach (`Reaching`); at the end it is the reach.
use Rattle.std.proofs.Common.{◌<◌, length, arith}
use Rattle.sets.specs.Words.{masks}
use Rattle.sets.specs.WalkLaws.{walk_falls, walk_below, empty_holds}
use Rattle.bounds.specs.ReachLaws.{reaching_none, reaching_next, reaching_all}
use Rattle.bounds.proofs.reach.reach.Goals as goal

pub loop-left-init : goal.loop-left-init
loop-left-init c = rw (c.with-found.ensures, c.get-left.ensures) (reaching_none c.requires.0 (omega arith))

pub get-requires : goal.get-requires
get-requires c =
    let vertex : c.lowest-w.result < length (masks c.args.rows.now) =
    walk_below (c.requires.0.low _ c.requires.1) c.loop-left.invariant.two.part c.lowest-w.ensures in
    vertex

pub loop-left-smaller : goal.loop-left-smaller
loop-left-smaller c = walk_falls c.lowest-w.ensures c.rest-left.ensures

pub loop-left-preserved : goal.loop-left-preserved
loop-left-preserved c =
    let vertex : c.lowest-w.result < length (masks c.args.rows.now) =
    walk_below (c.requires.0.low _ c.requires.1) c.loop-left.invariant.two.part c.lowest-w.ensures in
    rw (c.rest-left.ensures, c.join-found.ensures, c.get.ensures)
    (reaching_next c.requires.0 vertex c.loop-left.invariant c.lowest-w.ensures)

pub returns : goal.returns
returns c = reaching_all c.loop-left.invariant (empty_holds c.is_empty.ensures c.loop-left-test.false)
