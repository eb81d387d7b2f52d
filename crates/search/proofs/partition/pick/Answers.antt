-- Each member passed is dropped or kept, and best is the one passed that misses most, if that is more than k.
use native.Mathlib.Omega.{arith}
use Rattle.std.specs.Prelude.{◌<◌}
use Rattle.sets.specs.Words.{mask}
use Rattle.sets.specs.WalkLaws.{walk_falls, walk_below, empty_fails}
use Rattle.search.specs.PartitionLaws.{picking_none, picking_same, picking_more, picking_all}
use Rattle.search.proofs.partition.pick.Goals as goal

pub loop-r-init : goal.loop-r-init
loop-r-init c = picking_none c.empty-kept.ensures

pub lowest-u-requires : goal.lowest-u-requires
lowest-u-requires c = empty_fails c.is_empty.ensures c.loop-r-test.true

pub rest-todo-requires : goal.rest-todo-requires
rest-todo-requires c = c.lowest-u.ensures

pub missing-m-requires : goal.missing-m-requires
missing-m-requires c = walk_below c.requires c.loop-r.invariant.part c.lowest-u.ensures

pub keep-kept-requires : goal.keep-kept-requires
keep-kept-requires c = c.lowest-u.ensures.fits

pub loop-r-smaller-then-most-m : goal.loop-r-smaller-then-most-m
loop-r-smaller-then-most-m c =
    let falls : mask c.rest-todo.result < mask c.loop-r.todo = walk_falls c.lowest-u.ensures c.rest-todo.ensures in
    falls

pub loop-r-preserved-then-most-m : goal.loop-r-preserved-then-most-m
loop-r-preserved-then-most-m c = picking_more c.loop-r.invariant c.lowest-u.ensures c.rest-todo.ensures c.keep-kept.ensures c.missing-m.ensures.0

pub loop-r-smaller : goal.loop-r-smaller
loop-r-smaller c =
    let falls : mask c.rest-todo.result < mask c.loop-r.todo = walk_falls c.lowest-u.ensures c.rest-todo.ensures in
    falls

pub loop-r-preserved : goal.loop-r-preserved
loop-r-preserved c = picking_same c.loop-r.invariant c.lowest-u.ensures c.rest-todo.ensures c.keep-kept.ensures

pub without-left-requires : goal.without-left-requires
without-left-requires c = c.loop-r.invariant.fits

pub returns : goal.returns
returns c = (omega (arith, c.if-most-k.false), picking_all c.loop-r.invariant c.without-left.ensures)
