-- A walk through the given members, v aside, drops each member that is not close to v, so that those that are close to v stay.
use Rattle.std.specs.Prelude.{not}
use native.Mathlib.Omega.{arith}
use Rattle.sets.specs.SizeLaws.{minus_below}
use Rattle.sets.specs.WalkLaws.{walk_falls, empty_fails, empty_holds}
use Rattle.sets.specs.DropLaws.{dropping_none, dropping_vertex, dropping_next}
use Rattle.search.specs.NearRowsLaws.{pair_row_all}
use Rattle.search.proofs.near.Closeness.row.Goals as goal

pub without-left-requires : goal.without-left-requires
without-left-requires c = omega (arith, c.args.self.now.pairable.inside.most, c.requires.1)

pub loop-left-init : goal.loop-left-init
loop-left-init c = dropping_none (rw c.without-left.ensures (minus_below _ _ _ c.requires.0))

pub lowest-u-requires : goal.lowest-u-requires
lowest-u-requires c = empty_fails c.is_empty.ensures c.loop-left-test.true

pub rest-left-requires : goal.rest-left-requires
rest-left-requires c = c.lowest-u.ensures

pub is_close-requires : goal.is_close-requires
is_close-requires c = (c.requires.1, dropping_vertex c.loop-left.invariant c.lowest-u.ensures)

pub without_if-kept-requires : goal.without_if-kept-requires
without_if-kept-requires c = c.lowest-u.ensures.fits

pub loop-left-smaller : goal.loop-left-smaller
loop-left-smaller c = walk_falls c.lowest-u.ensures c.rest-left.ensures

pub loop-left-preserved : goal.loop-left-preserved
loop-left-preserved c =
    dropping_next c.loop-left.invariant c.lowest-u.ensures (not c.is_close.result) c.rest-left.ensures (rw c.is_close.ensures) c.without_if-kept.ensures

pub returns : goal.returns
returns c =
    let over = empty_holds c.is_empty.ensures c.loop-left-test.false in
    pair_row_all _ _ _ _ _ _ over (rw c.without-left.ensures at c.loop-left.invariant)
