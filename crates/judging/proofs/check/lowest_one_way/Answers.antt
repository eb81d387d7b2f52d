-- No row passed has a one-way link, and in the present row each vertex passed has it as a neighbour. A vertex that lacks it ends both loops.
use native.Mathlib.Omega.{arith}
use mathlib.Core.Path.{refl, sym, subst, ◌∙◌}
use borrow.Author.Count.{below_none, below_more}
use lib.ListN.{length}
use Prim.Native.Nat.{◌<◌}
use Rattle.sets.specs.Words.{masks}
use Rattle.sets.specs.WalkLaws.{Walked, walk_none, walk_next, walk_all, walk_falls, walk_member, walk_below, empty_fails, empty_holds}
use Rattle.judging.specs.CallLaws.{row_found, no_row_found}
use Rattle.judging.specs.RefusalLaws.{one_way_found, one_way_none}
use Rattle.judging.proofs.check.lowest_one_way.Goals as goal

pub rows-init : goal.rows-init
rows-init c = (refl, below_none _)

pub loop-left-init : goal.loop-left-init
loop-left-init c = (c.rows.invariant.0, subst (Walked _ _) (sym c.get-left.ensures) (walk_none))

pub lowest-b-requires : goal.lowest-b-requires
lowest-b-requires c = empty_fails c.is_empty.ensures c.loop-left-test.true

pub get-requires : goal.get-requires
get-requires c = walk_below (c.requires.low _ (omega arith)) c.loop-left.invariant.1.part c.lowest-b.ensures

pub rest-left-requires : goal.rest-left-requires
rest-left-requires c = c.lowest-b.ensures

pub loop-left-smaller : goal.loop-left-smaller
loop-left-smaller c = walk_falls c.lowest-b.ensures c.rest-left.ensures

pub loop-left-preserved : goal.loop-left-preserved
loop-left-preserved c = (
  c.loop-left.invariant.0,
  walk_next _ c.rest-left.ensures c.loop-left.invariant.1 (rw c.get.ensures at (sym c.has.ensures ∙ c.if-not-has.false)),
)

pub rows-preserved : goal.rows-preserved
rows-preserved c = (
  c.loop-left.invariant.0,
  below_more _ _ c.rows.invariant.1
      (one_way_none _ _
      (walk_all (empty_holds c.is_empty.ensures c.loop-left-test.false) c.loop-left.invariant.1)),
)

pub returns-after-rows : goal.returns-after-rows
returns-after-rows c = rw c.rows.invariant.0 (no_row_found _ _ (λ w l. c.rows.invariant.1 w (omega (arith, l))))

pub returns-then-not-has : goal.returns-then-not-has
returns-then-not-has c =
    let l : c.rows.a < length (masks c.args.rows.now) = omega arith in
    row_found _ _ l c.rows.invariant.1
    (one_way_found _ _ _
    (walk_below (c.requires.low _ l) c.loop-left.invariant.1.part c.lowest-b.ensures)
    (walk_member _ c.loop-left.invariant.1.part c.lowest-b.ensures)
    (rw c.get.ensures at (sym c.has.ensures ∙ c.if-not-has.true)))
