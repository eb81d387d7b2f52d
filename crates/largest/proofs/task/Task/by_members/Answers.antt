-- A k-plex that holds s has of each part at most what its member may still miss, and so of all parts the sum.
use Rattle.std.proofs.Common.{arith, ap, ◌∙◌}
use Rattle.sets.specs.Set.{minus}
use Rattle.sets.specs.Words.{mask}
use Rattle.sets.specs.SubsetLaws.{sub_refl, sub_trans, minus-sub, in_of_sub}
use Rattle.sets.specs.WalkLaws.{walk_falls, walk_below, walk_member}
use Rattle.largest.specs.ColourLaws.{member_coloured, coloured_least, shared_none, shared_next}
use Rattle.largest.proofs.task.Task.by_members.Goals as goal

pub loop-s-init : goal.loop-s-init
loop-s-init c = record { counted = (0, shared_none, omega arith); part = sub_refl _ }

pub get-requires : goal.get-requires
get-requires c = walk_below c.requires.below c.loop-s.invariant.part c.lowest-u.ensures

pub missing-requires : goal.missing-requires
missing-requires c = walk_below c.requires.below c.loop-s.invariant.part c.lowest-u.ensures

pub overflow_sub-spare : goal.overflow_sub-spare
overflow_sub-spare c =
    let vertex = walk_below c.requires.below c.loop-s.invariant.part c.lowest-u.ensures in
    omega (arith, c.requires.plexed _ vertex (walk_member _ c.loop-s.invariant.part c.lowest-u.ensures))

pub loop-s-smaller : goal.loop-s-smaller
loop-s-smaller c = walk_falls c.lowest-u.ensures c.rest-todo.ensures

pub loop-s-preserved : goal.loop-s-preserved
loop-s-preserved c =
    let counted = c.loop-s.invariant.counted in
    let missed = c.minus-part.ensures ∙ ap (minus (mask c.loop-s.left)) c.get.ensures in
    let few =
    member_coloured _ c.requires.below (λ v i. c.requires.apart v (in_of_sub _ _ v counted.1.part i))
    (walk_member _ c.loop-s.invariant.part c.lowest-u.ensures) missed
    in record {
      counted = (_, shared_next counted.1 (coloured_least few) c.minus-left.ensures, omega (arith, c.missing.ensures.0));
      part = rw c.rest-todo.ensures (sub_trans _ _ _ (minus-sub _ _) c.loop-s.invariant.part);
    }
