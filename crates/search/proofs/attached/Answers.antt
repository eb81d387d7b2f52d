-- A walk through the silent set drops each that is adjacent to at most m members of s, so that those that are adjacent to more stay.
use Rattle.std.specs.Prelude.{leb}
use Rattle.sets.specs.WalkLaws.{walk_falls, empty_holds}
use Rattle.sets.specs.DropLaws.{dropping_vertex, dropping_next}
use Rattle.search.specs.StartLaws.{attached_all, few_test}
use Rattle.search.proofs.attached.Goals as goal

pub get-requires : goal.get-requires
get-requires c = dropping_vertex c.loop-s.invariant c.lowest-v.ensures

pub loop-s-smaller : goal.loop-s-smaller
loop-s-smaller c = walk_falls c.lowest-v.ensures c.rest-left.ensures

pub loop-s-preserved : goal.loop-s-preserved
loop-s-preserved c =
    dropping_next c.loop-s.invariant c.lowest-v.ensures (leb c.size-near.result _) c.rest-left.ensures
    (few_test _ _ _ _ c.size-near.ensures.0 c.meet.ensures c.get.ensures) c.without_if-kept.ensures

pub returns : goal.returns
returns c = attached_all _ _ _ _ (empty_holds c.is_empty.ensures c.loop-s-test.false) c.loop-s.invariant
