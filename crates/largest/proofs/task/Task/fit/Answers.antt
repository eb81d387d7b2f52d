-- Each forced vertex joins as a candidate does in the search, so that every listed plex that holds all of them is still found.
use Rattle.sets.specs.WalkLaws.{walk_falls, empty_holds}
use Rattle.largest.specs.FitLaws.{joining_none, joining_next, joining_out, joining_all}
use Rattle.largest.proofs.TestLaws.{test_in, test_out}
use Rattle.largest.proofs.task.Task.fit.Goals as goal

pub loop-s-init : goal.loop-s-init
loop-s-init c = joining_none c.args.self.now.settled c.candidates-c.ensures c.empty-s.ensures

pub returns-then-not-has : goal.returns-then-not-has
returns-then-not-has c =
    joining_out c.loop-s.invariant c.args.self.now.fine c.lowest-v.ensures (test_out _ _ c.has.ensures c.if-not-has.true) c.empty.ensures

pub beside-c-requires : goal.beside-c-requires
beside-c-requires c = (c.loop-s.invariant.ready.fine, test_in _ _ c.has.ensures c.if-not-has.false)

pub loop-s-smaller : goal.loop-s-smaller
loop-s-smaller c = walk_falls c.lowest-v.ensures c.rest-left.ensures

pub loop-s-preserved : goal.loop-s-preserved
loop-s-preserved c =
    joining_next c.loop-s.invariant c.lowest-v.ensures (test_in _ _ c.has.ensures c.if-not-has.false) c.beside-c.ensures c.with-s.ensures
    c.rest-left.ensures

pub returns : goal.returns
returns c = joining_all c.loop-s.invariant (empty_holds c.is_empty.ensures c.loop-s-test.false)
