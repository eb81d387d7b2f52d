-- Every lower plex of the size is among the candidates that are left; once there are none, w is the lowest. The candidates fall, as a number.
use Rattle.std.proofs.Common.{arith}
use Rattle.sets.specs.WalkLaws.{without_less, empty_holds}
use Rattle.search.specs.ReadyLaws.{ready_vertex}
use Rattle.largest.specs.FitLaws.{join_falls}
use Rattle.largest.specs.ClimbLaws.{lowering_none, lowering_sparing, lowering_lower, lowering_with, lowering_all}
use Rattle.largest.proofs.task.Task.lowest.Goals as goal

pub loop-s-init : goal.loop-s-init
loop-s-init c = lowering_none c.args.self.now.settled c.fit-left.ensures c.requires.0 c.requires.1

pub without-rest-requires : goal.without-rest-requires
without-rest-requires c = omega (arith, ready_vertex c.loop-s.invariant.ready _ c.highest-h.ensures.member)

pub spare-requires : goal.spare-requires
spare-requires c = lowering_sparing c.loop-s.invariant c.highest-h.ensures c.without-rest.ensures

pub loop-s-smaller-in-Some : goal.loop-s-smaller-in-Some
loop-s-smaller-in-Some c = rw c.without-rest.ensures (without_less _ _ c.highest-h.ensures.member)

pub loop-s-preserved-in-Some : goal.loop-s-preserved-in-Some
loop-s-preserved-in-Some c =
    lowering_lower c.loop-s.invariant (lowering_sparing c.loop-s.invariant c.highest-h.ensures c.without-rest.ensures) c.in-Some.ensures

pub beside-left-requires : goal.beside-left-requires
beside-left-requires c = (c.loop-s.invariant.ready.fine, c.highest-h.ensures.member)

pub with-s-requires : goal.with-s-requires
with-s-requires c = omega (arith, ready_vertex c.loop-s.invariant.ready _ c.highest-h.ensures.member)

pub loop-s-smaller : goal.loop-s-smaller
loop-s-smaller c = join_falls c.highest-h.ensures.member c.beside-left.ensures

pub loop-s-preserved : goal.loop-s-preserved
loop-s-preserved c =
    lowering_with c.loop-s.invariant (lowering_sparing c.loop-s.invariant c.highest-h.ensures c.without-rest.ensures) c.in_default.ensures
    c.beside-left.ensures c.with-s.ensures

pub returns : goal.returns
returns c = lowering_all c.loop-s.invariant (empty_holds c.is_empty.ensures c.loop-s-test.false)
