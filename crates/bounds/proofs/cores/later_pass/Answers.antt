-- The pass has come to some vertex (`LaterPass`): the lowest of `left` is looked at next, as those before it would stay. At a look v stays or goes, as the
-- definition has it. The pass ends because a look takes v out of `left`, or out of `kept`.
use Rattle.sets.specs.WalkLaws.{empty_holds}
use Rattle.bounds.specs.DoubtLaws.{later_pass_none, later_pass_vertex, later_pass_stays, later_pass_goes, later_pass_all}
use Rattle.bounds.specs.DoubtLaws.{later_pass_stays_falls, later_pass_goes_falls}
use Rattle.bounds.proofs.cores.later_pass.Goals as goal

pub loop-left-init : goal.loop-left-init
loop-left-init c = rw c.empty-next.ensures (later_pass_none c.requires)

pub degree-near-requires : goal.degree-near-requires
degree-near-requires c = later_pass_vertex c.loop-left.invariant c.lowest-v.ensures

pub get-requires : goal.get-requires
get-requires c = later_pass_vertex c.loop-left.invariant c.lowest-v.ensures

pub loop-left-smaller-then-near-m : goal.loop-left-smaller-then-near-m
loop-left-smaller-then-near-m c =
    rw (c.join-left.ensures, c.minus.ensures, c.full-seen.ensures, c.without-kept.ensures, c.rest-left.ensures)
    (later_pass_goes_falls c.loop-left.invariant c.lowest-v.ensures c.degree-near.ensures.0 c.if-near-m.true
    c.requires.judgeable.valid (rw (c.meet-lost.ensures, c.get.ensures, c.without-kept.ensures)))

pub loop-left-preserved-then-near-m : goal.loop-left-preserved-then-near-m
loop-left-preserved-then-near-m c =
    rw (
      c.join-next.ensures,
      c.meet.ensures,
      c.join-left.ensures,
      c.minus.ensures,
      c.full-seen.ensures,
      c.without-kept.ensures,
      c.rest-left.ensures,
    )
    (later_pass_goes c.loop-left.invariant c.lowest-v.ensures c.degree-near.ensures.0 c.if-near-m.true
    c.requires.judgeable.valid (rw (c.meet-lost.ensures, c.get.ensures, c.without-kept.ensures)))

-- ---- v stays
pub loop-left-smaller : goal.loop-left-smaller
loop-left-smaller c = rw c.rest-left.ensures (later_pass_stays_falls c.loop-left.invariant c.lowest-v.ensures)

pub loop-left-preserved : goal.loop-left-preserved
loop-left-preserved c =
    rw c.rest-left.ensures
    (later_pass_stays c.loop-left.invariant c.lowest-v.ensures c.degree-near.ensures.0 c.if-near-m.false)

pub returns : goal.returns
returns c = later_pass_all c.loop-left.invariant (empty_holds c.is_empty.ensures c.loop-left-test.false)
