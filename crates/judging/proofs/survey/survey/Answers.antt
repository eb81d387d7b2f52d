-- Each member passed keeps what is known of those before it: the most that one misses, a member that misses it, and what is left free.
use Prim.Native.Nat.{◌<◌}
use native.Mathlib.Omega.{arith}
use Rattle.sets.specs.Words.{mask}
use Rattle.sets.specs.WalkLaws.{walk_falls, empty_fails, empty_holds}
use Rattle.judging.specs.NarrowLaws.{narrowed_vertex}
use Rattle.judging.specs.SurveyLaws.{finding_none, finding_same, finding_more, finding_all}
use Rattle.judging.proofs.survey.survey.Goals as goal

pub full-requires : goal.full-requires
full-requires c = (omega arith, omega arith)

pub loop-a-init : goal.loop-a-init
loop-a-init c = rw (c.minus-free.ensures, c.full.ensures, c.count.ensures) (finding_none c.requires.below)

pub lowest-v-requires : goal.lowest-v-requires
lowest-v-requires c = empty_fails c.is_empty.ensures c.loop-a-test.true

pub rest-left-requires : goal.rest-left-requires
rest-left-requires c = c.lowest-v.ensures

pub missing-m-requires : goal.missing-m-requires
missing-m-requires c = narrowed_vertex c.loop-a.invariant.narrowed c.lowest-v.ensures

pub get-requires : goal.get-requires
get-requires c = narrowed_vertex c.loop-a.invariant.narrowed c.lowest-v.ensures

pub loop-a-smaller-then-most-m : goal.loop-a-smaller-then-most-m
loop-a-smaller-then-most-m c =
    let falls : mask c.rest-left.result < mask c.loop-a.left = walk_falls c.lowest-v.ensures c.rest-left.ensures in
    falls

pub loop-a-preserved-then-most-m : goal.loop-a-preserved-then-most-m
loop-a-preserved-then-most-m c =
    finding_more c.loop-a.invariant c.lowest-v.ensures c.rest-left.ensures c.missing-m.ensures.0 c.get.ensures
    c.narrow-free.ensures c.if-most-m.true

pub loop-a-smaller : goal.loop-a-smaller
loop-a-smaller c =
    let falls : mask c.rest-left.result < mask c.loop-a.left = walk_falls c.lowest-v.ensures c.rest-left.ensures in
    falls

pub loop-a-preserved : goal.loop-a-preserved
loop-a-preserved c =
    finding_same c.loop-a.invariant c.lowest-v.ensures c.rest-left.ensures c.missing-m.ensures.0 c.get.ensures
    c.narrow-free.ensures c.if-most-m.false

pub returns : goal.returns
returns c = finding_all (empty_holds c.is_empty.ensures c.loop-a-test.false) c.loop-a.invariant
