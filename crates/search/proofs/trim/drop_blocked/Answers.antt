-- The candidates are narrowed by the row of each member that v is not adjacent to and that misses k or more: what goes is in no plex that holds s.
use Rattle.std.specs.Prelude.{◌<◌}
use native.Mathlib.Omega.{arith}
use mathlib.Core.Path.{ap, ◌∙◌}
use lib.Bits.{bit_and}
use Rattle.sets.specs.Words.{mask}
use Rattle.sets.specs.WalkLaws.{walk_falls, empty_fails, empty_holds}
use Rattle.judging.specs.NarrowLaws.{narrowed_vertex, narrowed_same, narrowed_more}
use Rattle.search.specs.TrimLaws.{drops_blocked_none, drops_blocked_all}
use Rattle.search.proofs.trim.drop_blocked.Goals as goal

pub get-requires : goal.get-requires
get-requires c = c.requires.vertex

pub loop-s-init : goal.loop-s-init
loop-s-init c = rw (c.minus-left.ensures, c.get.ensures) (drops_blocked_none c.requires)

pub lowest-u-requires : goal.lowest-u-requires
lowest-u-requires c = empty_fails c.is_empty.ensures c.loop-s-test.true

pub rest-left-requires : goal.rest-left-requires
rest-left-requires c = c.lowest-u.ensures

pub missing-requires : goal.missing-requires
missing-requires c = narrowed_vertex c.loop-s.invariant c.lowest-u.ensures

pub get-requires-then-k-missing : goal.get-requires-then-k-missing
get-requires-then-k-missing c = narrowed_vertex c.loop-s.invariant c.lowest-u.ensures

pub loop-s-smaller-then-k-missing : goal.loop-s-smaller-then-k-missing
loop-s-smaller-then-k-missing c =
    let falls : mask c.rest-left.result < mask c.loop-s.left = walk_falls c.lowest-u.ensures c.rest-left.ensures in
    falls

pub loop-s-preserved-then-k-missing : goal.loop-s-preserved-then-k-missing
loop-s-preserved-then-k-missing c =
    narrowed_more c.loop-s.invariant c.lowest-u.ensures c.rest-left.ensures
    (c.meet-kept.ensures ∙ ap (bit_and (mask _)) c.get-then-k-missing.ensures) (omega arith)

pub loop-s-smaller : goal.loop-s-smaller
loop-s-smaller c =
    let falls : mask c.rest-left.result < mask c.loop-s.left = walk_falls c.lowest-u.ensures c.rest-left.ensures in
    falls

pub loop-s-preserved : goal.loop-s-preserved
loop-s-preserved c = narrowed_same c.loop-s.invariant c.lowest-u.ensures c.rest-left.ensures (omega arith)

pub returns : goal.returns
returns c = drops_blocked_all c.requires (empty_holds c.is_empty.ensures c.loop-s-test.false) c.loop-s.invariant
