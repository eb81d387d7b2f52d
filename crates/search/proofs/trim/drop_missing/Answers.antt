-- Of the candidates that v is not adjacent to those are dropped that miss k or more of s: no plex that holds s has such a one.
use mathlib.Core.Path.{ap}
use Rattle.std.specs.Prelude.{leb}
use Rattle.sets.specs.WalkLaws.{walk_falls, empty_fails, empty_holds}
use Rattle.sets.specs.DropLaws.{dropping_vertex, dropping_next}
use Rattle.search.specs.TrimLaws.{drops_missing_none, drops_missing_all}
use Rattle.search.proofs.trim.drop_missing.Goals as goal

pub get-requires : goal.get-requires
get-requires c = c.requires.vertex

pub loop-s-init : goal.loop-s-init
loop-s-init c = rw (c.minus-left.ensures, c.get.ensures) (drops_missing_none c.requires _)

pub lowest-w-requires : goal.lowest-w-requires
lowest-w-requires c = empty_fails c.is_empty.ensures c.loop-s-test.true

pub rest-left-requires : goal.rest-left-requires
rest-left-requires c = c.lowest-w.ensures

pub missing-m-requires : goal.missing-m-requires
missing-m-requires c = dropping_vertex c.loop-s.invariant c.lowest-w.ensures

pub without_if-kept-requires : goal.without_if-kept-requires
without_if-kept-requires c = c.lowest-w.ensures.fits

pub loop-s-smaller : goal.loop-s-smaller
loop-s-smaller c = walk_falls c.lowest-w.ensures c.rest-left.ensures

pub loop-s-preserved : goal.loop-s-preserved
loop-s-preserved c = dropping_next c.loop-s.invariant c.lowest-w.ensures _ c.rest-left.ensures (ap (leb _) c.missing-m.ensures.0) c.without_if-kept.ensures

pub returns : goal.returns
returns c = drops_missing_all c.requires _ (empty_holds c.is_empty.ensures c.loop-s-test.false) c.loop-s.invariant
