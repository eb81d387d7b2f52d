-- The vertices passed miss k or more of s. The first that misses fewer decides, and where there is none, s is not extendable.
use native.Mathlib.Omega.{arith}
use mathlib.Core.Path.{sym, subst}
use Rattle.sets.specs.WalkLaws.{Walked, walk_none, walk_next, walk_falls, walk_below, empty_fails, empty_holds}
use Rattle.judging.specs.ExtensionLaws.{unblocked_below, extendable_by, extendable_by_none}
use Rattle.judging.proofs.plex.is_extendable.Goals as goal

pub loop-s-init : goal.loop-s-init
loop-s-init c = subst (Walked _ _) (sym c.requires) (walk_none)

pub lowest-x-requires : goal.lowest-x-requires
lowest-x-requires c = empty_fails c.is_empty.ensures c.loop-s-test.true

pub missing-requires : goal.missing-requires
missing-requires c = walk_below (unblocked_below _ _ _) c.loop-s.invariant.part c.lowest-x.ensures

pub returns-then-missing-k : goal.returns-then-missing-k
returns-then-missing-k c = extendable_by _ _ _ c.loop-s.invariant c.lowest-x.ensures (omega arith)

pub rest-left-requires : goal.rest-left-requires
rest-left-requires c = c.lowest-x.ensures

pub loop-s-smaller : goal.loop-s-smaller
loop-s-smaller c = walk_falls c.lowest-x.ensures c.rest-left.ensures

pub loop-s-preserved : goal.loop-s-preserved
loop-s-preserved c = walk_next _ c.rest-left.ensures c.loop-s.invariant (omega arith)

pub returns : goal.returns
returns c = extendable_by_none _ _ _ c.loop-s.invariant (empty_holds c.is_empty.ensures c.loop-s-test.false)
