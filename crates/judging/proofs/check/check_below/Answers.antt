-- The one test is that of the cause: does the mask of the set come before 2 ^ n?
use native.Mathlib.Omega.{arith}
use mathlib.Core.Path.{sym}
use mathlib.Core.List.{[]}
use Rattle.sets.specs.Words.{mask, masks}
use Rattle.judging.specs.Refusal.{first_cause, set_cause}
use Rattle.judging.specs.Calls.{passed}
use Rattle.judging.specs.RefusalLaws.{first_holds, first_skips}
use Rattle.judging.specs.CallLaws.{set-outside, set_inside}
use Rattle.judging.proofs.check.check_below.Goals as goal

pub below-requires : goal.below-requires
below-requires c = (omega (arith, c.requires.some), omega (arith, c.requires.most))

pub returns-then-not-below : goal.returns-then-not-below
unfolding set_cause
returns-then-not-below c =
    sym (first_holds _ _ passed
    (set-outside (masks _) (mask _) _ (rw c.count.ensures at c.below.ensures) c.if-not-below.true))

pub returns : goal.returns
unfolding first_cause
returns c =
    sym (first_skips (set_cause _ _) [] passed
    (set_inside (masks _) (mask _) _ (rw c.count.ensures at c.below.ensures) c.if-not-below.false))
