-- Each pass is the definition's, and s holds every dense set within the first all the way; the passes made and those from s on are one more than those from
-- the first set on (`Peels`). A pass makes s smaller, or takes none: then s is the core within it, and that pass is the last.
use Rattle.std.proofs.Common.{arith, sym, ◌∙◌, eqb-true}
use Rattle.std.proofs.lemmas.Bool.{eqb-false, not-true, not-false}
use Rattle.sets.specs.Words.Operations.{same_mask}
use Rattle.bounds.specs.PeelLaws.{peels_doubtable, peels_fits, peels_falls, peels_more, peels_all}
use Rattle.bounds.proofs.cores.peel_from.Goals as goal

pub later_pass-passed-requires : goal.later_pass-passed-requires
later_pass-passed-requires c = peels_doubtable c.loop-s.invariant c.requires

pub overflow_add-passes : goal.overflow_add-passes
overflow_add-passes c = omega (arith, peels_fits c.loop-s.invariant c.requires, c.requires.inside.most)

pub loop-s-smaller : goal.loop-s-smaller
loop-s-smaller c = peels_falls c.loop-s.invariant (eqb-false _ _ (sym (same_mask _ _) ∙ not-true _ (sym c.ne.ensures ∙ c.loop-s-test.true)))

pub loop-s-preserved : goal.loop-s-preserved
loop-s-preserved c =
    peels_more c.loop-s.invariant (eqb-false _ _ (sym (same_mask _ _) ∙ not-true _ (sym c.ne.ensures ∙ c.loop-s-test.true)))
    c.later_pass-passed.ensures

pub returns : goal.returns
returns c = peels_all c.loop-s.invariant (eqb-true _ _ (sym (same_mask _ _) ∙ not-false _ (sym c.ne.ensures ∙ c.loop-s-test.false)))
