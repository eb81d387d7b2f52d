-- No row passed is bad, and the first bad one ends the loop: so it is the lowest; where the loop comes to its end there is none.
use native.Mathlib.Omega.{arith}
use mathlib.Core.Path.{refl, sym, ◌∙◌}
use borrow.Author.Count.{below_none, below_more}
use Rattle.judging.specs.CallLaws.{row_found, no_row_found}
use Rattle.judging.proofs.check.lowest_bad_row.Goals as goal
use Rattle.judging.proofs.check.lowest_bad_row.Goals.{else-loop-a-test, then-loop-a-test+then-is_bad_row}

pub loop-a-init : goal.loop-a-init
loop-a-init c = (c.count-n.ensures, below_none _)

pub loop-a-preserved : goal.loop-a-preserved
loop-a-preserved c = (c.loop-a.invariant.0, below_more _ _ c.loop-a.invariant.1 (sym c.is_bad_row.ensures ∙ c.if-is_bad_row.false))

pub returns-then-lowest-n : goal.returns-then-lowest-n
returns-then-lowest-n c =
    elim c.loop-a-test.branch [
      | else-loop-a-test w ↦ absurd (omega (arith, w.lowest-is, c.loop-a.invariant.0, c.if-lowest-n.true, c.count-n.ensures))
      | then-loop-a-test+then-is_bad_row w ↦
          rw w.lowest-is (row_found _ _ (omega arith) c.loop-a.invariant.1 (sym w.is_bad_row.ensures ∙ w.if-is_bad_row.true))
    ]

pub returns : goal.returns
returns c =
    elim c.loop-a-test.branch [
      | else-loop-a-test w ↦ no_row_found _ _ (λ v l. c.loop-a.invariant.1 v (omega (arith, l)))
      | then-loop-a-test+then-is_bad_row w ↦ absurd (omega (arith, w.lowest-is, c.if-lowest-n.false, c.count-n.ensures))
    ]
