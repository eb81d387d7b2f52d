-- No row passed is 0, and the first that is ends the loop: so it is the lowest; where the loop comes to its end there is none.
use native.Mathlib.Omega.{arith}
use mathlib.Core.Path.{◌∙◌}
use borrow.Author.Count.{below_more}
use Rattle.judging.specs.CallLaws.{row_found, no_row_found}
use Rattle.sheets.specs.IsolatedLaws.{row_looked}
use Rattle.sheets.proofs.isolated.lowest_isolated.Goals as goal

pub returns-then-is_empty : goal.returns-then-is_empty
returns-then-is_empty c =
    row_found _ _ (omega (arith, c.count-n.ensures)) c.loop-a.invariant (row_looked _ _ c.get.ensures c.is_empty.ensures ∙ c.if-is_empty.true)

pub loop-a-preserved : goal.loop-a-preserved
loop-a-preserved c = below_more _ _ c.loop-a.invariant (row_looked _ _ c.get.ensures c.is_empty.ensures ∙ c.if-is_empty.false)

pub returns : goal.returns
returns c = no_row_found _ _ (λ w l. c.loop-a.invariant w (omega (arith, l, c.count-n.ensures)))
