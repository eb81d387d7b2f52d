-- A row is bad by its own bit, or, where it lacks that, by a bit of n or above: the two halves of the test, in this order.
use mathlib.Core.Path.{sym, ◌∙◌}
use Rattle.judging.specs.RefusalLaws.{own_bit, reaches}
use Rattle.judging.proofs.check.is_bad_row.Goals as goal

pub returns-then-has : goal.returns-then-has
returns-then-has c = c.if-has.true ∙ sym (own_bit _ _ (rw c.get-row.ensures at (sym c.has.ensures ∙ c.if-has.true)))

pub returns-else-has : goal.returns-else-has
returns-else-has c =
    reaches _ _ _ (rw c.get-row.ensures at (sym c.has.ensures ∙ c.if-has.false))
    (rw (c.get-row.ensures, c.count.ensures) at c.below.ensures)
