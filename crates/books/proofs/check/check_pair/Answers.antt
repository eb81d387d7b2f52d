-- The causes are tested in their order, and the first that holds is the reply.
use Rattle.std.proofs.Common.{arith, sym, ◌∙◌}
use Rattle.books.specs.CallLaws.{one_outside, other_outside, loop_refused, unchanged_refused, pair_accepted}
use Rattle.books.proofs.check.check_pair.Goals as goal

pub returns-then-n-change : goal.returns-then-n-change
returns-then-n-change c = one_outside _ _ (omega arith)

pub returns-then-n-change-2 : goal.returns-then-n-change-2
returns-then-n-change-2 c = other_outside _ _ (omega arith) (omega arith)

pub returns-then-change : goal.returns-then-change
returns-then-change c = loop_refused _ _ (omega arith) (omega arith) c.if-change.true

pub returns-then-is_so : goal.returns-then-is_so
returns-then-is_so c =
    unchanged_refused _ _ (omega arith) (omega arith) c.if-change.false (sym c.is_so.ensures ∙ c.if-is_so.true)

pub returns : goal.returns
returns c = pair_accepted _ _ (omega arith) (omega arith) c.if-change.false (sym c.is_so.ensures ∙ c.if-is_so.false)
