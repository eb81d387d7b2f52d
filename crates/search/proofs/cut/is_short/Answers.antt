-- The size decides first, and then the partition bound where it is asked.
use native.Mathlib.Omega.{arith}
use Rattle.sets.specs.RangeLaws.{true_is_not_false}
use Rattle.search.specs.PartitionLaws.{short_all}
use Rattle.search.proofs.cut.is_short.Goals as goal

pub returns-then-size-q : goal.returns-then-size-q
returns-then-size-q c = (λ _. short_all _ _ _ _ _ _ c.size.ensures.0 c.if-size-q.true, λ e. absurd (true_is_not_false e))

pub returns-then-size-q-2 : goal.returns-then-size-q-2
returns-then-size-q-2 c = (c.falls_short.ensures, λ _. omega (arith, c.if-size-q.false, c.size.ensures.0))
