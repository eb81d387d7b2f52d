-- No row passed is bad, and the first bad one ends the loop: so it is the lowest; where the loop comes to its end there is none.
use Rattle.std.proofs.Common.{ℕ, ◌<◌, ◌≡◌, false, length}
use Rattle.sets.specs.Words.{masks}
use Rattle.judging.specs.Refusal.{bad_row}
use Rattle.judging.proofs.check.lowest_bad_row.Given as goal

abbrev pub invariant-loop-a : goal.invariant-loop-a
invariant-loop-a l = (l.lowest ≡ length (masks l.rows)) × ((w : ℕ) → w < l.a → bad_row (masks l.rows) w ≡ false)
