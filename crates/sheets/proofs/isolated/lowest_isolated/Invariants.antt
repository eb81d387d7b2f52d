-- No row passed is 0, and the first that is ends the loop: so it is the lowest; where the loop comes to its end there is none.
use Rattle.std.proofs.Common.{ℕ, ◌<◌, ◌≡◌, false}
use Rattle.sets.specs.Words.{masks}
use Rattle.sheets.specs.Sheet.{isolated}
use Rattle.sheets.proofs.isolated.lowest_isolated.Given as goal

abbrev pub invariant-loop-a : goal.invariant-loop-a
invariant-loop-a l = (w : ℕ) → w < l.a → isolated (masks l.rows) w ≡ false
