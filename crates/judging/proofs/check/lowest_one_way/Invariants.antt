-- No row passed has a one-way link, and in the present row each vertex passed has it as a neighbour. A vertex that lacks it ends both loops.
use Prim.Native.Nat.{ℕ, ◌<◌}
use mathlib.Core.Path.{◌≡◌}
use mathlib.Core.Bool.{true, false}
use Rattle.std.specs.Prelude.{None}
use Rattle.sets.specs.Set.{has}
use Rattle.sets.specs.Graph.{row}
use Rattle.sets.specs.Words.{mask, masks}
use Rattle.sets.specs.WalkLaws.{Walked}
use Rattle.judging.specs.Refusal.{one_way}
use Rattle.judging.proofs.check.lowest_one_way.Given as goal

abbrev pub invariant-loop-left : goal.invariant-loop-left
invariant-loop-left l = (l.found ≡ None) × Walked (λ (b : ℕ). has (row (masks l.rows) b) l.a ≡ true) (row (masks l.rows) l.a) (mask l.left)

abbrev pub decreases-loop-left : goal.decreases-loop-left
decreases-loop-left l = mask l.left

abbrev pub invariant-rows : goal.invariant-rows
invariant-rows l = (l.found ≡ None) × ((w : ℕ) → w < l.a → one_way (masks l.rows) w ≡ false)
