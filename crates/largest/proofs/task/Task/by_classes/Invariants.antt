-- A k-plex has at most as many of the classes so far as were counted; once nothing is left, these are all of c.
use Rattle.std.specs.Prelude.{ℕ, ◌+◌, ◌≡◌}
use Rattle.sets.specs.Set.{size}
use Rattle.sets.specs.Words.{mask}
use Rattle.largest.specs.Colour.{Shared}
use Rattle.largest.specs.Task.{graph}
use Rattle.largest.proofs.task.Task.by_classes.Given as goal

abbrev pub invariant-loop-left : goal.invariant-loop-left
invariant-loop-left l = (n : ℕ) × Shared (graph l.self) l.self.k 0 (mask l.initial.left) n (mask l.left) × (l.most ≡ l.have + n)

abbrev pub decreases-loop-left : goal.decreases-loop-left
decreases-loop-left l = size (mask l.left)
