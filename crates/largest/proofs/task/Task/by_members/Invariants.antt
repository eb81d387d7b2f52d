-- A k-plex that holds s has of each part at most what its member may still miss, and so of all parts the sum.
use Rattle.std.specs.Prelude.{ℕ, ◌+◌, ◌≡◌}
use Rattle.sets.specs.Set.{Sub, size}
use Rattle.sets.specs.Words.{mask}
use Rattle.largest.specs.Colour.{Shared}
use Rattle.largest.specs.Task.{graph}
use Rattle.largest.proofs.task.Task.by_members.Given as goal

abbrev pub invariant-loop-s : goal.invariant-loop-s
invariant-loop-s l = record {
  counted : (n : ℕ) × Shared (graph l.self) l.self.k (mask l.s) (mask l.initial.left) n (mask l.left) × (l.most ≡ size (mask l.s) + n);
  part : Sub (mask l.todo) (mask l.s);
}

abbrev pub decreases-loop-s : goal.decreases-loop-s
decreases-loop-s l = mask l.todo
