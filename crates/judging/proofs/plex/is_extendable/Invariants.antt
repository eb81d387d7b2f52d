-- The vertices passed miss k or more of s. The first that misses fewer decides, and where there is none, s is not extendable.
use Prim.Native.Nat.{ℕ, ◌≤◌}
use Rattle.sets.specs.Words.{mask, masks}
use Rattle.sets.specs.WalkLaws.{Walked}
use Rattle.judging.specs.Graph.{missing}
use Rattle.judging.specs.Plex.{unblocked}
use Rattle.judging.proofs.plex.is_extendable.Given as goal

abbrev pub invariant-loop-s : goal.invariant-loop-s
invariant-loop-s l = Walked (λ (x : ℕ). l.k ≤ missing (masks l.rows) (mask l.s) x) (unblocked (masks l.rows) l.k (mask l.s)) (mask l.left)

abbrev pub decreases-loop-s : goal.decreases-loop-s
decreases-loop-s l = mask l.left
