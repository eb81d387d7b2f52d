-- What the partition bound relies on, and what it asks of the choice of a member.
--
--   Between g s a                     a is a set of vertices of the graph, and s a part of it
--   Picked g k r left best most rest  where most exceeds k, best is in left and misses exactly most vertices of r; rest is a part of left without best
use Rattle.std.specs.Prelude.{◌≡◌, ℕ, ◌^◌, ◌<◌, List, length}
use Rattle.sets.specs.Set.{bit, In, Sub}
use Rattle.judging.specs.Graph.{missing}

pub record Between (g : List ℕ) (s a : ℕ) : Type 0 where
  pub below : a < 2 ^ length g
  pub part : Sub s a

pub record Picked (g : List ℕ) (k r left best most rest : ℕ) : Type 0 where
  pub member : k < most → In best left
  pub misses : k < most → most ≡ missing g r best
  pub part : Sub rest left
  pub lacks : bit rest best ≡ 0
