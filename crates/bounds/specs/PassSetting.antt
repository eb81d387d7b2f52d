-- What the functions that make a pass ask of their arguments, and what they give.
--
--   Sure g m e s d       each member of s below e that is not in d is adjacent to at least m members of s
--   Doubtable g m s d    a pass through s need only look at d, and at what loses a neighbour on the way
--   Passes g m s r d     r is what a pass leaves of s, and the next need only look at d
use Rattle.std.specs.Prelude.{◌≡◌, ℕ, ◌<◌, ◌≤◌, List, length}
use Rattle.sets.specs.Set.{bit, In, Sub}
use Rattle.judging.specs.Graph.{degree}
use Rattle.judging.specs.Setting.{Judgeable}
use Rattle.bounds.specs.Core.{pass}

pub record Sure (g : List ℕ) (m e s d : ℕ) : Type 0 where
  pub enough : (u : ℕ) → u < e → In u s → bit d u ≡ 0 → m ≤ degree g s u

pub record Doubtable (g : List ℕ) (m s d : ℕ) : Type 0 where
  pub judgeable : Judgeable g s
  pub part : Sub d s
  pub sure : Sure g m (length g) s d

pub record Passes (g : List ℕ) (m s r d : ℕ) : Type 0 where
  pub left : r ≡ pass g m s
  pub part : Sub d r
  pub sure : Sure g m (length g) r d
