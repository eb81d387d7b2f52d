-- The choice of the vertex to branch on.
--
--   Choosable g w     w is a vertex of a graph that sets can hold
--   Among g c w r     r are candidates of c; where there is none, w is no candidate and is adjacent to all
--   Pickable g s      s has members, all of them vertices
use Rattle.std.specs.Prelude.{◌≡◌, ℕ, ◌^◌, ◌<◌, ◌≤◌, List, length}
use Rattle.sets.specs.Set.{bit, Sub, minus}
use Rattle.sets.specs.Graph.{row}
use Rattle.sets.specs.Words.{width}

pub record Choosable (g : List ℕ) (w : ℕ) : Type 0 where
  pub vertex : w < length g
  pub most : length g ≤ width

pub record Among (g : List ℕ) (c w r : ℕ) : Type 0 where
  pub part : Sub r c
  pub none : r ≡ 0 → (bit c w ≡ 0) × (minus c (row g w) ≡ 0)

pub record Pickable (g : List ℕ) (s : ℕ) : Type 0 where
  pub some : 0 < s
  pub below : s < 2 ^ length g
