-- A graph, as the list of its rows (document 01: a collection and its table). The length of the list is the number of vertices.
--
--   adjacent g a b    a is adjacent to b (document 01: linked)
--   degree g s v      how many members of s v is adjacent to
--   missing g s v     how many members of s v is not adjacent to: a member counts itself (document 01: the cost of a stop outside s)
--   Valid g           every row lies below 2 ^ n, no vertex is adjacent to itself, and adjacency is mutual
use Rattle.std.specs.Prelude.{ℕ, ◌^◌, ◌<◌, ◌≡◌, Bool, List, length}
use Rattle.std.specs.Int.Bits.{bit_and}
use Rattle.sets.specs.Set.{bit, has, size, minus}
use Rattle.sets.specs.Graph.{row}

unfoldable pub adjacent : List ℕ → ℕ → ℕ → Bool
adjacent g a b = has (row g a) b

unfoldable pub degree : List ℕ → ℕ → ℕ → ℕ
degree g s v = size (bit_and s (row g v))

unfoldable pub missing : List ℕ → ℕ → ℕ → ℕ
missing g s v = size (minus s (row g v))

pub record Valid (g : List ℕ) : Type 0 where
  pub low : (a : ℕ) → a < length g → row g a < 2 ^ length g
  pub loopless : (a : ℕ) → a < length g → bit (row g a) a ≡ 0
  pub mutually : (a b : ℕ) → a < length g → b < length g → bit (row g a) b ≡ bit (row g b) a
