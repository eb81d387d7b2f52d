-- Common neighbours of two vertices.
--
--   common g s u v   how many members of s are adjacent to both u and v
use Rattle.std.specs.Prelude.{ℕ, List, bit_and}
use Rattle.sets.specs.Set.{size}
use Rattle.sets.specs.Graph.{row}

unfoldable pub common : List ℕ → ℕ → ℕ → ℕ → ℕ
common g s u v = size (bit_and s (bit_and (row g u) (row g v)))
