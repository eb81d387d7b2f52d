-- The two-hop reach of a vertex (document 01: the reach of a stop).
--
--   reach g a   the vertices at most two edges away from a, a itself included
use Rattle.std.specs.Prelude.{ℕ, ◌||◌, List, length, ◌==◌}
use Rattle.sets.specs.Ranges.{any}
use Rattle.sets.specs.Set.{members, set_of}
use Rattle.sets.specs.Graph.{row}
use Rattle.judging.specs.Graph.{adjacent}

unfoldable pub reach : List ℕ → ℕ → ℕ
reach g a = set_of (length g) (λ b. (a == b) || adjacent g a b || any (λ w. adjacent g w b) (members (length g) (row g a)))
