-- What the functions below the entry points rely on.
--
--   Sized g         the number of vertices is one that a set can hold
--   Inside g s      the same, and the members of s are vertices of the graph
--   Judgeable g s   the same, of a valid graph
--   FindsRow p n r  r is the lowest row at which p holds, or None where there is none
use Rattle.std.specs.Prelude.{ℕ, ◌^◌, ◌<◌, ◌≤◌, Bool, List, length, ◌≡◌, Option, Some, None}
use Rattle.sets.specs.Words.{width}
use Rattle.sets.specs.Graph.{row}
use Rattle.judging.specs.Graph.{Valid}
use Rattle.judging.specs.Refusal.{lowest_row}

pub record Sized (g : List ℕ) : Type 0 where
  pub some : 1 ≤ length g
  pub most : length g ≤ width

pub record Inside (g : List ℕ) (s : ℕ) : Type 0 where
  pub some : 1 ≤ length g
  pub most : length g ≤ width
  pub below : s < 2 ^ length g

pub record Judgeable (g : List ℕ) (s : ℕ) : Type 0 where
  pub inside : Inside g s
  pub valid : Valid g

-- no row reaches n or above
pub record LowRows (g : List ℕ) : Type 0 where
  pub some : 1 ≤ length g
  pub most : length g ≤ width
  pub low : (a : ℕ) → a < length g → row g a < 2 ^ length g

-- of n rows
abbrev pub FindsRow : (ℕ → Bool) → ℕ → Option ℕ → Type 0
FindsRow p n (Some a) = (a ≡ lowest_row p n) × (a < n)
FindsRow p n None = n ≤ lowest_row p n
