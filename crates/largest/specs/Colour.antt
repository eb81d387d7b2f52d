-- Colour classes: sets of vertices of which no two are adjacent, so that a k-plex has at most k of each, and a clique at most one.
--
--   Class g c r            r are vertices of c, no two of them adjacent; there are some where c has some
--   Coloured g k s c n r   r are vertices of c, and a k-plex that holds s has at most n of them
--   Sharing g k q s c      what the bound relies on: s is a k-plex, c are candidates beside it, and the floor q is within range
--   Shared g k s c n left  of what of c is not left a k-plex that holds s has at most n
use Rattle.std.specs.Prelude.{ℕ, ◌+◌, ◌^◌, ◌≤◌, ◌<◌, ◌≡◌, List, length}
use Rattle.std.specs.Int.Bits.{bit_and}
use Rattle.sets.specs.Set.{bit, In, Sub, size, minus}
use Rattle.sets.specs.Words.{width}
use Rattle.sets.specs.Graph.{row}
use Rattle.judging.specs.Graph.{Valid}
use Rattle.judging.specs.Plex.{Plex}
use Rattle.judging.specs.Setting.{Sized}
use Rattle.search.specs.Found.{Compatible}

pub record Class (g : List ℕ) (c r : ℕ) : Type 0 where
  pub part : Sub r c
  pub apart : (u : ℕ) → In u r → (v : ℕ) → bit (row g u) v + bit r v ≤ 1
  pub some : r ≡ 0 → c ≡ 0

pub record Coloured (g : List ℕ) (k s c n r : ℕ) : Type 0 where
  pub part : Sub r c
  pub most : (t : ℕ) → t < 2 ^ length g → Plex g k t → Sub s t → size (bit_and t r) ≤ n

pub record Sharing (g : List ℕ) (k q s c : ℕ) : Type 0 where
  pub sized : Sized g
  pub valid : Valid g
  pub floor : q ≤ width
  pub fine : Compatible g k s c

pub record Shared (g : List ℕ) (k s c n left : ℕ) : Type 0 where
  pub coloured : Coloured g k s c n (minus c left)
  pub part : Sub left c
