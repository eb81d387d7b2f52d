-- The tables of near rows, by which the search drops candidates once it has taken a vertex.
--
--   close g k q s v u         u and v have as many common neighbours in s as two members of one plex of q or more members of s (001, Lemma 3)
--   pair_row g k q s f v       the members of f, v aside, that are close to v
--   reach_row g r v            the reach of v where the switch r is on, else all vertices
--   near_row g k q a s r p v   row v by the cuts that are switched on, where r is the switch of the reach and p that of the pairs: the members of a that are
--                             close to v by their common neighbours in s
--   Pairable g k q s          what a pair row relies on: s is inside the graph, and the sums of the test are small
--   Pairing g k q a s         the same of a valid graph, with the vertices a of it
--   Pairs g ask a s           a holds every listed plex, and s the members of it that are not silent
--   Lent g t                  the lent table t has a row for each vertex
--   Filled g ask before t     t is as long as before, its rows are sets of vertices, and it is Near
use Rattle.std.specs.Prelude.{◌≡◌, ℕ, ◌+◌, ◌*◌, ◌^◌, ◌<◌, ◌≤◌, Bool, cond, ◌&&◌, List, length, bit_and, nat_le}
use Rattle.sets.specs.Set.{bit, has, Sub, without, full, set_of}
use Rattle.sets.specs.Graph.{row}
use Rattle.sets.specs.Words.{width}
use Rattle.judging.specs.Request.{Request, recorded}
use Rattle.judging.specs.Graph.{Valid}
use Rattle.judging.specs.Setting.{Sized, Inside}
use Rattle.bounds.specs.Pair.{common}
use Rattle.bounds.specs.Reach.{reach}
use Rattle.lists.specs.Listing.{Listed}
use Rattle.search.specs.Found.{Near}

-- q - 2k common neighbours where they are adjacent, q - 2k + 2 where they are not
unfoldable pub close : List ℕ → ℕ → ℕ → ℕ → ℕ → ℕ → Bool
close g k q s v u = nat_le (q + 2) (common g s v u + 2 * k + 2 * bit (row g v) u)

unfoldable pub pair_row : List ℕ → ℕ → ℕ → ℕ → ℕ → ℕ → ℕ
pair_row g k q s f v = set_of (length g) (λ u. has (without f v) u && close g k q s v u)

unfoldable pub reach_row : List ℕ → Bool → ℕ → ℕ
reach_row g r v = cond r (reach g v) (full (length g))

unfoldable pub near_row : List ℕ → ℕ → ℕ → ℕ → ℕ → Bool → Bool → ℕ → ℕ
near_row g k q a s r p v = cond p (pair_row g k q s (bit_and a (reach_row g r v)) v) (reach_row g r v)

pub record Pairable (g : List ℕ) (k q s : ℕ) : Type 0 where
  pub inside : Inside g s
  pub slack : k ≤ width
  pub floor : q ≤ 2 * width

pub record Pairing (g : List ℕ) (k q a s : ℕ) : Type 0 where
  pub pairable : Pairable g k q s
  pub below : a < 2 ^ length g
  pub valid : Valid g

pub record Pairs (g : List ℕ) (ask : Request) (a s : ℕ) : Type 0 where
  pub holds : (x : ℕ) → Listed g ask x → Sub x a
  pub counts : (x : ℕ) → Listed g ask x → Sub (recorded ask x) s

pub record Lent (g t : List ℕ) : Type 0 where
  pub sized : Sized g
  pub room : length g ≤ length t

pub record Filled (g : List ℕ) (ask : Request) (before t : List ℕ) : Type 0 where
  pub long : length t ≡ length before
  pub low : (v : ℕ) → v < length g → row t v < 2 ^ length g
  pub near : Near g ask t
