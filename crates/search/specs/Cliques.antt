-- Slack 1, where a plex is a clique: the search by a pivot (Bron and Kerbosch, with Tomita's choice).
--
--   Common g s m                    m are the vertices that are adjacent to every member of s
--   Covering g c m r                r are candidates of c, among them all that some vertex of m, the pivot, is not adjacent to
--   touched g ask s b t x           x is listed, holds s, has no member outside s, b and t, and has one in t
--   Taking g s c m                  what a call relies on: s is a clique, m are its common neighbours, and c are candidates among them
--   Sweeping g s b m t              the same of the candidates b and t, which are apart
--   needing z n s                   the request for the cliques with n members that are not silent more than s has, where z are the silent vertices
--   Enough z n c                    any vertex of c makes up the n members that are still needed
use Rattle.std.specs.Prelude.{ℕ, ◌+◌, ◌^◌, ◌<◌, ◌≤◌, Bool, not, ◌&&◌, List, length, ◌==◌, bit_and, bit_or}
use Rattle.sets.specs.Set.{bit, In, Sub, size, minus}
use Rattle.sets.specs.Graph.{row}
use Rattle.sets.specs.Words.{width}
use Rattle.judging.specs.Request.{Request, request}
use Rattle.judging.specs.Graph.{Valid}
use Rattle.judging.specs.Plex.{Plex}
use Rattle.search.specs.Found.{found}

pub record Common (g : List ℕ) (s m : ℕ) : Type 0 where
  pub below : m < 2 ^ length g
  pub beside : (u : ℕ) → In u s → Sub m (row g u)
  pub every : (x : ℕ) → x < length g → ((u : ℕ) → In u s → In x (row g u)) → In x m

pub record Covering (g : List ℕ) (c m r : ℕ) : Type 0 where
  pub pivot : ℕ
  pub member : In pivot m
  pub covers : Sub (minus c (row g pivot)) r
  pub part : Sub r c

unfoldable pub touched : List ℕ → Request → ℕ → ℕ → ℕ → ℕ → Bool
touched g ask s b t x = found g ask s (bit_or b t) x && not (bit_and x t == 0)

pub record Taking (g : List ℕ) (s c m : ℕ) : Type 0 where
  pub most : length g ≤ width
  pub valid : Valid g
  pub below : s < 2 ^ length g
  pub clique : Plex g 1 s
  pub common : Common g s m
  pub part : Sub c m

pub record Sweeping (g : List ℕ) (s b m t : ℕ) : Type 0 where
  pub taking : Taking g s (bit_or b t) m
  pub apart : (v : ℕ) → bit b v + bit t v ≤ 1

abbrev pub needing : ℕ → ℕ → ℕ → Request
needing z n s = request 1 (n + size (minus s z)) z

abbrev pub Enough : ℕ → ℕ → ℕ → Type 0
Enough z n c = (v : ℕ) → In v c → n + bit z v ≤ 1
