-- Trimming: of the candidates c those go that no listed plex holds beside the set s, to which the vertex v came last.
--
--   Kept g ask s c r          r is c less some vertices that no listed plex between s and s with c has
--   Blocked g k s v r         a member of s that v is not adjacent to and that misses k or more of s is adjacent to all of r
--   Cheap g k s v r           a vertex of r that v is not adjacent to misses fewer than k of s
--   Trimmable g s c v         what the two drops rely on: a valid graph, s and c within it and apart, and v a vertex of it
--   DropsBlocked g k s v c r  r is what the first drop leaves of c: nothing found is lost, and Blocked
--   DropsMissing g k s v c r  r is what the second drop leaves of c: nothing found is lost, and Cheap
--   Joinable g t s c v        what the joining of v, a candidate, relies on, with the table t of near rows
--   Beside g ask s c v r      r is what is left of c once v has joined s
use Rattle.std.specs.Prelude.{◌≡◌, ℕ, ◌^◌, ◌<◌, ◌≤◌, List, length}
use Rattle.sets.specs.Set.{bit, In, Sub, with, without}
use Rattle.sets.specs.Graph.{row}
use Rattle.sets.specs.Words.{width}
use Rattle.judging.specs.Request.{Request}
use Rattle.judging.specs.Graph.{missing, Valid}
use Rattle.search.specs.Found.{Found}

pub record Kept (g : List ℕ) (ask : Request) (s c r : ℕ) : Type 0 where
  pub part : Sub r c
  pub keeps : (x : ℕ) → Found g ask s c x → (u : ℕ) → In u x → In u c → In u r

abbrev pub Blocked : List ℕ → ℕ → ℕ → ℕ → ℕ → Type 0
Blocked g k s v r = (u : ℕ) → In u s → bit (row g v) u ≡ 0 → k ≤ missing g s u → Sub r (row g u)

abbrev pub Cheap : List ℕ → ℕ → ℕ → ℕ → ℕ → Type 0
Cheap g k s v r = (w : ℕ) → In w r → bit (row g v) w ≡ 0 → missing g s w < k

-- ---- the two drops

pub record Trimmable (g : List ℕ) (s c v : ℕ) : Type 0 where
  pub most : length g ≤ width
  pub valid : Valid g
  pub below : s < 2 ^ length g
  pub candidates : c < 2 ^ length g
  pub apart : (w : ℕ) → In w c → bit s w ≡ 0
  pub vertex : v < length g

pub record DropsBlocked (g : List ℕ) (k s v c r : ℕ) : Type 0 where
  pub kept : (ask : Request) → ask.slack ≡ k → Kept g ask s c r
  pub blocked : Blocked g k s v r

pub record DropsMissing (g : List ℕ) (k s v c r : ℕ) : Type 0 where
  pub kept : (ask : Request) → ask.slack ≡ k → Kept g ask s c r
  pub cheap : Cheap g k s v r

-- ---- a candidate joins

pub record Joinable (g t : List ℕ) (s c v : ℕ) : Type 0 where
  pub trimmable : Trimmable g s c v
  pub member : In v c
  pub long : length g ≤ length t

pub record Beside (g : List ℕ) (ask : Request) (s c v r : ℕ) : Type 0 where
  pub kept : Kept g ask (with s v) (without c v) r
  pub blocked : Blocked g ask.slack (with s v) v r
  pub cheap : Cheap g ask.slack (with s v) v r
