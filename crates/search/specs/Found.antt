-- What a call of the search is to add, and what its parts rely on.
--
--   found g ask s c x     x is listed for the request ask, holds s and has no member outside s and c
--   Found                 the same as a statement
--   Empty g ask s c       nothing is to be added: the branch is cut
--   AddsFound g ask s c before count after r   the step from (before, count) to (after, r) adds what is found with s and the candidates c
--   Compatible g k s c    s is a plex, apart from c, and stays one with each candidate of c
--   Short g k q s a       every plex between s and a has fewer than q members
--   Lacks g ask s a       every plex between s and a has fewer members that are not silent than the floor asks for
--   Near g ask t          a listed plex that holds v has no member outside row v of the table t, but v
use Rattle.std.specs.Prelude.{◌≡◌, ℕ, ◌^◌, ◌<◌, Bool, ◌&&◌, ◌≢◌, List, length, bit_or}
use Rattle.sets.specs.Set.{bit, In, Sub, size, subset, with}
use Rattle.sets.specs.Graph.{row}
use Rattle.judging.specs.Request.{Request, recorded}
use Rattle.judging.specs.Plex.{Plex}
use Rattle.lists.specs.Listing.{listed, Listed}
use Rattle.lists.specs.Placing.{Adds}

unfoldable pub found : List ℕ → Request → ℕ → ℕ → ℕ → Bool
found g ask s c x = subset s x && subset x (bit_or s c) && listed g ask x

pub record Found (g : List ℕ) (ask : Request) (s c x : ℕ) : Type 0 where
  pub lower : Sub s x
  pub upper : Sub x (bit_or s c)
  pub listed : Listed g ask x

abbrev pub Empty : List ℕ → Request → ℕ → ℕ → Type 0
Empty g ask s c = (x : ℕ) → Found g ask s c x → ⊥

abbrev pub AddsFound : List ℕ → Request → ℕ → ℕ → List ℕ → ℕ → List ℕ → ℕ → Type 0
AddsFound g ask s c before count after r = Adds (2 ^ length g) (found g ask s c) before count after r

pub record Compatible (g : List ℕ) (k s c : ℕ) : Type 0 where
  pub below : s < 2 ^ length g
  pub candidates : c < 2 ^ length g
  pub apart : (v : ℕ) → In v c → bit s v ≡ 0
  pub plexed : Plex g k s
  pub joined : (v : ℕ) → In v c → Plex g k (with s v)

abbrev pub Short : List ℕ → ℕ → ℕ → ℕ → ℕ → Type 0
Short g k q s a = (t : ℕ) → t < 2 ^ length g → Plex g k t → Sub s t → Sub t a → size t < q

abbrev pub Lacks : List ℕ → Request → ℕ → ℕ → Type 0
Lacks g ask s a = (t : ℕ) → t < 2 ^ length g → Plex g ask.slack t → Sub s t → Sub t a → size (recorded ask t) < ask.floor

abbrev pub Near : List ℕ → Request → List ℕ → Type 0
Near g ask t = (v x : ℕ) → v < length g → Listed g ask x → In v x → (u : ℕ) → In u x → u ≢ v → In u (row t v)
