-- The climb to the largest size, and from there to the lowest mask.
--
--   Top g k f s                      s is a k-plex that holds f, and none is larger
--   Held g k q f r                   r is a k-plex of at least q members that holds f, or there is none
--   Highest s v                      v is the highest member of s
--   Topmost s left b                 on the way to it: b is the last of the members of s that were looked at, in rising order, and left are to come
--   Sparing g t ask s c h rest w     w is a k-plex of the floor's size between s and s with c; h is the highest of c, and rest the others
--   Spared g ask s rest w r          r is one that lacks h, and no higher than w, or there is none and nothing listed lacks h
--   Lowering g t ask f s c w         w is such a plex, no plex that holds f is larger, and every listed one that is lower than w is found with s and c
use Rattle.std.specs.Prelude.{ℕ, ◌≤◌, ◌<◌, ◌≡◌, List, Option, MatchOption, IfSome}
use Rattle.sets.specs.Set.{bit, In, Sub, size, without}
use Rattle.sets.specs.Words.{mask}
use Rattle.sets.specs.declared.Set.{Set}
use Rattle.judging.specs.Request.{Request}
use Rattle.lists.specs.Listing.{Listed}
use Rattle.search.specs.Found.{Found}
use Rattle.search.specs.Ready.{Ready}
use Rattle.largest.specs.Largest.{Holding}
use Rattle.largest.specs.Sought.{Within, Sought}

pub record Top (g : List ℕ) (k f s : ℕ) : Type 0 where
  pub holds : Holding g k f s
  pub top : (t : ℕ) → Holding g k f t → size t ≤ size s

abbrev pub Held : List ℕ → ℕ → ℕ → ℕ → Option Set → Type 0
Held g k q f r = MatchOption r ((t : ℕ) → Holding g k f t → size t < q) (λ x. Holding g k f (mask x) × (q ≤ size (mask x)))

pub record Highest (s v : ℕ) : Type 0 where
  pub member : In v s
  pub most : (u : ℕ) → In u s → u ≤ v

pub record Topmost (s left b : ℕ) : Type 0 where
  pub member : In b s
  pub part : Sub left s
  pub passed : (u : ℕ) → In u s → bit left u ≡ 0 → u ≤ b
  pub ahead : (u : ℕ) → In u left → b ≤ u

pub record Sparing (g t : List ℕ) (ask : Request) (s c h rest w : ℕ) : Type 0 where
  pub ready : Ready g t ask s c
  pub floor : 1 ≤ ask.floor
  pub highest : Highest c h
  pub others : rest ≡ without c h
  pub within : Within g ask.slack ask.floor s c w

pub record Spared (g : List ℕ) (ask : Request) (s rest w : ℕ) (r : Option Set) : Type 0 where
  pub sought : Sought g ask s rest r
  pub lower : IfSome r (λ x. mask x ≤ w)

pub record Lowering (g t : List ℕ) (ask : Request) (f s c w : ℕ) : Type 0 where
  pub ready : Ready g t ask s c
  pub forced : Sub f s
  pub top : (t : ℕ) → Holding g ask.slack f t → size t ≤ ask.floor
  pub within : Within g ask.slack ask.floor s c w
  pub found : (x : ℕ) → Listed g ask x → Sub f x → x < w → Found g ask s c x
