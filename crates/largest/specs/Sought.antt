-- What a search for one k-plex of at least q members gives.
--
--   Within g k q s c r       r is a k-plex of at least q members that holds s and has no member outside s and c
--   Sought g ask s c r       r is one, for the slack and the floor of ask, or there is none and nothing listed holds s and lies in s and c
--   Seeking g ask have s c   what the search for a clique relies on: the slack is 1, s has `have` members, and c are candidates beside it
--   Sweeping g ask have s b t   what a sweep relies on: the candidates are t and b, and nothing listed is in s and b
use Rattle.std.specs.Prelude.{ℕ, ◌^◌, ◌≤◌, ◌<◌, ◌≡◌, List, length, Option, MatchOption}
use Rattle.std.specs.Int.Bits.{bit_or}
use Rattle.sets.specs.Set.{Sub, size}
use Rattle.sets.specs.Words.{mask}
use Rattle.sets.specs.declared.Set.{Set}
use Rattle.judging.specs.Request.{Request}
use Rattle.judging.specs.Graph.{Valid}
use Rattle.judging.specs.Plex.{Plex}
use Rattle.judging.specs.Setting.{Sized}
use Rattle.search.specs.Found.{Compatible, Empty}

pub record Within (g : List ℕ) (k q s c r : ℕ) : Type 0 where
  pub below : r < 2 ^ length g
  pub plexed : Plex g k r
  pub large : q ≤ size r
  pub lower : Sub s r
  pub upper : Sub r (bit_or s c)

abbrev pub Sought : List ℕ → Request → ℕ → ℕ → Option Set → Type 0
Sought g ask s c r = MatchOption r (Empty g ask s c) (λ x. Within g ask.slack ask.floor s c (mask x))

pub record Seeking (g : List ℕ) (ask : Request) (have s c : ℕ) : Type 0 where
  pub sized : Sized g
  pub valid : Valid g
  pub slack : ask.slack ≡ 1
  pub floor : 1 ≤ ask.floor
  pub counted : have ≡ size s
  pub fine : Compatible g 1 s c

pub record Sweeping (g : List ℕ) (ask : Request) (have s b t : ℕ) : Type 0 where
  pub seeking : Seeking g ask have s (bit_or t b)
  pub none : Empty g ask s b
