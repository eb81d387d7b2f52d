-- The list of the maximal k-plexes of at least q vertices that are not silent, as masks.
--
--   listed g ask s   s has at least q members that are not silent and is a maximal k-plex, for the slack k, the floor q and the silent set of the request ask:
--                    at the floor the other members count alone, while whether s is a k-plex, and maximal, concerns all (document 02, card 6)
--   listing g ask    document 01, "The list": every mask below 2 ^ n whose set is such a plex, each once, in rising order
--   Listed           as a statement: s is a mask below 2 ^ n with listed g ask s
use Rattle.std.specs.Prelude.{ℕ, ◌^◌, ◌≤◌, ◌<◌, Bool, ◌&&◌, List, leb, length}
use Rattle.sets.specs.Ranges.{range, keep}
use Rattle.sets.specs.Set.{size}
use Rattle.judging.specs.Request.{Request, recorded}
use Rattle.judging.specs.Plex.{maximal, Maximal}

unfoldable pub listed : List ℕ → Request → ℕ → Bool
listed g ask s = leb ask.floor (size (recorded ask s)) && maximal g ask.slack s

unfoldable pub listing : List ℕ → Request → List ℕ
listing g ask = keep (listed g ask) (range (2 ^ length g))

pub record Listed (g : List ℕ) (ask : Request) (s : ℕ) : Type 0 where
  pub below : s < 2 ^ length g
  pub large : ask.floor ≤ size (recorded ask s)
  pub top : Maximal g ask.slack s
