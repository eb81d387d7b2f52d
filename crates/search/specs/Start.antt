-- Where a search may start.
--
--   Searchable g ask        a valid graph that sets can hold, and numbers within range: a floor of any height
--   Accepted g ask          what is known of a request that passes the checks: the same, a floor of 2k - 1 at least, and a silent set within the graph
--   attached g m z s        the members of z that are adjacent to more than m members of s
--   Candidates g ask c      c are vertices of the graph, and every listed plex lies in c
--   Startable g ask all s c every listed plex lies in all, and the candidates c are compatible with s
use Rattle.std.specs.Prelude.{ℕ, ◌+◌, ◌*◌, ◌^◌, ◌<◌, ◌≤◌, ◌&&◌, List, length, nat_lt}
use Rattle.sets.specs.Set.{has, Sub, set_of}
use Rattle.sets.specs.Words.{width}
use Rattle.judging.specs.Request.{Request}
use Rattle.judging.specs.Graph.{degree, Valid}
use Rattle.judging.specs.Refusal.{most_slack}
use Rattle.judging.specs.Setting.{Sized}
use Rattle.lists.specs.Listing.{Listed}
use Rattle.search.specs.Found.{Compatible}

pub record Searchable (g : List ℕ) (ask : Request) : Type 0 where
  pub sized : Sized g
  pub valid : Valid g
  pub slack : (1 ≤ ask.slack) × (ask.slack ≤ most_slack)
  pub floor : ask.floor ≤ width

pub record Accepted (g : List ℕ) (ask : Request) : Type 0 where
  pub sized : Sized g
  pub valid : Valid g
  pub slack : (1 ≤ ask.slack) × (ask.slack ≤ most_slack)
  pub floor : (2 * ask.slack ≤ ask.floor + 1) × (ask.floor ≤ width)
  pub silent : ask.silent < 2 ^ length g

unfoldable pub attached : List ℕ → ℕ → ℕ → ℕ → ℕ
attached g m z s = set_of (length g) (λ v. has z v && nat_lt m (degree g s v))

pub record Candidates (g : List ℕ) (ask : Request) (c : ℕ) : Type 0 where
  pub below : c < 2 ^ length g
  pub holds : (x : ℕ) → Listed g ask x → Sub x c

pub record Startable (g : List ℕ) (ask : Request) (all s c : ℕ) : Type 0 where
  pub accepted : Accepted g ask
  pub candidates : Candidates g ask all
  pub fine : Compatible g ask.slack s c
