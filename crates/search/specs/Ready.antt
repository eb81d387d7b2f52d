-- What the recursive search relies on, and what a step of it has in hand.
--
--   Settled g t ask             what stays put: a valid graph that sets can hold, numbers within range, and a table t of near rows
--   Ready g t ask s c           the same, and candidates c that are compatible with s
--   lowered k q z s             the request whose floor and the silent members of s together are q: the search carries q
--   Branching g t k q z s c     ready for that request, of which q is not below the silent members
--   Whole g t ask s c a         the same, and a is s and c together
--   Split g t ask s c v r rest  a vertex v of c is branched on: r are the candidates kept beside it, and rest those without it
--   LeafReady g k a free        a is a set of vertices of the graph, and free are those that no member of a blocks
use Rattle.std.specs.Prelude.{◌≡◌, ℕ, ◌-◌, ◌^◌, ◌<◌, ◌≤◌, List, length, bit_and, bit_or}
use Rattle.sets.specs.Set.{In, size, without}
use Rattle.sets.specs.Words.{width}
use Rattle.judging.specs.Request.{Request, request}
use Rattle.judging.specs.Graph.{Valid}
use Rattle.judging.specs.Refusal.{most_slack}
use Rattle.judging.specs.Plex.{unblocked}
use Rattle.judging.specs.Setting.{Sized}
use Rattle.search.specs.Found.{Compatible, Near}
use Rattle.search.specs.Trim.{Beside}

pub record Settled (g t : List ℕ) (ask : Request) : Type 0 where
  pub sized : Sized g
  pub valid : Valid g
  pub slack : (1 ≤ ask.slack) × (ask.slack ≤ most_slack)
  pub floor : ask.floor ≤ width
  pub long : length g ≤ length t
  pub near : Near g ask t

pub record Ready (g t : List ℕ) (ask : Request) (s c : ℕ) : Type 0 where
  pub settled : Settled g t ask
  pub fine : Compatible g ask.slack s c

abbrev pub lowered : ℕ → ℕ → ℕ → ℕ → Request
lowered k q z s = request k (q - size (bit_and s z)) z

pub record Branching (g t : List ℕ) (k q z s c : ℕ) : Type 0 where
  pub ready : Ready g t (lowered k q z s) s c
  pub raised : size (bit_and s z) ≤ q

pub record Whole (g t : List ℕ) (ask : Request) (s c a : ℕ) : Type 0 where
  pub ready : Ready g t ask s c
  pub whole : a ≡ bit_or s c

pub record Split (g t : List ℕ) (ask : Request) (s c v r rest : ℕ) : Type 0 where
  pub ready : Ready g t ask s c
  pub member : In v c
  pub beside : Beside g ask s c v r
  pub others : rest ≡ without c v

pub record LeafReady (g : List ℕ) (k a free : ℕ) : Type 0 where
  pub below : a < 2 ^ length g
  pub unblocking : free ≡ unblocked g k a
