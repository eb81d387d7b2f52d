-- The start of the search: forced vertices join one after the other, and a first k-plex grows around them.
--
--   Forced g k f               f is a set of vertices of the graph, and a k-plex
--   Fitted g ask f c           c are candidates beside f, and every listed plex that holds f is found with f and c
--   Joining g t ask f s c left on the way: s has joined, left is still to join, and every listed plex that holds f is found with s and c
--   Growing g t ask f s c      s holds f, and c are candidates beside it
use Rattle.std.specs.Prelude.{ℕ, ◌+◌, ◌^◌, ◌<◌, ◌≡◌, List, length}
use Rattle.sets.specs.Set.{bit, Sub}
use Rattle.judging.specs.Request.{Request}
use Rattle.judging.specs.Plex.{Plex}
use Rattle.lists.specs.Listing.{Listed}
use Rattle.search.specs.Found.{Found, Compatible}
use Rattle.search.specs.Ready.{Ready}

pub record Forced (g : List ℕ) (k f : ℕ) : Type 0 where
  pub below : f < 2 ^ length g
  pub plexed : Plex g k f

pub record Fitted (g : List ℕ) (ask : Request) (f c : ℕ) : Type 0 where
  pub fine : Compatible g ask.slack f c
  pub found : (x : ℕ) → Listed g ask x → Sub f x → Found g ask f c x

pub record Joining (g t : List ℕ) (ask : Request) (f s c left : ℕ) : Type 0 where
  pub ready : Ready g t ask s c
  pub parts : (u : ℕ) → bit f u ≡ bit s u + bit left u
  pub found : (x : ℕ) → Listed g ask x → Sub f x → Found g ask s c x

pub record Growing (g t : List ℕ) (ask : Request) (f s c : ℕ) : Type 0 where
  pub ready : Ready g t ask s c
  pub holds : Sub f s
