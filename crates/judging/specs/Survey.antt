-- What one pass over a set a finds.
--
--   Finds g k a most worst free   most is the looseness of a, worst a member that misses most, and free is what no member blocks
use Rattle.std.specs.Prelude.{ℕ, ◌<◌, ◌≡◌, List}
use Rattle.sets.specs.Set.{In}
use Rattle.judging.specs.Graph.{missing}
use Rattle.judging.specs.Plex.{looseness, unblocked}

pub record Finds (g : List ℕ) (k a most worst free : ℕ) : Type 0 where
  pub loose : most ≡ looseness g a
  pub reached : 0 < most → In worst a × (missing g a worst ≡ most)
  pub opened : free ≡ unblocked g k a
