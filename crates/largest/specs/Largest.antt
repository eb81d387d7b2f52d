-- The largest k-plex that holds a set f of forced vertices, and of those of that size the lowest mask.
--
--   holding g k f s      s is a k-plex that holds f (document 02, card 1: a theme that holds the must-shows)
--   largest_size g k f    the greatest size of such a plex, over all masks below 2 ^ n
--   largest_mask g k f    the lowest mask of one of that size, or 2 ^ n where there is none
--   Holding              as a statement: s is a mask below 2 ^ n with holding g k f s
--   Largest g k f s      s is such a plex, none is larger, and none of its size has a lower mask
use Rattle.std.specs.Prelude.{ℕ, ◌^◌, ◌≤◌, ◌<◌, ◌≡◌, Bool, ◌&&◌, List, eqb, length}
use Rattle.sets.specs.Ranges.{range, keep, first, greatest}
use Rattle.sets.specs.Set.{Sub, size, subset}
use Rattle.judging.specs.Plex.{plex, Plex}

unfoldable pub holding : List ℕ → ℕ → ℕ → ℕ → Bool
holding g k f s = subset f s && plex g k s

unfoldable pub largest_size : List ℕ → ℕ → ℕ → ℕ
largest_size g k f = greatest size (keep (holding g k f) (range (2 ^ length g)))

unfoldable pub largest_mask : List ℕ → ℕ → ℕ → ℕ
largest_mask g k f =
    let n = 2 ^ length g in
    first (λ s. holding g k f s && eqb (size s) (largest_size g k f)) n (range n)

pub record Holding (g : List ℕ) (k f s : ℕ) : Type 0 where
  pub below : s < 2 ^ length g
  pub lower : Sub f s
  pub plexed : Plex g k s

pub record Largest (g : List ℕ) (k f s : ℕ) : Type 0 where
  pub holds : Holding g k f s
  pub top : (t : ℕ) → Holding g k f t → size t ≤ size s
  pub lowest : (t : ℕ) → Holding g k f t → size t ≡ size s → s ≤ t
