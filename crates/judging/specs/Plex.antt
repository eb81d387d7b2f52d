-- k-plexes and maximal k-plexes, by Seidman and Foster's definition.
--
--   plex g k s        s is a k-plex (document 01: a theme; 001, Definition 1): each member is adjacent to at least |s| - k members
--   looseness g s     how loose s is (document 02): the most members that a member misses, itself counted; 0 for no members
--   maximal g k s     s is a maximal k-plex (document 01: a maximal theme): no other k-plex of the graph contains it
--   Plex, Maximal     the same as statements
--   unblocked g k s   the vertices outside s that are adjacent to each member of s that misses k or more of s
--   extendable g k s   some vertex of unblocked g k s misses fewer than k of s: it can be added to every plex inside s
use Rattle.std.specs.Prelude.{ℕ, ◌+◌, ◌^◌, ◌<◌, ◌≤◌, ◌≡◌, Bool, not, ◌&&◌, ◌||◌, List, eqb, leb, ltb, length}
use Rattle.sets.specs.Ranges.{range, all, any, greatest}
use Rattle.sets.specs.Set.{has, In, Sub, size, subset, members, set_of}
use Rattle.judging.specs.Graph.{adjacent, degree, missing}

unfoldable pub plex : List ℕ → ℕ → ℕ → Bool
plex g k s = all (λ v. leb (size s) (degree g s v + k)) (members (length g) s)

unfoldable pub looseness : List ℕ → ℕ → ℕ
looseness g s = greatest (missing g s) (members (length g) s)

unfoldable pub maximal : List ℕ → ℕ → ℕ → Bool
maximal g k s = plex g k s && all (λ t. not (subset s t && plex g k t) || eqb t s) (range (2 ^ length g))

-- each member misses at most k members, itself among them
abbrev pub Plex : List ℕ → ℕ → ℕ → Type 0
Plex g k s = (v : ℕ) → v < length g → In v s → missing g s v ≤ k

abbrev pub Maximal : List ℕ → ℕ → ℕ → Type 0
Maximal g k s = Plex g k s × ((t : ℕ) → t < 2 ^ length g → Sub s t → Plex g k t → t ≡ s)

unfoldable pub unblocked : List ℕ → ℕ → ℕ → ℕ
unblocked g k s =
    set_of (length g) (λ x. not (has s x) && all (λ v. ltb (missing g s v) k || adjacent g v x) (members (length g) s))

unfoldable pub extendable : List ℕ → ℕ → ℕ → Bool
extendable g k s = any (λ x. ltb (missing g s x) k) (members (length g) (unblocked g k s))
