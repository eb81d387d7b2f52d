-- The two upper bounds on the size of a k-plex that holds a k-plex s and a vertex v of c and has no vertex outside s and c (document 01: the bounds).
--
--   support g k s w         what the member w of s can still miss (document 01: its spare)
--   missing g s u           what u of c costs, from Graph of judging (document 01: its cost)
--   usable g k s c v        the neighbours of v in c that make a k-plex together with s
--   ordered g k s c v       the same by rising cost, equal costs by rising number
--   supports g k s          the supports of the members of s, added up
--   packable g s b us       the most of us, from the first on, whose costs together are at most b
--   first_bound g k s c v    the first bound (001, Lemma 5)
--   tightest g s sp u       of the members of s that u is not adjacent to, the one with the least support, the lowest on a tie
--   kept g s sp b us        how many of us the second bound keeps, from the supports sp and the running total b on
--   second_bound g k s c v   the second bound (001, Algorithm 1)
--   largest g k s c v       the size of the largest k-plex that holds s and v and has no vertex outside s and c
use Rattle.std.specs.Prelude.{ℕ, suc, ◌+◌, ◌-◌, ◌^◌, cond, not, ◌&&◌, List, [], ◌∷◌, map, length, ◌==◌, bit_or, nat_eq, nat_le, nat_lt, slice_index, slice_set}
use Rattle.sets.specs.Ranges.{range, keep, total, joined, greatest}
use Rattle.sets.specs.Set.{has, size, subset, with, members}
use Rattle.judging.specs.Graph.{adjacent, missing}
use Rattle.judging.specs.Plex.{plex}

-- k less the members of s that w is not adjacent to, w included
unfoldable pub support : List ℕ → ℕ → ℕ → ℕ → ℕ
support g k s w = k - missing g s w

unfoldable pub usable : List ℕ → ℕ → ℕ → ℕ → ℕ → List ℕ
usable g k s c v = keep (λ u. has c u && adjacent g v u && plex g k (with s u)) (range (length g))

-- no cost is above |s|
unfoldable pub ordered : List ℕ → ℕ → ℕ → ℕ → ℕ → List ℕ
ordered g k s c v = joined (λ d. keep (λ u. nat_eq (missing g s u) d) (usable g k s c v)) (range (suc (size s)))

unfoldable pub supports : List ℕ → ℕ → ℕ → ℕ
supports g k s = total (support g k s) (members (length g) s)

unfoldable pub packable : List ℕ → ℕ → ℕ → List ℕ → ℕ
packable g s b [] = 0
packable g s b (u ∷ us) = cond (nat_le (missing g s u) b) (suc (packable g s (b - missing g s u) us)) 0

unfoldable pub first_bound : List ℕ → ℕ → ℕ → ℕ → ℕ → ℕ
first_bound g k s c v = size s + k - missing g s v + packable g s (supports g k s) (ordered g k s c v)

-- of two vertices the one with the lower support, the first on a tie
unfoldable pub lesser : List ℕ → ℕ → ℕ → ℕ
lesser sp a b = cond (nat_le (slice_index sp a) (slice_index sp b)) a b

-- the vertex of a list with the least support, the first one on a tie; d for the empty list
unfoldable pub least : List ℕ → ℕ → List ℕ → ℕ
least sp d [] = d
least sp d (x ∷ xs) = lesser sp x (least sp x xs)

unfoldable pub tightest : List ℕ → ℕ → List ℕ → ℕ → ℕ
tightest g s sp u = least sp 0 (keep (λ w. not (adjacent g u w)) (members (length g) s))

unfoldable pub kept : List ℕ → ℕ → List ℕ → ℕ → List ℕ → ℕ
kept g s sp b [] = 0
kept g s sp b (u ∷ us) =
    let w = tightest g s sp u in
    let charged = suc (kept g s (slice_set sp w (slice_index sp w - 1)) (b - missing g s u) us) in
    let free = suc (kept g s sp b us) in
    let skipped = kept g s sp b us in
    cond (nat_lt b (missing g s u)) skipped (cond (missing g s u == 0) free (cond (nat_lt 0 (slice_index sp w)) charged skipped))

unfoldable pub second_bound : List ℕ → ℕ → ℕ → ℕ → ℕ → ℕ
second_bound g k s c v =
    size s + k - missing g s v + kept g s (map (support g k s) (range (length g))) (supports g k s) (ordered g k s c v)

unfoldable pub largest : List ℕ → ℕ → ℕ → ℕ → ℕ → ℕ
largest g k s c v =
    greatest size (keep (λ m. subset (with s v) m && subset m (bit_or s c) && plex g k m) (range (2 ^ length g)))
