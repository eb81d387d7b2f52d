-- Laws of degrees and non-neighbours: they add up to the size, grow with the set, and change by one vertex more.
use Rattle.std.specs.Prelude.{ℕ, suc, ◌+◌, ◌^◌, ◌≤◌, ◌<◌, ◌≡◌, ◌≢◌, List, T, length}
use Rattle.std.proofs.Common.{arith, ap}
use Rattle.std.specs.Int.Bits.{bit_and}
use Rattle.sets.specs.Set.{bit, In, Sub, size, with, minus}
use Rattle.sets.specs.Graph.{row}
use Rattle.sets.specs.BitLaws.{ext, bit_le, bit-bit_and, bit-minus}
use Rattle.sets.specs.PointLaws.{bit_with, single_in, single_out, by_bit}
use Rattle.sets.specs.SubsetLaws.{in_below, has_in, in_has, positive}
use Rattle.sets.specs.SizeLaws.{two_members, size-minus, size_with, size_mono, positive_size}
use Rattle.judging.specs.Graph.{adjacent, degree, missing, Valid}

-- the members of s, adjacent to a or not
pub degree-missing : (g : List ℕ) (s a : ℕ) → degree g s a + missing g s a ≡ size s
unfolding degree missing
degree-missing g s a = omega (arith, size-minus s (row g a))

-- a larger set has at least the members that a misses
pub missing_mono : (g : List ℕ) (s t a : ℕ) → Sub s t → missing g s a ≤ missing g t a
unfolding missing
missing_mono g s t a h =
    size_mono (minus s (row g a)) (minus t (row g a)) (λ v. omega (arith, bit-minus s (row g a) v, bit-minus t (row g a) v, h v))

-- a member misses itself
pub missing_self : {g : List ℕ} (s v : ℕ) → Valid g → v < length g → In v s → 1 ≤ missing g s v
unfolding missing
missing_self {g} s v ok l i =
    positive_size (minus s (row g v)) (positive (minus s (row g v)) v (omega (arith, bit-minus s (row g v) v, ok.loopless v l)))

pub degree_mono : (g : List ℕ) (s t a : ℕ) → Sub s t → degree g s a ≤ degree g t a
unfolding degree
degree_mono g s t a h =
    size_mono (bit_and s (row g a)) (bit_and t (row g a)) (λ v. omega (arith, bit-bit_and s (row g a) v, bit-bit_and t (row g a) v, h v))

-- one vertex x more: v misses it, or is adjacent to it
pub missing_with : (g : List ℕ) (s x v : ℕ) → bit s x ≡ 0 → missing g (with s x) v + bit (row g v) x ≡ suc (missing g s v)
unfolding missing
missing_with g s x v e = by_bit r x (λ h. omega (arith, ap size (same h))) (λ o. omega (arith, ap size (more o), size_with (minus s r) x free))
  where
    r : ℕ
    r = row g v

    free : bit (minus s r) x ≡ 0
    free = omega (arith, bit-minus s r x)

    same : In x r → minus (with s x) r ≡ minus s r
    same h =
        ext (minus (with s x) r) (minus s r) (λ u.
        omega (arith, bit-minus (with s x) r u, bit-minus s r u, bit_with s x u, single_in r x u h, bit_le s u, bit_le r u))

    more : bit r x ≡ 0 → minus (with s x) r ≡ with (minus s r) x
    more o =
        ext (minus (with s x) r) (with (minus s r) x) (λ u.
        omega (arith, bit-minus (with s x) r u, bit-minus s r u, bit_with s x u, bit_with (minus s r) x u, single_out r x u o, bit_le s u))

-- ---- the test and the statement

pub adjacent_in : (g : List ℕ) (a b : ℕ) → T (adjacent g a b) → In b (row g a)
unfolding adjacent
adjacent_in g a b t = has_in (row g a) b t

pub in_adjacent : (g : List ℕ) (a b : ℕ) → In b (row g a) → T (adjacent g a b)
unfolding adjacent
in_adjacent g a b e = in_has (row g a) b e

-- two members that are not adjacent miss each other and themselves
pub miss_both : (g : List ℕ) (s u v : ℕ) → Valid g → s < 2 ^ length g → In u s → In v s → u ≢ v → bit (row g u) v ≡ 0
    → 2 ≤ size (bit_and (minus s (row g u)) (minus s (row g v)))
miss_both g s u v ok b hu hv ne nl =
    let lu = in_below (length g) s u b hu in
    let lv = in_below (length g) s v b hv in
    two_members (bit_and (minus s (row g u)) (minus s (row g v))) u v ne
    (missed u hu (ok.loopless u lu) (omega (arith, ok.mutually u v lu lv)))
    (missed v hv nl (ok.loopless v lv))
  where
    missed : (w : ℕ) → In w s → bit (row g u) w ≡ 0 → bit (row g v) w ≡ 0 → In w (bit_and (minus s (row g u)) (minus s (row g v)))
    missed w i p q =
        omega (arith, bit-bit_and (minus s (row g u)) (minus s (row g v)) w, bit-minus s (row g u) w, bit-minus s (row g v) w)
