-- Laws of common neighbours: how many two members of a plex have.
use Rattle.std.specs.Prelude.{◌≡◌, ℕ, ◌+◌, ◌*◌, ◌^◌, ◌<◌, ◌≤◌, ◌≢◌, List, length}
use Rattle.std.proofs.Common.{arith}
use Rattle.std.specs.Int.Bits.{bit_and, bit_or}
use Rattle.sets.specs.Set.{bit, In, Sub, size, minus}
use Rattle.sets.specs.Graph.{row}
use Rattle.sets.specs.BitLaws.{bit_le, bit-bit_and, bit-bit_or, bit-minus}
use Rattle.sets.specs.PointLaws.{by_bit}
use Rattle.sets.specs.SubsetLaws.{sub_refl, in_below}
use Rattle.sets.specs.SizeLaws.{size-minus, size_or, size_mono, some_member}
use Rattle.judging.specs.Graph.{missing, Valid}
use Rattle.judging.specs.Plex.{Plex}
use Rattle.judging.specs.GraphLaws.{miss_both}
use Rattle.bounds.specs.Pair.{common}

module _ (g : List ℕ) (k : ℕ) (ok : Valid g) where
  -- 001, Lemma 3: two members of a plex x in s have in s at least |x| - 2k common neighbours, and two more where they are not adjacent,
  -- as they then both miss the two of them
  pub pair_common : (s x u v : ℕ) → x < 2 ^ length g → Plex g k x → Sub x s → In u x → In v x → u ≢ v
      → size x + 2 ≤ common g s u v + 2 * k + 2 * bit (row g u) v
  unfolding common missing
  pair_common s x u v b p h hu hv ne =
      let du = p u (in_below _ x u b hu) hu in
      let dv = p v (in_below _ x v b hv) hv in
      omega (arith, size_or mu mv, size-minus x (bit_or mu mv), covered, shared, apart)
    where
      mu : ℕ
      mu = minus x (row g u)

      mv : ℕ
      mv = minus x (row g v)

      covered : size (bit_and x (bit_or mu mv)) ≤ size (bit_or mu mv)
      covered = size_mono _ _ (λ w. omega (arith, bit-bit_and x (bit_or mu mv) w))

      shared : size (minus x (bit_or mu mv)) ≤ size (bit_and s (bit_and (row g u) (row g v)))
      shared =
          size_mono _ _ (λ w.
          let both = bit-bit_and s (bit_and (row g u) (row g v)) w in
          let rows = bit-bit_and (row g u) (row g v) w in
          let missed = bit-bit_or mu mv w in
          omega (arith, h w, bit-minus x (bit_or mu mv) w, bit-minus x (row g u) w, bit-minus x (row g v) w, bit_le x w, bit_le s w))

      apart : 2 ≤ size (bit_and mu mv) + 2 * bit (row g u) v
      apart = by_bit (row g u) v (λ e. omega arith) (λ o. omega (arith, miss_both g x u v ok b hu hv ne o))

  -- 001, Lemma 1: two members of a plex of 2k - 1 or more vertices that are not adjacent have a common neighbour among the members
  pub common_neighbour : (s u v : ℕ) → s < 2 ^ length g → Plex g k s → 2 * k ≤ size s + 1 → In u s → In v s → u ≢ v → bit (row g u) v ≡ 0
      → (w : ℕ) × In w s × In w (row g u) × In w (row g v)
  unfolding common
  common_neighbour s u v b p big hu hv ne nl =
      let r = some_member (bit_and s (bit_and (row g u) (row g v))) (omega (arith, pair_common s s u v b p (sub_refl s) hu hv ne)) in
      let e = bit-bit_and s (bit_and (row g u) (row g v)) r.0 in
      let d = bit-bit_and (row g u) (row g v) r.0 in
      (r.0, omega (arith, r.1, bit_le s r.0), omega (arith, r.1, bit_le (row g u) r.0), omega (arith, r.1, bit_le (row g v) r.0))
