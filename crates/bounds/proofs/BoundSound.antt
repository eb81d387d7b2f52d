-- Neither bound is below the size of a k-plex m that holds s and v and has no vertex outside s and c: the neighbours of v that m adds to s are a
-- choice that every member has the support for.
use Rattle.std.specs.Prelude.{◌≡◌, ℕ, ◌+◌, ◌^◌, ◌<◌, ◌≤◌, Bool, ◌&&◌, List, map, length}
use Rattle.std.proofs.Common.{le_trans, ◌∙◌}
use native.Mathlib.Omega.{arith}
use Rattle.std.specs.Int.Bits.{bit_and, bit_or}
use Rattle.sets.specs.Ranges.{range, keep, total}
use Rattle.sets.specs.Set.{bit, has, In, Sub, size, subset, with, minus, members}
use Rattle.sets.specs.Graph.{row}
use Rattle.sets.specs.RangeLaws.{range_mem, keep_mem, and_left, and_right, cond_true, cond_le}
use Rattle.sets.specs.ListLaws.{get_or-map_range, map-range-length, greatest_le, part_keep}
use Rattle.sets.specs.BitLaws.{bit_le, bit-bit_and, bit-bit_or, bit-minus}
use Rattle.sets.specs.PointLaws.{by_bit}
use Rattle.sets.specs.SubsetLaws.{has_in, in_has, in_below, with_sub, sub_with, with_same, sub_trans, in_of_sub, subset-sub}
use Rattle.sets.specs.SizeLaws.{size_mono, size-minus, size-sum, and_below, minus_below}
use Rattle.sets.specs.SumLaws.{sum, sum_mono, total_ext, total-keep, total-range, total_costs, total-sum, total_zero, length-total, where_so}
use Rattle.judging.specs.Graph.{missing, Valid}
use Rattle.judging.specs.Plex.{plex, Plex}
use Rattle.judging.specs.PlexLaws.{plex_holds, hereditary}
use Rattle.bounds.specs.Bound.{support, usable, ordered, supports, first_bound, second_bound, largest}
use Rattle.bounds.specs.OrderedLaws.{usable_at, Usable, usable_holds, usable_test, cost_fits, ordered_by_cost}
use Rattle.bounds.specs.ExchangeLaws.{apart, Feasible, kept_sound}
use Rattle.bounds.specs.BoundLaws.{second_first}

module _ (g : List ℕ) (k s c v m : ℕ) (ok : Valid g) (low : s < 2 ^ length g) (low-m : m < 2 ^ length g)
    (p : Plex g k m) (sm : Sub s m) (vm : In v m) (mc : Sub m (bit_or s c)) (disjoint : (u : ℕ) → In u c → bit s u ≡ 0) where
  wanted : ℕ → Bool
  wanted = usable_at g k s c v

  -- what the plex takes of the neighbours, in their order
  chosen : List ℕ
  chosen = keep (has m) (ordered g k s c v)

  -- what it adds to s and w is not adjacent to
  added : ℕ → ℕ
  added w = minus (minus m s) (row g w)

  added_below : (w : ℕ) → added w < 2 ^ length g
  unfolding added
  added_below w = minus_below (length g) (minus m s) (row g w) (minus_below (length g) m s low-m)

  added_fits : (w : ℕ) → size (added w) + missing g s w ≤ missing g m w
  unfolding missing added
  added_fits w =
      let r = row g w in
      let more = size_mono (minus (minus m s) r) (minus (minus m r) s) (λ u.
      omega (arith, bit-minus (minus m s) r u, bit-minus m s u, bit-minus (minus m r) s u, bit-minus m r u)) in
      let less = size_mono (minus s r) (bit_and (minus m r) s) (λ u.
      omega (arith, bit-minus s r u, bit-bit_and (minus m r) s u, bit-minus m r u, sm u, bit_le s u)) in
      omega (arith, size-minus (minus m r) s)

  -- a sum over what is chosen is one over the vertices
  chosen_sum : (f : ℕ → ℕ) → total f chosen ≡ sum (length g) (where_so wanted (where_so (has m) f))
  unfolding chosen ordered usable usable_at wanted
  chosen_sum f =
      total-keep f (has m) (ordered g k s c v)
      ∙ total_costs (missing g s) (where_so (has m) f) (usable g k s c v) _ (λ u q. cost_fits g s u)
      ∙ total-keep (where_so (has m) f) wanted (range (length g))
      ∙ total-range (where_so wanted (where_so (has m) f)) (length g)

  -- no member of s is charged beyond its support
  charged : (w : ℕ) → w < length g → In w s → total (apart g w) chosen ≤ support g k s w
  unfolding support apart added wanted
  charged w l e =
      let most = sum_mono (length g) (where_so wanted (where_so (has m) (apart g w))) (bit (added w)) (λ u q. each u q) in
      omega (arith, chosen_sum (apart g w), added_fits w, p w l (omega (arith, sm w, bit_le m w)), size-sum (length g) (added w) (added_below w))
    where
      each : (u : ℕ) → u < length g → where_so wanted (where_so (has m) (apart g w)) u ≤ bit (added w) u
      each u q =
          cond_le (wanted u) (where_so (has m) (apart g w) u) (bit (added w) u) (λ t.
          cond_le (has m u) (apart g w u) (bit (added w) u) (λ h.
          let out = disjoint u (usable_holds g k s c v u t).candidate in
          omega (arith, bit-minus (minus m s) (row g w) u, bit-minus m s u, has_in m u h, ok.mutually u w q l)))

  -- the costs together are at most the supports
  within_supports : total (missing g s) chosen ≤ supports g k s
  unfolding supports members missing apart
  within_supports =
      omega (
        arith,
        total_ext (missing g s) (λ u. sum (length g) (bit (minus s (row g u)))) chosen (λ u q. cost_sum u),
        total-sum (length g) (λ u. bit (minus s (row g u))) chosen,
        total-keep (support g k s) (has s) (range (length g)),
        total-range (where_so (has s) (support g k s)) (length g),
        sum_mono (length g) (λ w. total (λ u. bit (minus s (row g u)) w) chosen) (where_so (has s) (support g k s)) each,
      )
    where
      cost_sum : (u : ℕ) → missing g s u ≡ sum (length g) (bit (minus s (row g u)))
      cost_sum u = size-sum (length g) (minus s (row g u)) (minus_below (length g) s (row g u) low)

      member_apart : (u w : ℕ) → In w s → bit (minus s (row g u)) w ≡ apart g w u
      member_apart u w e = omega (arith, bit-minus s (row g u) w)

      each : (w : ℕ) → w < length g → total (λ u. bit (minus s (row g u)) w) chosen ≤ where_so (has s) (support g k s) w
      each w l =
          by_bit s w
          (λ e.
          let same = total_ext (λ u. bit (minus s (row g u)) w) (apart g w) chosen (λ u q. member_apart u w e) in
          omega (arith, cond_true (has s w) (support g k s w) 0 (in_has s w e), charged w l e))
          (λ o.
          let none = total_ext (λ u. bit (minus s (row g u)) w) (λ u. 0) chosen (λ u q. omega (arith, bit-minus s (row g u) w)) in
          omega (arith, total_zero chosen))

  -- the neighbours of v that m adds to s are all chosen
  enough : size (bit_and (minus m s) (row g v)) ≤ length chosen
  unfolding wanted
  enough =
      let n = length g in
      let near = bit_and (minus m s) (row g v) in
      let most = sum_mono n (bit near) (where_so wanted (where_so (has m) (λ u. 1))) (λ u l. each u) in
      omega (arith, length-total chosen, chosen_sum (λ u. 1), size-sum n near (and_below n (minus m s) (row g v) (minus_below n m s low-m)))
    where
      each : (u : ℕ) → bit (bit_and (minus m s) (row g v)) u ≤ where_so wanted (where_so (has m) (λ u. 1)) u
      each u =
          by_bit (bit_and (minus m s) (row g v)) u
          (λ e.
          let b = bit-bit_and (minus m s) (row g v) u in
          let d = bit-minus m s u in
          let im : In u m = omega (arith, bit_le m u, bit_le (row g v) u) in
          let ir : In u (row g v) = omega (arith, bit_le (row g v) u) in
          let ic : In u c = omega (arith, mc u, bit-bit_or s c u, bit_le c u, bit_le m u) in
          let y : Usable g k s c v u = record { candidate = ic; near = ir; plex = hereditary g k (with s u) m (with_sub s u m sm im) p } in
          omega (arith, cond_true (wanted u) (where_so (has m) (λ u. 1) u) 0 (usable_test g k s c v y), cond_true (has m u) 1 0 (in_has m u im)))
          (λ o. omega (arith, o))

  pub second_sound : size m ≤ second_bound g k s c v
  unfolding second_bound chosen added
  second_sound =
      let n = length g in
      let long = map-range-length (support g k s) n in
      let most = kept_sound low (ordered g k s c v) long (ordered_by_cost g k s c v) (part_keep (has m) (ordered g k s c v)) feasible in
      let inside = size_mono (bit_and m s) s (λ u. omega (arith, bit-bit_and m s u)) in
      omega (arith, size-minus m s, size-minus (minus m s) (row g v), added_fits v, p v (in_below n m v low-m vm) vm, enough)
    where
      feasible : Feasible g s (map (support g k s) (range (length g))) (supports g k s) chosen
      feasible =
          record { each = λ w l e. omega (arith, charged w l e, get_or-map_range (support g k s) (length g) w l); costs = within_supports }

  pub first_sound : size m ≤ first_bound g k s c v
  first_sound = le_trans second_sound (second_first g k s c v)

-- ---- the largest plex

module _ (g : List ℕ) (k s c v : ℕ) (ok : Valid g) (low : s < 2 ^ length g) (disjoint : (u : ℕ) → In u c → bit s u ≡ 0) where
  -- a plex that holds s and v and has no vertex outside s and c
  between : ℕ → Bool
  between m = subset (with s v) m && subset m (bit_or s c) && plex g k m

  pub second_largest : largest g k s c v ≤ second_bound g k s c v
  unfolding largest between
  second_largest =
      greatest_le size (keep between (range (2 ^ length g))) (second_bound g k s c v) (λ m q.
      let r = keep_mem between (range (2 ^ length g)) m q in
      let p = and_right (subset (with s v) m && subset m (bit_or s c)) (plex g k m) r.1 in
      let e = and_left (subset (with s v) m && subset m (bit_or s c)) (plex g k m) r.1 in
      let w = subset-sub (with s v) m (and_left (subset (with s v) m) (subset m (bit_or s c)) e) in
      second_sound g k s c v m ok low (range_mem (2 ^ length g) m r.0) (plex_holds g k m p)
      (sub_trans s (with s v) m (sub_with s v) w) (in_of_sub (with s v) m v w (with_same s v))
      (subset-sub m (bit_or s c) (and_right (subset (with s v) m) (subset m (bit_or s c)) e)) disjoint)

  pub first_largest : largest g k s c v ≤ first_bound g k s c v
  first_largest = le_trans second_largest (second_first g k s c v)
