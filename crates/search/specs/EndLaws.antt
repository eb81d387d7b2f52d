-- Laws of a clique with at most two candidates left, which need no pivot: with none it is maximal or adds nothing, a vertex alone is taken, of two that
-- are adjacent both are, and of two that are not each is taken by itself.
use Rattle.std.specs.Prelude.{◌≡◌, ℕ, ◌^◌, ◌<◌, max, Bool, true, false, T, ◌≢◌, ◌⊎◌, List, length}
use Rattle.std.proofs.Common.{arith, sym, ap, ◌∙◌, subst, inl, inr, eqb→eq, pow_pos}
use Rattle.std.specs.Prelude.{refl}
use Rattle.std.specs.Int.Bits.{bit_and, bit_or, and_zero_l}
use Rattle.std.proofs.Math.Dec.{eqb_refl}
use Rattle.sets.specs.Set.{bit, has, In, Sub, with, without}
use Rattle.sets.specs.Graph.{row}
use Rattle.sets.specs.Words.{Lowest}
use Rattle.sets.specs.BitLaws.{ext, bit_le, bit-bit_and, bit-bit_or, bit-minus, bit-pow_same, bit-pow_other}
use Rattle.sets.specs.PointLaws.{bit_none, bit_with, single_in, single_out, by_bit, none_out, none_by, minus_self}
use Rattle.sets.specs.RangeLaws.{or_cases, or_left, or_right, true_holds, false_fails, test_same}
use Rattle.sets.specs.SubsetLaws.{sub_refl, in_of_sub, with_same, with_below, sub_with, has_in, in_has}
use Rattle.judging.specs.Request.{Request, request}
use Rattle.judging.specs.Plex.{Plex, Maximal}
use Rattle.judging.specs.PlexLaws.{maximal_by_one}
use Rattle.lists.specs.Placing.{only, union, Apart, Adds}
use Rattle.lists.specs.PlacingLaws.{adds_same, adds_both}
use Rattle.search.specs.Found.{found, Found, AddsFound}
use Rattle.search.specs.FoundLaws.{found_holds, found_test}
use Rattle.search.specs.Cliques.{Covering, Taking}
use Rattle.search.specs.CliqueLaws.{clique_adjacent, clique_near, common_out, cover_all}
use Rattle.search.specs.TakeLaws.{Joined, take_pickable, take_near, take_vertex, take_part, take_with, cover_sweeping, cover_hits, cover_adds}
use Rattle.search.specs.SweepLaws.{Step, swept_none, swept_more, swept_all}

-- ---- no candidate

module _ {g : List ℕ} {s m : ℕ} (h : Taking g s 0 m) where
  -- a clique with common neighbours is not maximal
  pub end_none : 0 < m → (slots : List ℕ) (count : ℕ) → AddsFound g (request 1 0 0) s 0 slots count slots count
  end_none l slots count =
      let cover : Covering g 0 m 0 = cover_all (record { some = l; below = h.common.below }) in
      cover_adds h cover refl (request 1 0 0) refl (swept_all (swept_none (request 1 0 0) refl (cover_sweeping h cover refl) slots count) refl)

  -- one without is
  module _ (alone : m ≡ 0) where
    top : Maximal g 1 s
    top = maximal_by_one g 1 s h.clique (λ x l o p. omega (arith, none_out alone x, h.common.every x l (λ u i. near x l o p u i)))
      where
        near : (x : ℕ) → x < length g → bit s x ≡ 0 → Plex g 1 (with s x) → (u : ℕ) → In u s → In x (row g u)
        near x l o p u i =
            clique_adjacent g h.valid (with s x) u x (with_below (length g) s x h.below l) p (in_of_sub s (with s x) u (sub_with s x) i) (with_same s x)
            (λ e. omega (arith, subst (λ (y : ℕ). bit s y ≡ 0) (sym e) o))

    lonely : (y : ℕ) → y < 2 ^ length g → only s y ≡ found g (request 1 0 0) s 0 y
    lonely y l = test_same (only s y) (found g (request 1 0 0) s 0 y) into back
      where
        into : T (only s y) → T (found g (request 1 0 0) s 0 y)
        into k =
            rw (eqb→eq y s k) (found_test g (request 1 0 0) s 0 s (record {
              lower = sub_refl s;
              upper = λ u. omega (arith, bit-bit_or s 0 u);
              listed = record { below = h.below; large = omega arith; top = top };
            }))

        back : T (found g (request 1 0 0) s 0 y) → T (only s y)
        back k =
            let f = found_holds g (request 1 0 0) s 0 y l k in
            rw (f.listed.top.1 s h.below (λ u. omega (arith, f.upper u, bit-bit_or s 0 u, bit_none u)) h.clique) (eqb_refl y)

    pub lonely_adds : {before after : List ℕ} {count o : ℕ} → Adds (2 ^ length g) (only s) before count after o
        → AddsFound g (request 1 0 0) s 0 before count after o
    lonely_adds {before} {after} {count} {o} x = adds_same (2 ^ length g) (only s) (found g (request 1 0 0) s 0) before after count o lonely x

-- ---- one vertex v covers the candidates: every clique to be found has it

module _ {g : List ℕ} (ask : Request) (one : ask.slack ≡ 1) {s c m v j w r : ℕ} (h : Taking g s c m) (cover : Covering g c m (2 ^ v))
    (d : Joined g s m v j w) (e : r ≡ bit_and (without c v) (row g v)) where
  sole : Step g s (without c v) m (2 ^ v) v j r w (with (without c v) v) 0
  sole = record { member = bit-pow_same v; joined = d; inside = e; waiting = refl; left = minus_self (2 ^ v) }

  sole_adds : {before after : List ℕ} {count o : ℕ} → AddsFound g ask j r before count after o → AddsFound g ask s c before count after o
  sole_adds {before} {after} {count} {o} x =
      cover_adds h cover refl ask one (swept_all (swept_more (swept_none ask one (cover_sweeping h cover refl) before count) sole x) refl)

-- ---- one candidate

module _ {g : List ℕ} {s m : ℕ} (v : ℕ) (h : Taking g s (2 ^ v) m) where
  pub one_vertex : v < length g
  one_vertex = take_vertex h v (bit-pow_same v)

  one_cover : Covering g (2 ^ v) m (2 ^ v)
  one_cover = cover_all (take_pickable h (pow_pos v))

  -- every clique to be found has it
  one_held : (ask : Request) → ask.slack ≡ 1 → (x : ℕ) → Found g ask s (2 ^ v) x → In v x
  one_held ask one x f =
      let hits = cover_hits h one_cover refl ask one x f in
      by_bit x v (λ i. i) (λ o. absurd (omega (arith, hits, none_by (bit_and x (2 ^ v)) (λ u. omega (arith, bit-bit_and x (2 ^ v) u, single_out x v u o)))))

  module _ {j w : ℕ} (d : Joined g s m v j w) where
    pub one_taking : Taking g j 0 w
    one_taking = take_with h (take_near h v (bit-pow_same v)) d (λ u. omega (arith, bit_none u))

    pub one_adds : (ask : Request) (one : ask.slack ≡ 1) {before after : List ℕ} {count o : ℕ} → AddsFound g ask j 0 before count after o
        → AddsFound g ask s (2 ^ v) before count after o
    one_adds ask one x = sole_adds ask one h one_cover d (rw (← minus_self (2 ^ v)) (sym (and_zero_l (row g v)))) x

pub one_left : {c u d : ℕ} → Lowest c u → d ≡ without c u → d ≡ 0 → c ≡ 2 ^ u
one_left {c} {u} {d} i e z =
    ext c (2 ^ u) (λ w. omega (arith, none_out (sym e ∙ z) w, bit-minus c (2 ^ u) w, single_in c u w i.member, bit_le c w))

-- ---- two candidates

module _ {g : List ℕ} {s m u v : ℕ} (apart : u ≢ v) (h : Taking g s (with (2 ^ u) v) m) where
  first_in : In u (with (2 ^ u) v)
  first_in = omega (arith, bit_with (2 ^ u) v u, bit-pow_same u, bit_le (2 ^ v) u)

  pub pair_near : In u m
  pair_near = take_near h u first_in

  pub pair_vertices : (u < length g) × (v < length g)
  pair_vertices = (take_vertex h u first_in, take_vertex h v (with_same (2 ^ u) v))

  -- each by itself
  pub pair_first : Taking g s (2 ^ u) m
  pair_first = take_part h (λ x. single_in m u x (pair_near))

  pub pair_second : Taking g s (2 ^ v) m
  pair_second = take_part h (λ x. single_in m v x (take_near h v (with_same (2 ^ u) v)))

  -- where they are adjacent u is a pivot that misses itself alone, and v waits
  module _ (near : In v (row g u)) {j w : ℕ} (d : Joined g s m u j w) where
    both_cover : Covering g (with (2 ^ u) v) m (2 ^ u)
    both_cover =
        record {
          pivot = u;
          member = pair_near;
          covers = λ x. omega (arith, bit-minus (with (2 ^ u) v) (row g u) x, bit_with (2 ^ u) v x, single_in (row g u) v x near);
          part = λ x. omega (arith, bit_with (2 ^ u) v x);
        }

    waits : 2 ^ v ≡ bit_and (without (with (2 ^ u) v) u) (row g u)
    waits =
        ext (2 ^ v) (bit_and (without (with (2 ^ u) v) u) (row g u)) (λ x.
        omega (
          arith,
          bit-bit_and (without (with (2 ^ u) v) u) (row g u) x,
          bit-minus (with (2 ^ u) v) (2 ^ u) x,
          bit_with (2 ^ u) v x,
          single_in (row g u) v x near,
          single_out (2 ^ u) v x (bit-pow_other u v apart),
          bit_le (row g u) x,
        ))

    pub both_taking : Taking g j (2 ^ v) w
    both_taking =
        take_with h (pair_near) d (rw d.beside (λ x.
        omega (arith, bit-bit_and m (row g u) x, single_in (row g u) v x near, single_in m v x (take_near h v (with_same (2 ^ u) v)))))

    pub both_adds : (ask : Request) (one : ask.slack ≡ 1) {before after : List ℕ} {count o : ℕ} → AddsFound g ask j (2 ^ v) before count after o
        → AddsFound g ask s (with (2 ^ u) v) before count after o
    both_adds ask one x = sole_adds ask one h both_cover d waits x

  -- where they are not, a clique to be found has one of them and not the other
  module _ (away : bit (row g u) v ≡ 0) (ask : Request) (one : ask.slack ≡ 1) where
    each_apart : Apart (2 ^ length g) (found g ask s (2 ^ u)) (found g ask s (2 ^ v))
    each_apart x l y z =
        let held = one_held u pair_first ask one x (found_holds g ask s (2 ^ u) x l y) in
        let other = found_holds g ask s (2 ^ v) x l z in
        omega (
          arith,
          held,
          other.upper u,
          bit-bit_or s (2 ^ v) u,
          common_out h.valid h.common u (pair_near),
          bit-pow_same u,
          single_out (2 ^ u) v u (bit-pow_other u v apart),
        )

    each_split : (x : ℕ) → x < 2 ^ length g → union (found g ask s (2 ^ u)) (found g ask s (2 ^ v)) x ≡ found g ask s (with (2 ^ u) v) x
    each_split x l =
        test_same (union (found g ask s (2 ^ u)) (found g ask s (2 ^ v)) x) (found g ask s (with (2 ^ u) v) x)
        (λ y. found_test g ask s (with (2 ^ u) v) x (back (or_cases (found g ask s (2 ^ u) x) (found g ask s (2 ^ v) x) y)))
        (λ y. into (found_holds g ask s (with (2 ^ u) v) x l y))
      where
        within : {c d : ℕ} → Found g ask s c x → Sub x (bit_or s d) → Found g ask s d x
        within f part = record { lower = f.lower; upper = part; listed = f.listed }

        digits : (w : ℕ) → bit (bit_or s (with (2 ^ u) v)) w ≡ max (bit s w) (max (bit (2 ^ u) w) (bit (2 ^ v) w))
        digits w = rw (bit-bit_or, bit_with)

        back : T (found g ask s (2 ^ u) x) ⊎ T (found g ask s (2 ^ v) x) → Found g ask s (with (2 ^ u) v) x
        back (inl y) = let f = found_holds g ask s (2 ^ u) x l y in within f (λ w. omega (arith, f.upper w, bit-bit_or s (2 ^ u) w, digits w))
        back (inr y) = let f = found_holds g ask s (2 ^ v) x l y in within f (λ w. omega (arith, f.upper w, bit-bit_or s (2 ^ v) w, digits w))

        into : Found g ask s (with (2 ^ u) v) x → T (union (found g ask s (2 ^ u)) (found g ask s (2 ^ v)) x)
        into f = by_bit x u
            (λ i.
            let clique : Plex g 1 x = rw one at f.listed.top.0 in
            let lacks : bit x v ≡ 0 = omega (arith, clique_near g h.valid x u f.listed.below clique i v, away, bit-pow_other u v apart) in
            or_left (found g ask s (2 ^ u) x) (found g ask s (2 ^ v) x) (found_test g ask s (2 ^ u) x (within f (λ w.
            omega (arith, f.upper w, digits w, bit-bit_or s (2 ^ u) w, single_out x v w lacks)))))
            (λ o.
            or_right (found g ask s (2 ^ u) x) (found g ask s (2 ^ v) x) (found_test g ask s (2 ^ v) x (within f (λ w.
            omega (arith, f.upper w, digits w, bit-bit_or s (2 ^ v) w, single_out x u w o)))))

    pub each_adds : {before between after : List ℕ} {count n o : ℕ} → AddsFound g ask s (2 ^ u) before count between n
        → AddsFound g ask s (2 ^ v) between n after o → AddsFound g ask s (with (2 ^ u) v) before count after o
    each_adds {before} {between} {after} {count} {n} {o} x y =
        adds_same (2 ^ length g) (union (found g ask s (2 ^ u)) (found g ask s (2 ^ v))) (found g ask s (with (2 ^ u) v)) before after count o each_split
        (adds_both (2 ^ length g) (found g ask s (2 ^ u)) (found g ask s (2 ^ v)) before between after count n o each_apart x y)

pub two_left : {c u d v e : ℕ} → Lowest c u → d ≡ without c u → Lowest d v → e ≡ without d v → e ≡ 0 → (c ≡ with (2 ^ u) v) × (u ≢ v)
two_left {c} {u} {d} {v} {e} i ed j ee z = (
  ext c (with (2 ^ u) v) same,
  λ y. omega (arith, second, bit-minus c (2 ^ u) v, bit_le c v, subst (λ (x : ℕ). bit (2 ^ u) x ≡ 1) y (bit-pow_same u)),
)
  where
    second : In v (without c u)
    second = rw ed at j.member

    same : (w : ℕ) → bit c w ≡ bit (with (2 ^ u) v) w
    same w =
        let rest : bit (without c u) w ≡ bit (2 ^ v) w = ap (λ (x : ℕ). bit x w) (sym ed ∙ one_left j ee z) in
        omega (arith, bit-minus c (2 ^ u) w, single_in c u w i.member, bit_with (2 ^ u) v w, bit_le c w)

-- the test whether the row r of u has v
pub row_has : {r w : ℕ} {b : Bool} (v : ℕ) → r ≡ w → b ≡ has r v → b ≡ true → In v w
row_has {r} v e t h = rw e at (has_in r v (true_holds (has r v) (sym t ∙ h)))

pub row-lacks : {r w : ℕ} {b : Bool} (v : ℕ) → r ≡ w → b ≡ has r v → b ≡ false → bit w v ≡ 0
row-lacks {r} v e t h = rw e at (by_bit r v (λ i. absurd (false_fails (has r v) (sym t ∙ h) (in_has r v i))) (λ o. o))
