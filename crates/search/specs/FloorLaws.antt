-- Laws of the floor at slack 1: too few candidates are cut, and where every clique to be found meets the floor it is as if there were none.
use Rattle.std.specs.Prelude.{◌≡◌, ℕ, ◌+◌, ◌-◌, ◌^◌, ◌<◌, ◌≤◌, ◌≢◌, List, length}
use Rattle.std.proofs.Common.{arith, sym, ap, subst, ◌∙◌, pow_pos}
use Rattle.std.proofs.Math.Decide.{ℕ_discrete}
use Rattle.std.specs.Prelude.{refl}
use Rattle.std.specs.Int.Bits.{bit_and}
use Rattle.std.proofs.lemmas.Nat.{ones-le}
use Rattle.sets.specs.Set.{bit, In, size, with, without, minus}
use Rattle.sets.specs.Graph.{row}
use Rattle.sets.specs.Words.{Lowest}
use Rattle.sets.specs.BitLaws.{bit_le, bit-bit_and, bit-minus, bit-pow_other}
use Rattle.sets.specs.PointLaws.{in_single}
use Rattle.sets.specs.RangeLaws.{test_same}
use Rattle.sets.specs.SubsetLaws.{with_sub, positive_of}
use Rattle.sets.specs.SizeLaws.{size_mono, size-minus, size_without, positive_size, some_member}
use Rattle.judging.specs.Request.{Request, request, recorded}
use Rattle.lists.specs.PlacingLaws.{adds_none, adds_same}
use Rattle.search.specs.Found.{found, Found, AddsFound}
use Rattle.search.specs.FoundLaws.{found_holds, found_test, cut_none}
use Rattle.search.specs.RecordedLaws.{recorded_with, recorded_or, recorded_single, recorded_mono}
use Rattle.search.specs.Cliques.{Taking, needing, Enough}
use Rattle.search.specs.CliqueLaws.{common_out, cover_all}
use Rattle.search.specs.TakeLaws.{Joined, take_pickable, take_near, cover_hits}
use Rattle.search.specs.EndLaws.{pair_near, both_taking, both_adds}

-- ---- where what is found for each of two requests meets the floor of the other, both find the same

module _ {g : List ℕ} (a b : Request) {s c : ℕ} (same : a.slack ≡ b.slack) (there : (x : ℕ) → Found g a s c x → b.floor ≤ size (recorded b x))
    (here : (x : ℕ) → Found g b s c x → a.floor ≤ size (recorded a x)) where
  floor_same : (x : ℕ) → x < 2 ^ length g → found g a s c x ≡ found g b s c x
  floor_same x l =
      test_same (found g a s c x) (found g b s c x)
      (λ y. let f = found_holds g a s c x l y in found_test g b s c x (record {
        lower = f.lower;
        upper = f.upper;
        listed = record { below = l; large = there x f; top = rw same at f.listed.top };
      }))
      (λ y. let f = found_holds g b s c x l y in found_test g a s c x (record {
        lower = f.lower;
        upper = f.upper;
        listed = record { below = l; large = here x f; top = rw same f.listed.top };
      }))

  floor_adds : {before after : List ℕ} {count o : ℕ} → AddsFound g a s c before count after o → AddsFound g b s c before count after o
  floor_adds x = adds_same (2 ^ length g) (found g a s c) (found g b s c) _ _ _ _ floor_same x

-- ---- enough with any candidate, or without one where there is none

module _ {g : List ℕ} {s c m : ℕ} (h : Taking g s c m) (q z : ℕ) (many : q ≤ size (minus s z) + size (minus c z))
    (any : (v : ℕ) → In v c → q + bit z v ≤ size (minus s z) + 1) where
  enough_large : (x : ℕ) → Found g (request 1 0 0) s c x → q ≤ size (minus x z)
  enough_large x f = go (ℕ_discrete c 0)
    where
      go : Dec (c ≡ 0) → q ≤ size (minus x z)
      go (yes e) =
          omega (arith, many, recorded_mono z s x f.lower, size_mono (minus c z) 0 (λ u. rw e (omega (arith, bit-minus 0 z u))), ones-le 0 0 (pow_pos 0))
      go (no n) =
          let hits = cover_hits h (cover_all (take_pickable h (positive_of c n))) refl (request 1 0 0) refl x f in
          let w = some_member (bit_and x c) (positive_size (bit_and x c) hits) in
          let held : In w.0 x = omega (arith, w.1, bit-bit_and x c w.0, bit_le x w.0) in
          let candidate : In w.0 c = omega (arith, w.1, bit-bit_and x c w.0, bit_le c w.0) in
          omega (
            arith,
            any w.0 candidate,
            recorded_mono z (with s w.0) x (with_sub s w.0 x f.lower held),
            recorded_with (request 1 q z) s w.0 (common_out h.valid h.common w.0 (take_near h w.0 candidate)),
          )

  pub enough_adds : {before after : List ℕ} {count o : ℕ} → AddsFound g (request 1 0 0) s c before count after o
      → AddsFound g (request 1 q z) s c before count after o
  enough_adds x = floor_adds (request 1 0 0) (request 1 q z) refl enough_large (λ y f. omega arith) x

-- ---- too few with all candidates

module _ (g : List ℕ) (q z s c : ℕ) where
  few_none : size (minus s z) + size (minus c z) < q → (slots : List ℕ) (count : ℕ) → AddsFound g (request 1 q z) s c slots count slots count
  few_none l slots count =
      adds_none (2 ^ length g) (found g (request 1 q z) s c) slots count (cut_none g (request 1 q z) s c (λ x f.
      omega (arith, l, f.listed.large, recorded_or (request 1 q z) s c x f.upper)))

-- ---- n members that are not silent are needed beside s

module _ {g : List ℕ} {s c m : ℕ} (h : Taking g s c m) (z n : ℕ) where
  -- the candidates are too few
  pub need_few : size (minus c z) < n → (slots : List ℕ) (count : ℕ) → AddsFound g (needing z n s) s c slots count slots count
  need_few l = few_none g (n + size (minus s z)) z s c (omega (arith, l))

  -- any of them is enough
  pub need_enough : n ≤ size (minus c z) → Enough z n c → {before after : List ℕ} {count o : ℕ} → AddsFound g (request 1 0 0) s c before count after o
      → AddsFound g (needing z n s) s c before count after o
  need_enough l e x = enough_adds h (n + size (minus s z)) z (omega (arith, l)) (λ v i. omega (arith, e v i)) x

-- ---- the vertex v alone, or u and v, for the floor q

module _ {g : List ℕ} {s m : ℕ} (v : ℕ) (h : Taking g s (2 ^ v) m) (q z : ℕ) where
  pub one_few : size (minus s z) + (1 - bit z v) < q → (slots : List ℕ) (count : ℕ) → AddsFound g (request 1 q z) s (2 ^ v) slots count slots count
  one_few l = few_none g q z s (2 ^ v) (omega (arith, l, recorded_single z v))

  pub one_enough : q ≤ size (minus s z) + (1 - bit z v) → {before after : List ℕ} {count o : ℕ} → AddsFound g (request 1 0 0) s (2 ^ v) before count after o
      → AddsFound g (request 1 q z) s (2 ^ v) before count after o
  one_enough l =
      enough_adds h q z (omega (arith, l, recorded_single z v)) (λ w i.
      subst (λ (y : ℕ). q + bit z y ≤ size (minus s z) + 1) (in_single v w i) (omega (arith, l, bit_le z v)))

-- of u and v, which are adjacent, both are taken
module _ {g : List ℕ} {s m u v j w : ℕ} (apart : u ≢ v) (h : Taking g s (with (2 ^ u) v) m) (near : In v (row g u)) (d : Joined g s m u j w) (q z : ℕ)
    (l : q ≤ size (minus s z) + size (minus (with (2 ^ u) v) z)) where
  both_had : q ≤ size (minus j z) + (1 - bit z v)
  both_had =
      omega (
        arith,
        l,
        ap (λ (a : ℕ). size (minus a z)) d.clique,
        recorded_with (request 1 q z) s u (common_out h.valid h.common u (pair_near apart h)),
        recorded_with (request 1 q z) (2 ^ u) v (bit-pow_other u v apart),
        recorded_single z u,
      )

  pub both_enough : {before after : List ℕ} {count o : ℕ} → AddsFound g (request 1 0 0) j (2 ^ v) before count after o
      → AddsFound g (request 1 q z) s (with (2 ^ u) v) before count after o
  both_enough x = both_adds apart h near d (request 1 q z) refl (one_enough v (both_taking apart h near d) q z both_had x)

-- at the start
pub start_lacking : {g : List ℕ} {s c m n : ℕ} → Taking g s c m → (q z : ℕ) → n ≡ q - size (minus s z) → {before after : List ℕ} {count o : ℕ}
    → AddsFound g (needing z n s) s c before count after o → AddsFound g (request 1 q z) s c before count after o
start_lacking {s = s} {n = n} h q z e x =
    floor_adds (needing z n s) (request 1 q z) refl (λ y f. omega (arith, f.listed.large, e))
    (λ y f. omega (arith, f.listed.large, e, recorded_mono z s y f.lower)) x

-- ---- at least two candidates

pub two_candidates : (c z n : ℕ) → n ≤ size (minus c z) → 2 ≤ n + size (bit_and c z) → 2 ≤ size c
two_candidates c z n left wanting = omega (arith, left, wanting, size-minus c z)

module _ {c : ℕ} (two : 2 ≤ size c) where
  pub some_candidate : 0 < c
  some_candidate = positive_of c (λ e. omega (arith, two, ap size e, ones-le 0 0 (pow_pos 0)))

  pub second_candidate : {u d : ℕ} → Lowest c u → d ≡ without c u → 0 < d
  second_candidate {u} {d} i e =
      positive_of d (λ y. omega (arith, two, size_without c u i.member, ap size (sym e ∙ y), ones-le 0 0 (pow_pos 0)))

-- a second one is left
pub two_more : {c u d : ℕ} → Lowest c u → d ≡ without c u → 0 < d → 2 ≤ size c
two_more {c} {u} {d} i e l = omega (arith, size_without c u i.member, ap size e, positive_size d l)
