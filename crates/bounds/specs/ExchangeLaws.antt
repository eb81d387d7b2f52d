-- The rule of the second bound keeps at least as many neighbours as any choice that every member has the support for. By an exchange: where u is kept
-- and not chosen, an element of the choice makes room for u, one that charges the same member as u where there is such a one.
--
--   apart g w u            1 where u is not adjacent to w, else 0
--   Feasible g s sp b ds   the choice ds charges no member of s beyond its support, and its costs together are at most b
use Rattle.std.specs.Prelude.{◌≡◌, ℕ, ◌-◌, ◌^◌, ◌<◌, ◌≤◌, ◌⊎◌, List, [], ◌∷◌, length, slice_index, slice_index_or}
use Rattle.std.proofs.Common.{arith, ap, ◌∙◌, subst, inl, inr}
use Rattle.std.proofs.Math.Decide.{dec_lt}
use Rattle.std.specs.Prelude.{refl}
use Rattle.sets.specs.Ranges.{total}
use Rattle.sets.specs.Set.{bit, In}
use Rattle.sets.specs.Graph.{row}
use Rattle.sets.specs.RangeLaws.{Mem}
use Rattle.sets.specs.ListLaws.{Part, none, skip, take, part_trans, part_mem, Less, less}
use Rattle.sets.specs.SumLaws.{length-total, total_witness}
use Rattle.sets.specs.BitLaws.{bit_le}
use Rattle.sets.specs.PointLaws.{single_out, in_single, by_bit}
use Rattle.judging.specs.Graph.{missing}
use Rattle.bounds.specs.Bound.{tightest, kept}
use Rattle.bounds.specs.TightestLaws.{NonNeighbour, tightest_apart, spent, spent-length, spent_at}
use Rattle.bounds.specs.OrderedLaws.{ByCost}
use Rattle.bounds.specs.KeptLaws.{Rule, costly, free, charged, unsupported, rule, kept_costly, kept_free, kept_charged, kept_unsupported}

unfoldable pub apart : List ℕ → ℕ → ℕ → ℕ
apart g w u = 1 - bit (row g u) w

pub record Feasible (g : List ℕ) (s : ℕ) (sp : List ℕ) (b : ℕ) (ds : List ℕ) : Type 0 where
  pub each : (w : ℕ) → w < length g → In w s → total (apart g w) ds ≤ slice_index sp w
  pub costs : total (missing g s) ds ≤ b

-- ---- u is in the choice

module _ {g : List ℕ} {s : ℕ} {sp : List ℕ} {b u : ℕ} {es : List ℕ} (f : Feasible g s sp b (u ∷ es)) where
  taken_cost : missing g s u ≤ b
  unfolding total
  taken_cost = omega (arith, f.costs)

  taken_rest : Feasible g s sp b es
  unfolding total
  taken_rest = record { each = λ w l m. omega (arith, f.each w l m); costs = omega (arith, f.costs) }

  module _ {t : ℕ} (p : NonNeighbour g s t u) where
    taken_support : 0 < slice_index sp t
    unfolding total apart
    taken_support = omega (arith, f.each t p.below p.member, p.apart)

    -- what is left of the choice is feasible for what is left of the supports
    taken_feasible : length sp ≡ length g → Feasible g s (spent sp t) (b - missing g s u) es
    unfolding total apart
    taken_feasible e =
        record {
          each = λ w l m. omega (arith, f.each w l m, spent_at sp t w (omega arith), single_out (row g u) t w p.apart);
          costs = omega (arith, f.costs);
        }

-- ---- u is not in the choice: one of its elements makes room for u

module _ {g : List ℕ} {s : ℕ} {sp : List ℕ} {b u t : ℕ} {ds : List ℕ} (f : Feasible g s sp b ds) (p : NonNeighbour g s t u) (e : length sp ≡ length g)
    (costly : (v : ℕ) → Mem v ds → missing g s u ≤ missing g s v) where
  makes_room : {x : ℕ} (m : Mem x ds) → total (apart g t) (less m).rest ≤ slice_index sp t - 1
      → (x : ℕ) × (r : Less x ds) × Feasible g s (spent sp t) (b - missing g s u) r.rest
  makes_room {x} m k =
      let r = less m in
      let mine : total (apart g t) r.rest ≤ slice_index_or (spent sp t) t 0 = omega (arith, spent_at sp t t (omega (arith, p.below)), bit_le (2 ^ t) t) in (
        x,
        r,
        record {
          each = λ w l i.
              by_bit (2 ^ t) w
              (λ h. subst (λ (y : ℕ). total (apart g y) r.rest ≤ slice_index (spent sp t) y) (in_single t w h) mine)
              (λ h. omega (arith, f.each w l i, r.sums (apart g w), spent_at sp t w (omega arith)));
          costs = omega (arith, f.costs, r.sums (missing g s), costly x m);
        },
      )

  exchange : 0 < slice_index sp t → 0 < length ds → (x : ℕ) × (r : Less x ds) × Feasible g s (spent sp t) (b - missing g s u) r.rest
  exchange q h = go (dec_lt 0 (total (apart g t) ds))
    where
      go : Dec (0 < total (apart g t) ds) → (x : ℕ) × (r : Less x ds) × Feasible g s (spent sp t) (b - missing g s u) r.rest
      go (yes k) =
          let x = total_witness (apart g t) ds k in
          makes_room x.1 (omega (arith, f.each t p.below p.member, (less x.1).sums (apart g t), x.2))
      go (no nk) =
          let x = total_witness (λ u. 1) ds (omega (arith, length-total ds)) in
          makes_room x.1 (omega (arith, (less x.1).sums (apart g t)))

-- ---- no feasible choice is larger than what is kept

part_cases : {u : ℕ} {ds us : List ℕ} → Part ds (u ∷ us) → Part ds us ⊎ ((es : List ℕ) × (ds ≡ u ∷ es) × Part es us)
part_cases (skip p) = inl p
part_cases (take {ds = es} p) = inr (es, refl, p)

part_none : {ds : List ℕ} → Part ds [] → length ds ≡ 0
part_none none = refl

pub kept_sound : {g : List ℕ} {s : ℕ} → s < 2 ^ length g → (us : List ℕ) {sp : List ℕ} {b : ℕ} {ds : List ℕ} → length sp ≡ length g → ByCost g s us → Part ds us
    → Feasible g s sp b ds → length ds ≤ kept g s sp b us
kept_sound low [] e o p f = omega (arith, part_none p)
kept_sound {g} {s} low (u ∷ us) {sp} {b} {ds} e o p f =
    go (λ sp b ds e. kept_sound low us {sp = sp} {b = b} {ds = ds} e o.1) (rule g s sp b u) (part_cases p)
  where
    go : ((sp : List ℕ) (b : ℕ) (ds : List ℕ) → length sp ≡ length g → Part ds us → Feasible g s sp b ds → length ds ≤ kept g s sp b us) → Rule g s sp b u
        → Part ds us ⊎ ((es : List ℕ) × (ds ≡ u ∷ es) × Part es us) → length ds ≤ kept g s sp b (u ∷ us)
    go ih (costly d) (inl r) = omega (arith, kept_costly g s sp b u us d, ih sp b ds e r f)
    go ih (costly d) (inr r) = absurd (omega (arith, taken_cost (subst (Feasible g s sp b) r.1 f)))
    go ih (free z) (inl r) = omega (arith, kept_free g s sp b u us z, ih sp b ds e r f)
    go ih (free z) (inr r) =
        omega (arith, kept_free g s sp b u us z, ap length r.1, ih sp b r.0 e r.2 (taken_rest (subst (Feasible g s sp b) r.1 f)))
    go ih (charged c l q) (inl r) = swap (dec_lt 0 (length ds))
      where
        swap : Dec (0 < length ds) → length ds ≤ kept g s sp b (u ∷ us)
        swap (no n0) = omega arith
        swap (yes h) =
            let x = exchange f (tightest_apart low sp c) e (λ v m. o.0 v (part_mem v r m)) q h in
            let i = ih _ (b - missing g s u) x.1.rest (spent-length sp (tightest g s sp u) ∙ e) (part_trans x.1.part r) x.2 in
            omega (arith, kept_charged g s sp b u us c l q, x.1.len)
    go ih (charged c l q) (inr r) =
        let f' = taken_feasible (subst (Feasible g s sp b) r.1 f) (tightest_apart low sp c) e in
        let i = ih _ (b - missing g s u) r.0 (spent-length sp (tightest g s sp u) ∙ e) r.2 f' in
        omega (arith, kept_charged g s sp b u us c l q, ap length r.1)
    go ih (unsupported c l q) (inl r) = omega (arith, kept_unsupported g s sp b u us c l q, ih sp b ds e r f)
    go ih (unsupported c l q) (inr r) = absurd (omega (arith, taken_support (subst (Feasible g s sp b) r.1 f) (tightest_apart low sp c)))
