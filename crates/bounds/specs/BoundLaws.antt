-- The second bound never exceeds the first: no more is kept of the ordered neighbours than is packed. One that is packed and not kept costs the first
-- bound no more than any later one would, so that it packs at most one fewer of those.
use Rattle.std.specs.Prelude.{◌≡◌, ℕ, suc, ◌-◌, ◌<◌, ◌≤◌, ◌⊎◌, List, [], ◌∷◌, map, length}
use Prim.Native.Nat.{zero-le}
use native.Mathlib.Omega.{arith}
use Rattle.std.proofs.Math.Decide.{dec_le}
use Rattle.std.specs.Prelude.{refl}
use Rattle.std.proofs.Math.Path.{ap}
use Rattle.std.proofs.Common.{inl, inr}
use mathlib.Core.List.Memᴰ
use Rattle.sets.specs.Ranges.{range}
use Rattle.sets.specs.RangeLaws.{Mem}
use Rattle.judging.specs.Graph.{missing}
use Rattle.bounds.specs.Bound.{support, ordered, supports, packable, first_bound, tightest, kept, second_bound}
use Rattle.bounds.specs.TightestLaws.{spent}
use Rattle.bounds.specs.OrderedLaws.{ByCost, ordered_by_cost}
use Rattle.bounds.specs.KeptLaws.{Rule, costly, free, charged, unsupported, rule, kept_costly, kept_free, kept_charged, kept_unsupported}
use Rattle.bounds.specs.KeptLaws.{kept_none, pack_none, pack_more}

module _ (g : List ℕ) (s : ℕ) where
  -- a budget less by no more than each cost loses one neighbour at the most
  pack_less : (us : List ℕ) (b d : ℕ) → ByCost g s us → ((v : ℕ) → Mem v us → d ≤ missing g s v) → d ≤ b
      → packable g s b us ≤ suc (packable g s (b - d) us)
  unfolding packable
  pack_less [] b d o h l = zero-le
  pack_less (u ∷ us) b d o h l = go (pack_less us) (dec_le (missing g s u) (b - d)) (dec_le (missing g s u) b)
    where
      later : (v : ℕ) → Mem v us → d ≤ missing g s v
      later v m = h v (Memᴰ.tail m)

      go : ((b d : ℕ) → ByCost g s us → ((v : ℕ) → Mem v us → d ≤ missing g s v) → d ≤ b → packable g s b us ≤ suc (packable g s (b - d) us))
          → Dec (missing g s u ≤ b - d) → Dec (missing g s u ≤ b) → packable g s b (u ∷ us) ≤ suc (packable g s (b - d) (u ∷ us))
      go ih (yes p) q =
          let i = ih (b - missing g s u) d o.1 later (omega arith) in
          let e : b - d - missing g s u ≡ b - missing g s u - d = omega arith in
          omega (arith, pack_more g s u us b (omega arith), pack_more g s u us (b - d) p, ap (λ (x : ℕ). packable g s x us) e)
      go ih (no np) (no nq) =
          omega (arith, pack_none g s (u ∷ us) b (λ v m. first_costly v (Memᴰ.cases_cons m)))
        where
          first_costly : (v : ℕ) → (v ≡ u) ⊎ Mem v us → b < missing g s v
          first_costly v (inl e) = omega (arith, ap (missing g s) e)
          first_costly v (inr m) = omega (arith, o.0 v m)
      go ih (no np) (yes q) =
          let z = pack_none g s us (b - missing g s u) (λ v m. omega (arith, later v m, o.0 v m, h u (Memᴰ.head refl))) in
          omega (arith, pack_more g s u us b q)

  kept_pack : (us sp : List ℕ) (b : ℕ) → ByCost g s us → kept g s sp b us ≤ packable g s b us
  unfolding kept packable
  kept_pack [] sp b o = zero-le
  kept_pack (u ∷ us) sp b o = go (λ sp b. kept_pack us sp b o.1) (rule g s sp b u)
    where
      go : ((sp : List ℕ) (b : ℕ) → kept g s sp b us ≤ packable g s b us) → Rule g s sp b u → kept g s sp b (u ∷ us) ≤ packable g s b (u ∷ us)
      go ih (costly d) = omega (arith, kept_costly g s sp b u us d, kept_none g s us sp b (λ v m. omega (arith, o.0 v m)))
      go ih (free z) =
          let e : b - missing g s u ≡ b = omega arith in
          omega (arith, kept_free g s sp b u us z, pack_more g s u us b (omega arith), ih sp b, ap (λ (x : ℕ). packable g s x us) e)
      go ih (charged p l q) = omega (arith, kept_charged g s sp b u us p l q, pack_more g s u us b l, ih (spent sp (tightest g s sp u)) (b - missing g s u))
      go ih (unsupported p l q) =
          let fewer = pack_less us b (missing g s u) o.1 o.0 l in
          omega (arith, kept_unsupported g s sp b u us p l q, pack_more g s u us b l, ih sp b)

pub second_first : (g : List ℕ) (k s c v : ℕ) → second_bound g k s c v ≤ first_bound g k s c v
unfolding second_bound first_bound
second_first g k s c v =
    omega (arith, kept_pack g s (ordered g k s c v) (map (support g k s) (range (length g))) (supports g k s) (ordered_by_cost g k s c v))
