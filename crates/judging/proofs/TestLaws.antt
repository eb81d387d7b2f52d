-- Laws of the tests: what is told of a set for which the test of a k-plex, or of a maximal one, says yes, and from what it says so.
use Rattle.std.specs.Prelude.{ℕ, ◌^◌, ◌<◌, ◌≡◌, ◌⊎◌, Bool, true, false, not, ◌&&◌, ◌||◌, List, eqb, leb, length}
use Rattle.std.proofs.Common.{arith, subst, inl, inr, leb→le, le→leb, T_not}
use Rattle.std.proofs.Math.Dec.{T, eqb→eq, eqb_refl}
use Rattle.sets.specs.Ranges.{range, all}
use Rattle.sets.specs.Set.{Sub, subset}
use Rattle.sets.specs.RangeLaws.{mem_range, range_mem, all_elim, all_intro, and_left, and_right, both, or_cases, or_left, or_right}
use Rattle.sets.specs.RangeLaws.{test, test_same, is_true, is_false}
use Rattle.sets.specs.SubsetLaws.{sub_refl, subset-sub, sub-subset}
use Rattle.judging.specs.Graph.{Valid}
use Rattle.judging.specs.Plex.{plex, looseness, maximal, Plex, Maximal, extendable}
use Rattle.judging.specs.PlexLaws.{plex_holds, plex_test}
use Rattle.judging.specs.LoosenessLaws.{plex_loose, loose_plex}
use Rattle.judging.specs.ExtensionLaws.{extendable_none, unextendable_maximal}

-- ---- is a plex maximal?

-- t is no larger plex than s
others : List ℕ → ℕ → ℕ → ℕ → Bool
others g k s t = not (subset s t && plex g k t) || eqb t s

module _ (g : List ℕ) (k s : ℕ) where
  others_holds : (t : ℕ) → T (others g k s t) → Sub s t → Plex g k t → t ≡ s
  unfolding others
  others_holds t o h p = go (or_cases (not (subset s t && plex g k t)) (eqb t s) o)
    where
      go : T (not (subset s t && plex g k t)) ⊎ T (eqb t s) → t ≡ s
      go (inl q) = absurd (T_not (subset s t && plex g k t) q (both (subset s t) (plex g k t) (sub-subset s t h) (plex_test g k t p)))
      go (inr q) = eqb→eq t s q

  others_test : (t : ℕ) → (Sub s t → Plex g k t → t ≡ s) → T (others g k s t)
  unfolding others
  others_test t f = go (test (subset s t && plex g k t))
    where
      go : T (subset s t && plex g k t) ⊎ T (not (subset s t && plex g k t)) → T (others g k s t)
      go (inr q) = or_left (not (subset s t && plex g k t)) (eqb t s) q
      go (inl q) =
          let e = f (subset-sub s t (and_left (subset s t) (plex g k t) q)) (plex_holds g k t (and_right (subset s t) (plex g k t) q)) in
          or_right (not (subset s t && plex g k t)) (eqb t s) (subst (λ (x : ℕ). T (eqb t x)) e (eqb_refl t))

  pub maximal_holds : T (maximal g k s) → Maximal g k s
  unfolding maximal others
  maximal_holds t =
      let rest = all (others g k s) (range (2 ^ length g)) in
      let each = and_right (plex g k s) rest t in (
        plex_holds g k s (and_left (plex g k s) rest t),
        λ u l. others_holds u (all_elim (others g k s) (range (2 ^ length g)) u each (mem_range (2 ^ length g) u l)),
      )

  pub maximal_test : Maximal g k s → T (maximal g k s)
  unfolding maximal others
  maximal_test m =
      both (plex g k s) (all (others g k s) (range (2 ^ length g))) (plex_test g k s m.0)
      (all_intro (others g k s) (range (2 ^ length g)) (λ u l. others_test u (m.1 u (range_mem (2 ^ length g) u l))))

-- ---- by looseness

module _ (g : List ℕ) (k s : ℕ) where
  -- what is no plex is not maximal
  pub loose_maximal : k < looseness g s → false ≡ maximal g k s
  loose_maximal h = is_false (maximal g k s) (λ t. omega (arith, plex_loose g k s (maximal_holds g k s t).0))

pub plex-looseness : (g : List ℕ) (k s : ℕ) → plex g k s ≡ leb (looseness g s) k
plex-looseness g k s =
    test_same (plex g k s) (leb (looseness g s) k) (λ t. le→leb (looseness g s) k (plex_loose g k s (plex_holds g k s t)))
    (λ t. plex_test g k s (loose_plex g k s (leb→le (looseness g s) k t)))

-- ---- by what can be added

module _ (g : List ℕ) (k : ℕ) where
  -- the test of maximality, from the two tests of the code
  pub maximal_by_extension : (s : ℕ) → Valid g → s < 2 ^ length g → Plex g k s → not (extendable g k s) ≡ maximal g k s
  maximal_by_extension s ok b p = go (extendable g k s) (λ t. t) (λ t. t)
    where
      go : (w : Bool) → (T w → T (extendable g k s)) → (T (extendable g k s) → T w) → not w ≡ maximal g k s
      go true into back = is_false (maximal g k s) (λ t. extendable_none g k s s ok b (into tt) (sub_refl s) (maximal_holds g k s t))
      go false into back = is_true (maximal g k s) (maximal_test g k s (unextendable_maximal g k s ok p back))
