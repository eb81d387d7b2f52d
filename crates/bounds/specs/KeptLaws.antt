-- Laws of what the bounds take of a list of neighbours: the rules of the definitions as equations, which of them holds, and what they depend on.
--
--   Rule g s sp b u   which rule of the second bound the neighbour u falls under
--   Costly g s b us   each of us costs more than b
use Rattle.std.specs.Prelude.{◌≡◌, ℕ, suc, ◌-◌, ◌^◌, ◌<◌, ◌≤◌, List, [], ◌∷◌, ◌++◌, length, slice_index}
use Rattle.std.proofs.Common.{arith, sym, ap, ◌∙◌, append-nil}
use Rattle.std.proofs.Math.Decide.{dec_lt, ℕ_discrete}
use Rattle.std.specs.Prelude.{refl}
use mathlib.Core.List.Memᴰ
use borrow.Author.Tests.{lt-ltb, le-ltb, eq-eqb, ne_eqb, lt-leb, le-leb}
use Rattle.sets.specs.RangeLaws.{Mem}
use Rattle.judging.specs.Graph.{missing}
use Rattle.bounds.specs.Bound.{packable, tightest, kept}
use Rattle.bounds.specs.TightestLaws.{Agree, tightest_apart, tightest-agree, spent-agree, spent}

-- ---- the second bound

pub data Rule (g : List ℕ) (s : ℕ) (sp : List ℕ) (b u : ℕ) : Type 0 where
  costly : b < missing g s u → Rule g s sp b u
  free : missing g s u ≡ 0 → Rule g s sp b u
  charged : 0 < missing g s u → missing g s u ≤ b → 0 < slice_index sp (tightest g s sp u) → Rule g s sp b u
  unsupported : 0 < missing g s u → missing g s u ≤ b → slice_index sp (tightest g s sp u) ≡ 0 → Rule g s sp b u

module _ (g : List ℕ) (s : ℕ) (sp : List ℕ) (b u : ℕ) where
  pub rule : Rule g s sp b u
  rule = go (dec_lt b (missing g s u)) (ℕ_discrete (missing g s u) 0) (dec_lt 0 (slice_index sp (tightest g s sp u)))
    where
      go : Dec (b < missing g s u) → Dec (missing g s u ≡ 0) → Dec (0 < slice_index sp (tightest g s sp u)) → Rule g s sp b u
      go (yes l) z q = costly l
      go (no nl) (yes z) q = free z
      go (no nl) (no nz) (yes q) = charged (omega arith) (omega arith) q
      go (no nl) (no nz) (no nq) = unsupported (omega arith) (omega arith) (omega arith)

  module _ (us : List ℕ) where
    pub kept_costly : b < missing g s u → kept g s sp b (u ∷ us) ≡ kept g s sp b us
    unfolding kept
    kept_costly h = simp (lt-ltb b (missing g s u) h)

    pub kept_free : missing g s u ≡ 0 → kept g s sp b (u ∷ us) ≡ suc (kept g s sp b us)
    unfolding kept
    kept_free e = simp (le-ltb b (missing g s u) (omega arith), eq-eqb (missing g s u) 0 e)

    pub kept_charged : 0 < missing g s u → missing g s u ≤ b → 0 < slice_index sp (tightest g s sp u)
        → kept g s sp b (u ∷ us) ≡ suc (kept g s (spent sp (tightest g s sp u)) (b - missing g s u) us)
    unfolding kept spent
    kept_charged p l q =
        simp (le-ltb b (missing g s u) l, ne_eqb (missing g s u) 0 (λ e. omega (arith, e)), lt-ltb 0 (slice_index sp (tightest g s sp u)) q)

    pub kept_unsupported : 0 < missing g s u → missing g s u ≤ b → slice_index sp (tightest g s sp u) ≡ 0 → kept g s sp b (u ∷ us) ≡ kept g s sp b us
    unfolding kept
    kept_unsupported p l q =
        simp (le-ltb b (missing g s u) l, ne_eqb (missing g s u) 0 (λ e. omega (arith, e)), le-ltb 0 (slice_index sp (tightest g s sp u)) (omega arith))

abbrev pub Costly : List ℕ → ℕ → ℕ → List ℕ → Type 0
Costly g s b us = (v : ℕ) → Mem v us → b < missing g s v

pub kept_costly_all : (g : List ℕ) (s : ℕ) (us rest sp : List ℕ) (b : ℕ) → Costly g s b us → kept g s sp b (us ++ rest) ≡ kept g s sp b rest
kept_costly_all g s [] rest sp b h = refl
kept_costly_all g s (u ∷ us) rest sp b h =
    kept_costly g s sp b u (us ++ rest) (h u (Memᴰ.head refl)) ∙ kept_costly_all g s us rest sp b (λ x m. h x (Memᴰ.tail m))

pub kept_none : (g : List ℕ) (s : ℕ) (us sp : List ℕ) (b : ℕ) → Costly g s b us → kept g s sp b us ≡ 0
unfolding kept
kept_none g s us sp b h = ap (kept g s sp b) (sym (append-nil us)) ∙ kept_costly_all g s us [] sp b h

-- what is kept depends on the supports of the members alone
pub kept_agree : {g : List ℕ} {s : ℕ} {sp tp : List ℕ} → s < 2 ^ length g → (us : List ℕ) (b : ℕ) → Agree g s sp tp → kept g s sp b us ≡ kept g s tp b us
unfolding kept
kept_agree low [] b a = refl
kept_agree {g} {s} {sp} {tp} low (u ∷ us) b a = go (λ sp tp b a. kept_agree {sp = sp} {tp = tp} low us b a) (rule g s sp b u)
  where
    support : 0 < missing g s u → slice_index tp (tightest g s tp u) ≡ slice_index sp (tightest g s sp u)
    support p =
        let y = tightest_apart low sp p in
        ap (λ (x : ℕ). slice_index tp x) (sym (tightest-agree a u)) ∙ sym (a.each (tightest g s sp u) y.below y.member)

    go : ((sp tp : List ℕ) (b : ℕ) → Agree g s sp tp → kept g s sp b us ≡ kept g s tp b us) → Rule g s sp b u → kept g s sp b (u ∷ us) ≡ kept g s tp b (u ∷ us)
    go ih (costly d) = kept_costly g s sp b u us d ∙ ih sp tp b a ∙ sym (kept_costly g s tp b u us d)
    go ih (free z) = kept_free g s sp b u us z ∙ ap suc (ih sp tp b a) ∙ sym (kept_free g s tp b u us z)
    go ih (charged p l q) =
        kept_charged g s sp b u us p l q
        ∙ ap suc (ih _ _ (b - missing g s u) (spent-agree a (tightest g s sp u)))
        ∙ ap (λ (x : ℕ). suc (kept g s (spent tp x) (b - missing g s u) us)) (tightest-agree a u)
        ∙ sym (kept_charged g s tp b u us p l (omega (arith, support p)))
    go ih (unsupported p l q) =
        kept_unsupported g s sp b u us p l q ∙ ih sp tp b a ∙ sym (kept_unsupported g s tp b u us p l (omega (arith, support p)))

-- ---- the first bound

pub pack_none : (g : List ℕ) (s : ℕ) (us : List ℕ) (b : ℕ) → Costly g s b us → packable g s b us ≡ 0
unfolding packable
pack_none g s [] b h = refl
pack_none g s (u ∷ us) b h = simp (lt-leb (missing g s u) b (h u (Memᴰ.head refl)))

pub pack_more : (g : List ℕ) (s u : ℕ) (us : List ℕ) (b : ℕ) → missing g s u ≤ b → packable g s b (u ∷ us) ≡ suc (packable g s (b - missing g s u) us)
unfolding packable
pack_more g s u us b h = simp (le-leb (missing g s u) b h)
