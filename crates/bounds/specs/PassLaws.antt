-- Laws of the passes. A pass takes no member of a dense set inside s, and takes one where s is not dense itself; so the passes from t on end at the core
-- within t. There is at least one, each but the last takes a vertex, and so they are at most one more than the vertices taken out.
--
--   HoldsDense g m t s   s is a part of t, and holds every dense set within t
use Rattle.std.specs.Prelude.{◌≡◌, ℕ, zero, suc, ◌+◌, ◌^◌, ◌<◌, ◌≤◌, Bool, true, false, cond, List, length, ◌==◌, ◌≢◌, nat_le}
use Rattle.std.proofs.Common.{le_refl, lt_of_not-le, eq-or-lt_of_le, add-one, subst, ◌∙◌, leb-true, leb-false, eqb-true, eq-eqb, ne_eqb}
use native.Mathlib.Omega.{arith}
use Rattle.std.proofs.Math.Path.{refl, sym, ap}
use Rattle.std.proofs.Math.Logic.{⊎_elim}
use borrow.Author.Count.{below_none, below_more}
use Rattle.std.proofs.lemmas.Bool.{eqb-false}
use Rattle.sets.specs.Set.{bit, In, Sub, size, without}
use Rattle.sets.specs.BitLaws.{ext, bit-minus}
use Rattle.sets.specs.PointLaws.{by_bit, single_out}
use Rattle.sets.specs.SizeLaws.{sub-size_eq}
use Rattle.sets.specs.SubsetLaws.{sub_refl, sub_trans, sub_antisym, sub_below, minus-sub, without_same}
use Rattle.judging.specs.Graph.{degree}
use Rattle.judging.specs.GraphLaws.{degree_mono}
use Rattle.bounds.specs.Core.{Dense, core_within, look, pass_to, pass, leave, passes_within, passes}
use Rattle.bounds.specs.CoreLaws.{core_within-dense, core_within_unique}

-- ---- a look at one vertex: it stays, or it goes

by_look : (P : ℕ → Type 0) (g : List ℕ) (m s v : ℕ) → (m ≤ degree g s v → P s) → (degree g s v < m → P (without s v)) → P (look g m s v)
unfolding look
by_look P g m s v stays goes = go (nat_le m (degree g s v)) refl
  where
    go : (b : Bool) → nat_le m (degree g s v) ≡ b → P (cond b s (without s v))
    go true e = stays (leb-true m (degree g s v) e)
    go false e = goes (leb-false m (degree g s v) e)

pub look_stays : (g : List ℕ) (m s v : ℕ) → m ≤ degree g s v → look g m s v ≡ s
look_stays g m s v many = by_look (λ (x : ℕ). x ≡ s) g m s v (λ h. refl) (λ few. absurd (omega arith))

pub look_goes : (g : List ℕ) (m s v : ℕ) → degree g s v < m → look g m s v ≡ without s v
look_goes g m s v few = by_look (λ (x : ℕ). x ≡ without s v) g m s v (λ many. absurd (omega arith)) (λ h. refl)

-- a look at what is no member changes nothing
pub look_none : (g : List ℕ) (m s v : ℕ) → bit s v ≡ 0 → look g m s v ≡ s
look_none g m s v out =
    by_look (λ (x : ℕ). x ≡ s) g m s v (λ h. refl) (λ h. ext (without s v) s (λ u. omega (arith, bit-minus s (2 ^ v) u, single_out s v u out)))

look-sub : (g : List ℕ) (m s v : ℕ) → Sub (look g m s v) s
look-sub g m s v = by_look (λ (x : ℕ). Sub x s) g m s v (λ h. sub_refl s) (λ h. minus-sub s (2 ^ v))

-- ---- one pass

module _ (g : List ℕ) (m s : ℕ) where
  pass_to-sub : (v : ℕ) → Sub (pass_to g m s v) s
  unfolding pass_to
  pass_to-sub zero = sub_refl s
  pass_to-sub (suc v) = sub_trans _ (pass_to g m s v) s (look-sub g m (pass_to g m s v) v) (pass_to-sub v)

  pub pass_to_next : {kept r : ℕ} (v : ℕ) → kept ≡ pass_to g m s v → look g m kept v ≡ r → r ≡ pass_to g m s (v + 1)
  unfolding pass_to
  pass_to_next v e q = sym q ∙ ap (λ (x : ℕ). look g m x v) e ∙ ap (pass_to g m s) (sym (add-one v))

  -- looks that change nothing, from c on
  pub pass_to_same : {kept : ℕ} (c v : ℕ) → c ≤ v → kept ≡ pass_to g m s c → ((u : ℕ) → c ≤ u → u < v → look g m kept u ≡ kept) → kept ≡ pass_to g m s v
  unfolding pass_to
  pass_to_same c zero l e h =
      let here : c ≡ 0 = omega arith in
      e ∙ ap (pass_to g m s) here
  pass_to_same c (suc v) l e h =
      ⊎_elim
      (λ here. e ∙ ap (pass_to g m s) here)
      (λ before.
      let to = pass_to_same c v (omega arith) e (λ u b t. h u b (omega arith)) in
      sym (h v (omega arith) (omega arith)) ∙ ap (λ (x : ℕ). look g m x v) to)
      (eq-or-lt_of_le l)

  -- what is in a dense set stays
  pass_to_keeps : (t : ℕ) → Dense g m t → Sub t s → (v : ℕ) → v ≤ length g → Sub t (pass_to g m s v)
  unfolding pass_to
  pass_to_keeps t d h zero l = h
  pass_to_keeps t d h (suc v) l =
      let r = pass_to g m s v in
      let before : Sub t r = pass_to_keeps t d h v (omega arith) in
      by_look (Sub t) g m r v (λ many. before) (λ few u.
      let out = by_bit t v (λ i. absurd (omega (arith, d v l i, degree_mono g t r v before))) (λ o. o) in
      omega (arith, before u, bit-minus r (2 ^ v) u, single_out t v u out))

  pub pass-sub : Sub (pass g m s) s
  unfolding pass
  pass-sub = pass_to-sub (length g)

  pub pass_keeps : (t : ℕ) → Dense g m t → Sub t s → Sub t (pass g m s)
  unfolding pass
  pass_keeps t d h = pass_to_keeps t d h (length g) (le_refl (length g))

  -- a look that changes nothing shows that v has enough neighbours
  look_same : (r v : ℕ) → look g m r v ≡ s → Sub r s → (In v s → m ≤ degree g s v) × (r ≡ s)
  look_same r v e h =
      let same : r ≡ s = sub_antisym r s h (rw (sym e) (look-sub g m r v)) in (
        λ i. by_look (λ (x : ℕ). x ≡ s → m ≤ degree g s v) g m r v (λ many q. omega (arith, ap (λ (x : ℕ). degree g x v) same))
            (λ few q. absurd (omega (arith, without_same r v, ap (λ (x : ℕ). bit x v) q, i))) e,
        same,
      )

  pass_to_still : (v : ℕ) → pass_to g m s v ≡ s → (u : ℕ) → u < v → In u s → m ≤ degree g s u
  unfolding pass_to
  pass_to_still zero e u l = below_none (λ w. In w s → m ≤ degree g s w) u l
  pass_to_still (suc v) e u l =
      let at = look_same (pass_to g m s v) v e (pass_to-sub v) in
      below_more (λ w. In w s → m ≤ degree g s w) v (pass_to_still v at.1) at.0 u (omega arith)

  -- so a pass that takes none shows that s is dense
  pub pass_still : pass g m s ≡ s → Dense g m s
  unfolding pass
  pass_still e = pass_to_still (length g) e

  -- and none is taken of a dense set
  pub dense_still : Dense g m s → pass g m s ≡ s
  dense_still d = sub_antisym (pass g m s) s pass-sub (pass_keeps s d (sub_refl s))

  no_member_still : size s ≤ 0 → pass g m s ≡ s
  no_member_still l = sub-size_eq (pass g m s) s pass-sub (omega arith)

  -- a pass that takes some leaves fewer
  pub pass_falls : (pass g m s ≢ s) → size (pass g m s) < size s
  pass_falls ne = lt_of_not-le (λ l. ne (sub-size_eq (pass g m s) s pass-sub l))

-- ---- how many passes

by_pass : (P : ℕ → Type 0) (g : List ℕ) (m s : ℕ) → (pass g m s ≡ s → P s) → ((pass g m s ≢ s) → P s) → P s
by_pass P g m s none some = go (pass g m s == s) refl
  where
    go : (b : Bool) → (pass g m s == s) ≡ b → P s
    go true e = none (eqb-true (pass g m s) s e)
    go false e = some (eqb-false (pass g m s) s e)

-- by the passes from s on: what holds where a pass takes none, and holds of s where it holds of what a pass leaves, holds of every set
module _ (P : ℕ → Type 0) (g : List ℕ) (m : ℕ) (none : (s : ℕ) → pass g m s ≡ s → P s)
    (more : (s : ℕ) → (pass g m s ≢ s) → P (pass g m s) → P s) where
  by_passes_within : (n s : ℕ) → size s ≤ n → P s
  by_passes_within zero s l = none s (no_member_still g m s l)
  by_passes_within (suc n) s l = by_pass P g m s (none s) (λ ne. more s ne (by_passes_within n (pass g m s) (omega (arith, pass_falls g m s ne))))

  by_passes : (s : ℕ) → P s
  by_passes s = by_passes_within (size s) s (le_refl (size s))

module _ (g : List ℕ) (m : ℕ) where
  within_none : (n s : ℕ) → pass g m s ≡ s → passes_within n g m s ≡ 1
  unfolding passes_within
  within_none zero s e = refl
  within_none (suc n) s e = ap (λ (b : Bool). cond b 1 (suc (passes_within n g m (pass g m s)))) (eq-eqb (pass g m s) s e)

  within_more : (n s : ℕ) → (pass g m s ≢ s) → passes_within (suc n) g m s ≡ suc (passes_within n g m (pass g m s))
  unfolding passes_within
  within_more n s ne = ap (λ (b : Bool). cond b 1 (suc (passes_within n g m (pass g m s)))) (ne_eqb (pass g m s) s ne)

  -- any limit that is not below the size of s gives the same number
  within_same : (n k s : ℕ) → size s ≤ n → size s ≤ k → passes_within n g m s ≡ passes_within k g m s
  within_same zero k s l b =
      let e = no_member_still g m s l in
      within_none zero s e ∙ sym (within_none k s e)
  within_same (suc n) zero s l b =
      let e = no_member_still g m s b in
      within_none (suc n) s e ∙ sym (within_none zero s e)
  within_same (suc n) (suc k) s l b =
      by_pass (λ t. passes_within (suc n) g m t ≡ passes_within (suc k) g m t) g m s (λ e. within_none (suc n) s e ∙ sym (within_none (suc k) s e)) (λ ne.
      let fewer = pass_falls g m s ne in
      within_more n s ne ∙ ap suc (within_same n k (pass g m s) (omega arith) (omega arith)) ∙ sym (within_more k s ne))

  -- a pass that takes none is the last
  pub passes_last : (s : ℕ) → pass g m s ≡ s → passes g m s ≡ 1
  unfolding passes
  passes_last s e = within_none (size s) s e

  -- and one that takes some is followed by those from what it leaves
  pub passes_more : (s : ℕ) → (pass g m s ≢ s) → passes g m s ≡ suc (passes g m (pass g m s))
  unfolding passes
  passes_more s ne = go (size s) (le_refl (size s))
    where
      fewer : size (pass g m s) < size s
      fewer = pass_falls g m s ne

      go : (n : ℕ) → size s ≤ n → passes_within (size s) g m s ≡ suc (passes_within (size (pass g m s)) g m (pass g m s))
      go zero l = absurd (omega (arith, fewer))
      go (suc n) l =
          within_same (size s) (suc n) s (le_refl (size s)) l ∙ within_more n s ne
          ∙ ap suc (within_same n (size (pass g m s)) (pass g m s) (omega (arith, fewer)) (le_refl (size (pass g m s))))

  pub passes_some : (s : ℕ) → 1 ≤ passes g m s
  passes_some = by_passes (λ s. 1 ≤ passes g m s) g m (λ s e. omega (arith, passes_last s e)) (λ s ne h. omega (arith, passes_more s ne))

  -- there is one pass only where it takes none
  pub one_pass_still : (s : ℕ) → passes g m s ≡ 1 → pass g m s ≡ s
  one_pass_still s one =
      by_pass (λ t. pass g m t ≡ t) g m s (λ e. e) (λ ne. absurd (omega (arith, passes_more s ne, passes_some (pass g m s))))

  -- the last pass takes none
  pub last_takes_none : (s i : ℕ) → passes g m s ≡ suc i → pass g m (leave i g m s) ≡ leave i g m s
  unfolding leave
  last_takes_none = by_passes Last g m alone after
    where
      Last : ℕ → Type 0
      Last s = (i : ℕ) → passes g m s ≡ suc i → pass g m (leave i g m s) ≡ leave i g m s

      alone : (s : ℕ) → pass g m s ≡ s → Last s
      alone s e zero q = e
      alone s e (suc i) q = absurd (omega (arith, passes_last s e))

      after : (s : ℕ) → (pass g m s ≢ s) → Last (pass g m s) → Last s
      after s ne h zero q = absurd (omega (arith, passes_more s ne, passes_some (pass g m s)))
      after s ne h (suc i) q = h i (omega (arith, passes_more s ne))

  -- and each before it takes some
  pub others_take_some : (s i : ℕ) → suc i < passes g m s → pass g m (leave i g m s) ≢ leave i g m s
  unfolding leave
  others_take_some = by_passes Others g m (λ s e i l. absurd (omega (arith, passes_last s e))) after
    where
      Others : ℕ → Type 0
      Others s = (i : ℕ) → suc i < passes g m s → pass g m (leave i g m s) ≢ leave i g m s

      after : (s : ℕ) → (pass g m s ≢ s) → Others (pass g m s) → Others s
      after s ne h zero l = ne
      after s ne h (suc i) l = h i (omega (arith, passes_more s ne))

  -- the passes are at most one more than the vertices that they take out
  pub passes_most : (s : ℕ) → passes g m s + size (leave (passes g m s) g m s) ≤ suc (size s)
  unfolding leave
  passes_most =
      by_passes (λ s. passes g m s + size (leave (passes g m s) g m s) ≤ suc (size s)) g m
      (λ s e. rw (passes_last s e) (omega (arith, ap size e)))
      (λ s ne more. rw (passes_more s ne) (omega (arith, more, pass_falls g m s ne)))

-- ---- from t on: the core within t

pub record HoldsDense (g : List ℕ) (m t s : ℕ) : Type 0 where
  pub below : s < 2 ^ length g
  pub part : Sub s t
  pub holds : (u : ℕ) → u < 2 ^ length g → Sub u t → Dense g m u → Sub u s

pub holds_dense_none : {g : List ℕ} {m t : ℕ} → t < 2 ^ length g → HoldsDense g m t t
holds_dense_none {g} {m} {t} b = record { below = b; part = sub_refl t; holds = λ u l h d. h }

module _ {g : List ℕ} {m t s : ℕ} (h : HoldsDense g m t s) where
  pub holds_dense_next : HoldsDense g m t (pass g m s)
  holds_dense_next =
      record {
        below = sub_below (length g) (pass g m s) s (pass-sub g m s) h.below;
        part = sub_trans (pass g m s) s t (pass-sub g m s) h.part;
        holds = λ u b l d. pass_keeps g m s u d (h.holds u b l d);
      }

  pub holds_dense_all : pass g m s ≡ s → s ≡ core_within g m t
  holds_dense_all e = core_within_unique g m t s h.below h.part (pass_still g m s e) h.holds

-- going in passes gives the core within t
holds_dense-leave : (g : List ℕ) (m t s : ℕ) → HoldsDense g m t s → leave (passes g m s) g m s ≡ core_within g m t
unfolding leave
holds_dense-leave g m t =
    by_passes (λ s. HoldsDense g m t s → leave (passes g m s) g m s ≡ core_within g m t) g m
    (λ s e h. rw (passes_last g m s e) (e ∙ holds_dense_all h e))
    (λ s ne more h. rw (passes_more g m s ne) (more (holds_dense_next h)))

module _ (g : List ℕ) (m t : ℕ) (b : t < 2 ^ length g) where
  pub passes-leave : leave (passes g m t) g m t ≡ core_within g m t
  passes-leave = holds_dense-leave g m t t (holds_dense_none b)

  -- so there is one pass exactly where all of t is in it
  pub one_pass-core : passes g m t ≡ 1 → core_within g m t ≡ t
  one_pass-core one = sym (holds_dense_all (holds_dense_none b) (one_pass_still g m t one))

pub core_one_pass : (g : List ℕ) (m t : ℕ) → core_within g m t ≡ t → passes g m t ≡ 1
core_one_pass g m t e = passes_last g m t (dense_still g m t (subst (Dense g m) e (core_within-dense g m t)))
