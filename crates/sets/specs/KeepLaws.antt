-- Laws of the elements of a list that pass a test: where two tests agree, a test after another, sums over those that pass, and the order of those of a range.
--
--   Rising b xs   the first element is at least b, and each later one is above those before it
use Rattle.std.specs.Prelude.{ℕ, zero, suc, ◌+◌, ◌≤◌, ◌≡◌, refl, Bool, true, false, ◌&&◌, ◌||◌, cond, List, [], ◌∷◌, T, length}
use Rattle.std.proofs.Common.{le_refl, le_trans, arith, ap, ap₂, ◌∙◌}
use mathlib.Core.List.Memᴰ
use Rattle.sets.specs.Ranges.{from, keep, total}
use Rattle.sets.specs.RangeLaws.{Mem, is_true, is_false}
use Rattle.sets.specs.SumLaws.{where_so, total_ext, total-add, total-keep}

-- ---- the elements that pass

pub keep_ext : (p q : ℕ → Bool) (xs : List ℕ) → ((v : ℕ) → Mem v xs → p v ≡ q v) → keep p xs ≡ keep q xs
unfolding keep
keep_ext p q [] e = refl
keep_ext p q (x ∷ xs) e =
    ap₂ (λ (b : Bool) (r : List ℕ). cond b (x ∷ r) r) (e x (Memᴰ.head refl)) (keep_ext p q xs (λ v m. e v (Memᴰ.tail m)))

-- an element that passes, and one that does not
pub keep_in : (p : ℕ → Bool) (x : ℕ) (xs : List ℕ) → T (p x) → keep p (x ∷ xs) ≡ x ∷ keep p xs
unfolding keep
keep_in p x xs t = rw (← is_true (p x) t)

pub keep_out : (p : ℕ → Bool) (x : ℕ) (xs : List ℕ) → (T (p x) → ⊥) → keep p (x ∷ xs) ≡ keep p xs
unfolding keep
keep_out p x xs f = rw (← is_false (p x) f)

pub keep-keep : (p q : ℕ → Bool) (xs : List ℕ) → keep q (keep p xs) ≡ keep (λ u. p u && q u) xs
unfolding keep
keep-keep p q [] = refl
keep-keep p q (x ∷ xs) = go (p x) (keep-keep p q xs)
  where
    go : (b : Bool) → keep q (keep p xs) ≡ keep (λ u. p u && q u) xs
        → keep q (cond b (x ∷ keep p xs) (keep p xs)) ≡ cond (b && q x) (x ∷ keep (λ u. p u && q u) xs) (keep (λ u. p u && q u) xs)
    go true e = ap (λ (r : List ℕ). cond (q x) (x ∷ r) r) e
    go false e = e

-- nothing passes
pub keep_none : (p : ℕ → Bool) (xs : List ℕ) → ((v : ℕ) → Mem v xs → T (p v) → ⊥) → keep p xs ≡ []
unfolding keep
keep_none p [] e = refl
keep_none p (x ∷ xs) e = keep_out p x xs (e x (Memᴰ.head refl)) ∙ keep_none p xs (λ v m. e v (Memᴰ.tail m))

pub keep-length : (p : ℕ → Bool) (xs : List ℕ) → length (keep p xs) ≤ length xs
unfolding keep
keep-length p [] = le_refl 0
keep-length p (x ∷ xs) = go (p x) (keep-length p xs)
  where
    go : (b : Bool) → length (keep p xs) ≤ length xs → length (cond b (x ∷ keep p xs) (keep p xs)) ≤ suc (length xs)
    go true l = omega arith
    go false l = omega arith

-- where no element passes both, a sum over those that pass either is the sum over the one and over the other
pub total_either : (f : ℕ → ℕ) (p q : ℕ → Bool) (xs : List ℕ) → ((v : ℕ) → Mem v xs → T (p v) → T (q v) → ⊥)
    → total f (keep (λ v. p v || q v) xs) ≡ total f (keep p xs) + total f (keep q xs)
total_either f p q xs h =
    simp total-keep
    (total_ext (where_so (λ v. p v || q v) f) (λ v. where_so p f v + where_so q f v) xs (λ v m. go (p v) (q v) (f v) (h v m))
    ∙ total-add (where_so p f) (where_so q f) xs)
  where
    go : (a b : Bool) (n : ℕ) → (T a → T b → ⊥) → cond (a || b) n 0 ≡ cond a n 0 + cond b n 0
    go true true n d = absurd (d tt tt)
    go true false n d = omega arith
    go false true n d = omega arith
    go false false n d = refl

-- ---- rising lists

abbrev pub Rising : ℕ → List ℕ → Type 0
Rising b [] = Unit {0}
Rising b (x ∷ xs) = (b ≤ x) × Rising (suc x) xs

lower : (b c : ℕ) (xs : List ℕ) → c ≤ b → Rising b xs → Rising c xs
lower b c [] h r = tt
lower b c (x ∷ xs) h r = (le_trans h r.0, r.1)

pub keep_rising : (p : ℕ → Bool) (i m : ℕ) → Rising i (keep p (from i m))
unfolding keep from
keep_rising p i zero = tt
keep_rising p i (suc m) = go (p i) (keep_rising p (suc i) m)
  where
    go : (b : Bool) → Rising (suc i) (keep p (from (suc i) m)) → Rising i (cond b (i ∷ keep p (from (suc i) m)) (keep p (from (suc i) m)))
    go true r = (le_refl i, r)
    go false r = lower (suc i) i (keep p (from (suc i) m)) (omega arith) r

pub rising_above : (b v : ℕ) (xs : List ℕ) → Rising b xs → Mem v xs → b ≤ v
rising_above b v [] r k = elim k [ ]
rising_above b v (x ∷ xs) r (Memᴰ.head e) = omega (arith, r.0)
rising_above b v (x ∷ xs) r (Memᴰ.tail k) = omega (arith, r.0, rising_above (suc x) v xs r.1 k)
