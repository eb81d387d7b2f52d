-- Laws of the masks that pass a test and of steps that add some: nothing, the same, one mask, one step after the other, all.
use Rattle.std.specs.Prelude.{ℕ, zero, suc, ◌+◌, ◌≤◌, ◌<◌, ◌≡◌, refl, ◌⊎◌, Bool, true, false, ◌||◌, cond, List, [], ◌∷◌, T, length}
use Rattle.std.proofs.Common.{zero-le, arith, sym, ap, ◌∙◌, subst, inl, inr, eqb→eq}
use mathlib.Core.List.Memᴰ
use Rattle.std.proofs.Math.Dec.{eqb_refl}
use Rattle.sets.specs.Ranges.{from, range, keep}
use Rattle.sets.specs.RangeLaws.{length_from, mem_range, range_mem, keep_mem, mem_keep, or_cases, or_left, or_right}
use Rattle.sets.specs.SumLaws.{length-total}
use Rattle.lists.specs.Placing.{passing, number, union, only, unless, Apart, capped, Held, Holds, Adds}
use Rattle.sets.specs.KeepLaws.{keep_ext, keep_none, keep-length, keep_rising, total_either}
use Rattle.lists.specs.OrderLaws.{rising_unique}

or_false : (a b : Bool) → (T b → ⊥) → a ≡ a || b
or_false true b f = refl
or_false false true f = absurd (f tt)
or_false false false f = refl

or_assoc : (a b c : Bool) → (a || b) || c ≡ a || (b || c)
or_assoc true b c = refl
or_assoc false b c = refl

-- ---- how many pass

-- not all pass where 0 does not
pub number_fits : (N : ℕ) (P : ℕ → Bool) → 0 < N → (T (P 0) → ⊥) → number N P < N
unfolding range from keep
number_fits zero P l f = l
number_fits (suc n) P l f = go (P 0) f (keep-length P (from 1 n))
  where
    go : (b : Bool) → (T b → ⊥) → length (keep P (from 1 n)) ≤ length (from 1 n) → length (cond b (0 ∷ keep P (from 1 n)) (keep P (from 1 n))) < suc n
    go true h k = absurd (h tt)
    go false h k = omega (arith, length_from 1 n)

module _ (N : ℕ) where
  pub passing_same : (P Q : ℕ → Bool) → ((x : ℕ) → x < N → P x ≡ Q x) → passing N P ≡ passing N Q
  passing_same P Q e = keep_ext P Q (range N) (λ x m. e x (range_mem N x m))

  pub passing_none : (Q : ℕ → Bool) → ((x : ℕ) → x < N → T (Q x) → ⊥) → passing N Q ≡ []
  passing_none Q f = keep_none Q (range N) (λ x m. f x (range_mem N x m))

  pub passing_only : (x : ℕ) → x < N → passing N (only x) ≡ x ∷ []
  unfolding range
  passing_only x l =
      rising_unique 0 0 (keep (only x) (from 0 N)) (x ∷ []) (keep_rising (only x) 0 N) (zero-le, tt)
      (λ y m. Memᴰ.head (eqb→eq y x (keep_mem (only x) (range N) y m).1))
      (λ y m. let e = Memᴰ.eq_of_singleton m in mem_keep (only x) (range N) y (mem_range N y (omega (arith, e, l))) (rw e (eqb_refl x)))

  pub number_only : (x : ℕ) → x < N → number N (only x) ≡ 1
  number_only x l = ap length (passing_only x l)

  pub number-union : (P Q : ℕ → Bool) → Apart N P Q → number N (union P Q) ≡ number N P + number N Q
  number-union P Q d = simp length-total (total_either (λ x. 1) P Q (range N) (λ x m. d x (range_mem N x m)))

  -- ---- what slots hold

  pub holds_same : (first slots : List ℕ) (P Q : ℕ → Bool) (count : ℕ) → ((x : ℕ) → x < N → P x ≡ Q x)
      → Holds N first P slots count → Holds N first Q slots count
  holds_same first slots P Q count e h = let same = passing_same P Q e in record {
    counted = h.counted ∙ ap (λ (t : List ℕ). capped (length t)) same;
    long = h.long;
    kept = subst (λ (t : List ℕ). Held first t slots) same h.kept;
  }

  pub holds_none : (first : List ℕ) (P : ℕ → Bool) → ((x : ℕ) → x < N → T (P x) → ⊥) → Holds N first P first 0
  holds_none first P f = let none = sym (passing_none P f) in record {
    counted = ap (λ (t : List ℕ). capped (length t)) none;
    long = refl;
    kept = subst (λ (t : List ℕ). Held first t first) none (λ l. (λ z. refl, refl));
  }

  -- ---- steps that add

  -- nothing is added where no mask passes: a cut
  pub adds_none : (Q : ℕ → Bool) (a : List ℕ) (m : ℕ) → ((x : ℕ) → x < N → T (Q x) → ⊥) → Adds N Q a m a m
  adds_none Q a m f = record {
    holds = λ first P d h. holds_same first a P (union P Q) m (λ x l. or_false (P x) (Q x) (f x l)) h;
  }

  -- tests that are equal below N add the same
  pub adds_same : (Q R : ℕ → Bool) (a b : List ℕ) (m n : ℕ) → ((x : ℕ) → x < N → Q x ≡ R x) → Adds N Q a m b n → Adds N R a m b n
  adds_same Q R a b m n e s = record {
    holds = λ first P d h.
        holds_same first b (union P Q) (union P R) n (λ x l. ap (λ (t : Bool). P x || t) (e x l))
        (s.holds first P (λ x l p q. d x l p (subst T (e x l) q)) h);
  }

  -- one step after the other, where the second adds what the first did not
  pub adds_both : (Q R : ℕ → Bool) (a b c : List ℕ) (m n o : ℕ) → Apart N Q R → Adds N Q a m b n → Adds N R b n c o → Adds N (union Q R) a m c o
  adds_both Q R a b c m n o d s t = record {
    holds = λ first P p h.
        holds_same first c (union (union P Q) R) (union P (union Q R)) o (λ x l. or_assoc (P x) (Q x) (R x))
        (t.holds first (union P Q) (λ x l u r. apart x l (p x l) (or_cases (P x) (Q x) u) r)
        (s.holds first P (λ x l u q. p x l u (or_left (Q x) (R x) q)) h));
  }
    where
      apart : {A : Type 0} (x : ℕ) → x < N → (A → T (Q x || R x) → ⊥) → A ⊎ T (Q x) → T (R x) → ⊥
      apart x l f (inl u) r = f u (or_right (Q x) (R x) r)
      apart x l f (inr q) r = d x l q r

  -- what the slots hold when all is added
  pub adds_all : (Q : ℕ → Bool) (first after : List ℕ) (m : ℕ) → Adds N Q first 0 after m → Holds N first Q after m
  adds_all Q first after m s = s.holds first (λ x. false) (λ x l p q. p) (holds_none first (λ x. false) (λ x l p. p))

-- ---- a mask of which it is known whether it is to be added

module _ {N : ℕ} {b : Bool} (x : ℕ) where
  pub unless_none : {slots : List ℕ} {count : ℕ} → b ≡ true → Adds N (unless b x) slots count slots count
  unless_none e = adds_none N (unless b x) _ _ (λ y l z. subst (λ (u : Bool). T (unless u x y)) e z)

  pub unless_more : {before after : List ℕ} {count r : ℕ} → b ≡ false → Adds N (only x) before count after r → Adds N (unless b x) before count after r
  unless_more e s = adds_same N (only x) (unless b x) _ _ _ _ (λ y l. ap (λ (u : Bool). unless u x y) (sym e)) s
