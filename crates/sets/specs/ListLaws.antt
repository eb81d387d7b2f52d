-- Laws of lists of numbers: what a list has at a place and after a number is stored there, a part of a list, and a list less one element.
--
--   Part ds us   the elements of ds stand in us in the same order
--   Less x xs    what is left of xs less one x
use Rattle.std.specs.Prelude.{ℕ, zero, suc, ◌+◌, ◌≤◌, ◌<◌, ◌≡◌, refl, ◌≢◌, Bool, true, false, cond, List, [], ◌∷◌, map, length, get_or, set}
use Rattle.std.proofs.Common.{zero-le, not-suc-le-zero, add-zero, add-suc, suc-add, le_of_suc-le-suc, arith, sym, ap, ◌∙◌, subst, get_or-set_same, get_or-set_other}
use Rattle.std.proofs.Math.Decide.{ℕ_discrete, dec_le}
use mathlib.Core.List.Memᴰ
use Rattle.std.proofs.lemmas.List.{length-map}
use Rattle.sets.specs.Ranges.{from, range, keep, total, greatest}
use Rattle.sets.specs.Graph.{row}
use Rattle.sets.specs.RangeLaws.{Mem, length_from}

-- ---- what a list has at a place

get_or-map_from : (f : ℕ → ℕ) (i m j : ℕ) → j < m → get_or (map f (from i m)) j 0 ≡ f (i + j)
unfolding from
get_or-map_from f i zero j l = absurd (not-suc-le-zero l)
get_or-map_from f i (suc m) zero l = ap f (sym (add-zero i))
get_or-map_from f i (suc m) (suc j) l = get_or-map_from f (suc i) m j (le_of_suc-le-suc l) ∙ ap f (suc-add i j ∙ sym (add-suc i j))

pub get_or-map_range : (f : ℕ → ℕ) (n j : ℕ) → j < n → get_or (map f (range n)) j 0 ≡ f j
unfolding range
get_or-map_range f n j l = get_or-map_from f 0 n j l ∙ ap f (omega arith)

pub map-range-length : (f : ℕ → ℕ) (n : ℕ) → length (map f (range n)) ≡ n
unfolding range
map-range-length f n = length-map (range n) f ∙ length_from 0 n

-- f w is stored at w: what was stored of f stays
pub stored_more : (f : ℕ → ℕ) (sp : List ℕ) (w u : ℕ) {x : ℕ} → w < length sp → x ≡ f w → get_or sp u 0 ≡ f u → get_or (set sp w x) u 0 ≡ f u
stored_more f sp w u {x} l e h = go (ℕ_discrete u w)
  where
    go : Dec (u ≡ w) → get_or (set sp w x) u 0 ≡ f u
    go (yes q) = subst (λ (z : ℕ). get_or (set sp w x) z 0 ≡ f z) (sym q) (get_or-set_same sp w x 0 l ∙ e)
    go (no nq) = get_or-set_other sp w u x 0 nq ∙ h

-- the set x is stored at d
pub row-set : (b : List ℕ) (d x : ℕ) → d < length b → row (set b d x) d ≡ x
unfolding row
row-set b d x l = get_or-set_same b d x 0 l

pub row_other : (b : List ℕ) (d a x : ℕ) → a ≢ d → row (set b d x) a ≡ row b a
unfolding row
row_other b d a x ne = get_or-set_other b d a x 0 ne

-- ---- the greatest value

pub greatest_le : (f : ℕ → ℕ) (xs : List ℕ) (b : ℕ) → ((x : ℕ) → Mem x xs → f x ≤ b) → greatest f xs ≤ b
unfolding greatest
greatest_le f [] b h = zero-le
greatest_le f (x ∷ xs) b h = omega (arith, h x (Memᴰ.head refl), greatest_le f xs b (λ y m. h y (Memᴰ.tail m)))

pub greatest_ge : (f : ℕ → ℕ) (xs : List ℕ) (x : ℕ) → Mem x xs → f x ≤ greatest f xs
unfolding greatest
greatest_ge f [] x k = elim k [ ]
greatest_ge f (y ∷ ys) x (Memᴰ.head e) = omega (arith, ap f e)
greatest_ge f (y ∷ ys) x (Memᴰ.tail m) = omega (arith, greatest_ge f ys x m)

-- it is the value of an element, if there is any
greatest_some : (f : ℕ → ℕ) (xs : List ℕ) → 0 < greatest f xs → (x : ℕ) × Mem x xs × (f x ≡ greatest f xs)
unfolding greatest
greatest_some f [] l = absurd (not-suc-le-zero l)
greatest_some f (y ∷ ys) l = go (dec_le (greatest f ys) (f y)) (greatest_some f ys)
  where
    go : Dec (greatest f ys ≤ f y) → (0 < greatest f ys → (x : ℕ) × Mem x ys × (f x ≡ greatest f ys)) → (x : ℕ) × Mem x (y ∷ ys) × (f x ≡ greatest f (y ∷ ys))
    go (yes d) r = (y, Memᴰ.head refl, omega arith)
    go (no nd) r = let z = r (omega arith) in (z.0, Memᴰ.tail z.1, omega (arith, z.2))

pub greatest_at : (f : ℕ → ℕ) (xs : List ℕ) (y : ℕ) → Mem y xs → (x : ℕ) × Mem x xs × (f x ≡ greatest f xs)
greatest_at f xs y m = go (dec_le (greatest f xs) (f y))
  where
    go : Dec (greatest f xs ≤ f y) → (x : ℕ) × Mem x xs × (f x ≡ greatest f xs)
    go (yes d) = (y, m, omega (arith, greatest_ge f xs y m))
    go (no nd) = greatest_some f xs (omega arith)

-- ---- a part of a list

pub data Part : List ℕ → List ℕ → Type 0 where
  none : Part [] []
  skip : {x : ℕ} {ds us : List ℕ} → Part ds us → Part ds (x ∷ us)
  take : {x : ℕ} {ds us : List ℕ} → Part ds us → Part (x ∷ ds) (x ∷ us)

pub part_trans : {a b c : List ℕ} → Part a b → Part b c → Part a c
part_trans p none = p
part_trans p (skip q) = skip (part_trans p q)
part_trans (skip p) (take q) = skip (part_trans p q)
part_trans (take p) (take q) = take (part_trans p q)

pub part_mem : {ds us : List ℕ} (v : ℕ) → Part ds us → Mem v ds → Mem v us
part_mem v none m = m
part_mem v (skip p) m = Memᴰ.tail (part_mem v p m)
part_mem v (take p) (Memᴰ.head e) = Memᴰ.head e
part_mem v (take p) (Memᴰ.tail m) = Memᴰ.tail (part_mem v p m)

pub part_refl : (us : List ℕ) → Part us us
part_refl [] = none
part_refl (u ∷ us) = take (part_refl us)

pub part_keep : (p : ℕ → Bool) (xs : List ℕ) → Part (keep p xs) xs
unfolding keep
part_keep p [] = none
part_keep p (x ∷ xs) = go (p x) (part_keep p xs)
  where
    go : (b : Bool) → Part (keep p xs) xs → Part (cond b (x ∷ keep p xs) (keep p xs)) (x ∷ xs)
    go true r = take r
    go false r = skip r

-- ---- a list less one element

pub record Less (x : ℕ) (xs : List ℕ) : Type 0 where
  pub rest : List ℕ
  pub part : Part rest xs
  pub len : length xs ≡ suc (length rest)
  pub sums : (f : ℕ → ℕ) → total f xs ≡ f x + total f rest

pub less : {x : ℕ} {xs : List ℕ} → Mem x xs → Less x xs
unfolding total
less (Memᴰ.head {x = y} {xs = ys} e) =
    record { rest = ys; part = skip (part_refl ys); len = refl; sums = λ f. ap (λ (z : ℕ). f z + total f ys) (sym e) }
less (Memᴰ.tail {x = y} {xs = ys} m) =
    let r = less m in
    record { rest = y ∷ r.rest; part = take r.part; len = ap suc r.len; sums = λ f. omega (arith, r.sums f) }
