-- Laws of numbers that are kept as words, the lowest first: they hold for any number of words.
use Rattle.std.specs.Prelude.{ℕ, zero, suc, ◌+◌, ◌-◌, ◌*◌, ◌/◌, ◌%◌, ◌^◌, ◌≤◌, ◌<◌, min, ◌≡◌, refl, ◌≢◌, cond, List, [], ◌∷◌, ◌++◌, eqb, ltb, length, get_or}
use Rattle.std.proofs.Common.{arith, add-zero, zero-add, sym, ap, ap₂, ◌∙◌, subst, lt-ltb, le-ltb, eq-eqb, ne_eqb, pow-add, pow_pos, shr-shr}
use Rattle.std.proofs.Math.Decide.{ℕ_discrete, dec_lt}
use Rattle.std.proofs.Math.Pow.{high, low, ones_split}
use Rattle.std.specs.Int.Bits.{bit_and, bit_or, and_self, and_zero_l, or_add_and}
use Rattle.std.proofs.lemmas.Nat.{and_block, or_block, and_le_l, and_le_r, ones_cat}
use Rattle.std.specs.Int.Count.{ones}
use Rattle.sets.specs.Ranges.{total}
use Rattle.sets.specs.Set.{bit, minus, full}
use Rattle.sets.specs.PointLaws.{bit_none}
use Rattle.sets.specs.WordLaws.{bit-mod, LowestIn}
use Rattle.sets.specs.Words.{word_bits, number, Fit}

-- ---- an operation that goes word by word

unfoldable pub zip : (ℕ → ℕ → ℕ) → List ℕ → List ℕ → List ℕ
zip f [] ys = []
zip f (x ∷ xs) [] = []
zip f (x ∷ xs) (y ∷ ys) = f x y ∷ zip f xs ys

abbrev pub Blocks : (ℕ → ℕ → ℕ) → Type 0
Blocks f = (a b r s : ℕ) → r < 2 ^ word_bits → s < 2 ^ word_bits → f (a * 2 ^ word_bits + r) (b * 2 ^ word_bits + s) ≡ f a b * 2 ^ word_bits + f r s

pub lifted : (f : ℕ → ℕ → ℕ) → f 0 0 ≡ 0 → Blocks f → (xs ys : List ℕ) → Fit xs → Fit ys → length xs ≡ length ys
    → number (zip f xs ys) ≡ f (number xs) (number ys)
unfolding number zip
lifted f z b [] [] h k e = sym z
lifted f z b [] (y ∷ ys) h k e = absurd (omega arith)
lifted f z b (x ∷ xs) [] h k e = absurd (omega arith)
lifted f z b (x ∷ xs) (y ∷ ys) h k e =
    ap (λ (n : ℕ). n * 2 ^ word_bits + f x y) (lifted f z b xs ys h.1 k.1 (omega arith))
    ∙ sym (b (number xs) (number ys) x y h.0 k.0)

pub and_blocks : Blocks bit_and
and_blocks a b r s = and_block word_bits a b r s

pub or_blocks : Blocks bit_or
or_blocks a b r s = or_block word_bits a b r s

pub minus_blocks : Blocks minus
unfolding minus
minus_blocks a b r s h k = omega (arith, and_block word_bits a b r s h k, and_le_l a b, and_le_l r s)

-- ---- the size is a sum

pub ones_number : (xs : List ℕ) → Fit xs → ones (number xs) ≡ total ones xs
unfolding number total ones
ones_number [] h = refl
ones_number (x ∷ xs) h = ones_cat word_bits (number xs) x h.0 ∙ omega (arith, ones_number xs h.1)

-- ---- a digit

pub bit_low : (h l v : ℕ) → l < 2 ^ word_bits → v < word_bits → bit (h * 2 ^ word_bits + l) v ≡ bit l v
bit_low h l v b k = sym (bit-mod word_bits (h * 2 ^ word_bits + l) v k) ∙ ap (λ (y : ℕ). bit y v) (low h word_bits b)

pub bit_above : (h l v : ℕ) → l < 2 ^ word_bits → bit (h * 2 ^ word_bits + l) (word_bits + v) ≡ bit h v
unfolding bit
bit_above h l v b =
    ap (λ (y : ℕ). y % 2) (sym (shr-shr (h * 2 ^ word_bits + l) word_bits v) ∙ ap (λ (y : ℕ). y / 2 ^ v) (high h word_bits b))

pub bit-number : (xs : List ℕ) (v d : ℕ) → Fit xs → v < length xs * word_bits → bit (number xs) v ≡ bit (get_or xs (v / word_bits) d) (v % word_bits)
unfolding number
bit-number [] v d h l = absurd (omega arith)
bit-number (x ∷ xs) v d h l = go (dec_lt v word_bits) (λ k. bit-number xs (v - word_bits) d h.1 k)
  where
    go : Dec (v < word_bits)
        → (v - word_bits < length xs * word_bits → bit (number xs) (v - word_bits) ≡ bit (get_or xs ((v - word_bits) / word_bits) d) ((v - word_bits) % word_bits))
        → bit (number xs * 2 ^ word_bits + x) v ≡ bit (get_or (x ∷ xs) (v / word_bits) d) (v % word_bits)
    go (yes k) r =
        let e : v / word_bits ≡ 0 = omega arith in
        let f : v % word_bits ≡ v = omega arith in
        rw (e, f) (bit_low (number xs) x v h.0 k)
    go (no nk) r =
        let e : word_bits + (v - word_bits) ≡ v = omega arith in
        let i : v / word_bits ≡ suc ((v - word_bits) / word_bits) = omega arith in
        let j : v % word_bits ≡ (v - word_bits) % word_bits = omega arith in
        ap (bit (number xs * 2 ^ word_bits + x)) (sym e) ∙ bit_above (number xs) x (v - word_bits) h.0
        ∙ r (omega arith)
        ∙ sym (ap₂ (λ (m n : ℕ). bit (get_or (x ∷ xs) m d) n) i j)

-- ---- the order: the highest word in which they differ decides

-- numbers that are the same above their lowest word
order_low : (h r s : ℕ) → ltb (h * 2 ^ word_bits + r) (h * 2 ^ word_bits + s) ≡ ltb r s
order_low h r s = go (dec_lt r s)
  where
    go : Dec (r < s) → ltb (h * 2 ^ word_bits + r) (h * 2 ^ word_bits + s) ≡ ltb r s
    go (yes l) = lt-ltb (h * 2 ^ word_bits + r) (h * 2 ^ word_bits + s) (omega arith) ∙ sym (lt-ltb r s l)
    go (no nl) = le-ltb (h * 2 ^ word_bits + r) (h * 2 ^ word_bits + s) (omega arith) ∙ sym (le-ltb r s (omega arith))

-- numbers that differ above their lowest word
order_high : (h k r s : ℕ) → r < 2 ^ word_bits → s < 2 ^ word_bits → h ≢ k → ltb (h * 2 ^ word_bits + r) (k * 2 ^ word_bits + s) ≡ ltb h k
order_high h k r s a b n = go (dec_lt h k)
  where
    go : Dec (h < k) → ltb (h * 2 ^ word_bits + r) (k * 2 ^ word_bits + s) ≡ ltb h k
    go (yes l) = lt-ltb (h * 2 ^ word_bits + r) (k * 2 ^ word_bits + s) (omega arith) ∙ sym (lt-ltb h k l)
    go (no nl) = le-ltb (h * 2 ^ word_bits + r) (k * 2 ^ word_bits + s) (omega (arith, n)) ∙ sym (le-ltb h k (omega arith))

differ_at : (xs ys : List ℕ) (x y : ℕ) (zs : List ℕ) → Fit xs → Fit ys → length xs ≡ length ys → x ≢ y → number (xs ++ x ∷ zs) ≢ number (ys ++ y ∷ zs)
unfolding number
differ_at [] [] x y zs h k e n f = n (omega (arith, f))
differ_at [] (b ∷ ys) x y zs h k e n f = absurd (omega arith)
differ_at (a ∷ xs) [] x y zs h k e n f = absurd (omega arith)
differ_at (a ∷ xs) (b ∷ ys) x y zs h k e n f = differ_at xs ys x y zs h.1 k.1 (omega arith) n (omega (arith, f, h.0, k.0))

-- words that are the same above x and y; these differ, or are the lowest
pub order_at : (xs ys : List ℕ) (x y : ℕ) (zs : List ℕ) → Fit xs → Fit ys → length xs ≡ length ys → (0 < length xs → x ≢ y)
    → ltb (number (xs ++ x ∷ zs)) (number (ys ++ y ∷ zs)) ≡ ltb x y
unfolding number
order_at [] [] x y zs h k e n = order_low (number zs) x y
order_at [] (b ∷ ys) x y zs h k e n = absurd (omega arith)
order_at (a ∷ xs) [] x y zs h k e n = absurd (omega arith)
order_at (a ∷ xs) (b ∷ ys) x y zs h k e n =
    let d = n (omega arith) in
    order_high (number (xs ++ x ∷ zs)) (number (ys ++ y ∷ zs)) a b h.0 k.0 (differ_at xs ys x y zs h.1 k.1 (omega arith) d)
    ∙ order_at xs ys x y zs h.1 k.1 (omega arith) (λ l. d)

abbrev pub Zeros : List ℕ → Type 0
Zeros [] = Unit {0}
Zeros (x ∷ xs) = (x ≡ 0) × Zeros xs

-- ---- the lowest digit is that of the first word that is not 0

pub lowest_here : (x h v : ℕ) → x < 2 ^ word_bits → v < word_bits → LowestIn x v → LowestIn (h * 2 ^ word_bits + x) v
lowest_here x h v b l r = record { member = bit_low h x v b l ∙ r.member; least = λ u k. bit_low h x u b (omega arith) ∙ r.least u k }

pub lowest_skip : (h v : ℕ) → LowestIn h v → LowestIn (h * 2 ^ word_bits + 0) (v + word_bits)
lowest_skip h v r =
    record {
      member = ap (bit (h * 2 ^ word_bits + 0)) (omega arith) ∙ bit_above h 0 v (pow_pos word_bits) ∙ r.member;
      least = λ u k. go u k (dec_lt u word_bits);
    }
  where
    go : (u : ℕ) → u < v + word_bits → Dec (u < word_bits) → bit (h * 2 ^ word_bits + 0) u ≡ 0
    go u k (yes l) = bit_low h 0 u (pow_pos word_bits) l ∙ bit_none u
    go u k (no nl) =
        let e : word_bits + (u - word_bits) ≡ u = omega arith in
        ap (bit (h * 2 ^ word_bits + 0)) (sym e) ∙ bit_above h 0 (u - word_bits) (pow_pos word_bits) ∙ r.least (u - word_bits) (omega arith)

-- ---- less its lowest digit: the first word that is not 0 is

pub clear_here : (x h : ℕ) → 0 < x → x < 2 ^ word_bits → h * 2 ^ word_bits + bit_and x (x - 1) ≡ bit_and (h * 2 ^ word_bits + x) (h * 2 ^ word_bits + x - 1)
clear_here x h p b =
    sym (ap (bit_and (h * 2 ^ word_bits + x)) (omega arith) ∙ and_block word_bits h h x (x - 1) b (omega arith)
    ∙ ap (λ (y : ℕ). y * 2 ^ word_bits + bit_and x (x - 1)) (and_self h))

pub clear_skip : (h k : ℕ) → 0 < h → k ≡ bit_and h (h - 1) → k * 2 ^ word_bits + 0 ≡ bit_and (h * 2 ^ word_bits + 0) (h * 2 ^ word_bits + 0 - 1)
clear_skip h k p e =
    ap₂ (λ (y z : ℕ). y * 2 ^ word_bits + z) e (sym (and_zero_l (2 ^ word_bits - 1)))
    ∙ sym (and_block word_bits h (h - 1) 0 (2 ^ word_bits - 1) (pow_pos word_bits) (omega arith))
    ∙ ap (bit_and (h * 2 ^ word_bits + 0)) (omega arith)

-- the words zs are 0, and x is not
pub lowest_at : (zs : List ℕ) (x : ℕ) (xs : List ℕ) (v : ℕ) → Zeros zs → x < 2 ^ word_bits → v < word_bits → LowestIn x v
    → LowestIn (number (zs ++ x ∷ xs)) (length zs * word_bits + v)
unfolding number
lowest_at [] x xs v z b l r =
    let e : v ≡ 0 * word_bits + v = omega arith in
    subst (LowestIn (number (x ∷ xs))) e (lowest_here x (number xs) v b l r)
lowest_at (y ∷ zs) x xs v z b l r =
    let e : length zs * word_bits + v + word_bits ≡ suc (length zs) * word_bits + v = omega arith in
    subst (λ (u : ℕ). LowestIn (number (zs ++ x ∷ xs) * 2 ^ word_bits + y) u) e
    (subst (λ (u : ℕ). LowestIn (number (zs ++ x ∷ xs) * 2 ^ word_bits + u) (length zs * word_bits + v + word_bits)) (sym z.0)
    (lowest_skip (number (zs ++ x ∷ xs)) (length zs * word_bits + v) (lowest_at zs x xs v z.1 b l r)))

pub clear_at : (zs : List ℕ) (x : ℕ) (xs : List ℕ) → Zeros zs → 0 < x → x < 2 ^ word_bits
    → (number (zs ++ bit_and x (x - 1) ∷ xs) ≡ bit_and (number (zs ++ x ∷ xs)) (number (zs ++ x ∷ xs) - 1)) × (0 < number (zs ++ x ∷ xs))
unfolding number
clear_at [] x xs z p b = (clear_here x (number xs) p b, omega arith)
clear_at (y ∷ zs) x xs z p b =
    let r = clear_at zs x xs z.1 p b in
    let n = number (zs ++ x ∷ xs) in
    let m = number (zs ++ bit_and x (x - 1) ∷ xs) in (
      subst (λ (u : ℕ). m * 2 ^ word_bits + u ≡ bit_and (n * 2 ^ word_bits + u) (n * 2 ^ word_bits + u - 1)) (sym z.0) (clear_skip n m r.1 r.0),
      omega (arith, r.1),
    )

-- ---- the vertices below n, and v alone, word by word

unfoldable pub fulls : ℕ → ℕ → ℕ → List ℕ
fulls zero n at = []
fulls (suc w) n at = full (min (n - at) word_bits) ∷ fulls w n (at + word_bits)

pub full-number : (w n at : ℕ) → n ≤ at + w * word_bits → number (fulls w n at) ≡ full (n - at)
unfolding number fulls
full-number zero n at l = let e : n - at ≡ 0 = omega arith in rw e
full-number (suc w) n at l =
    ap (λ (y : ℕ). y * 2 ^ word_bits + full (min (n - at) word_bits)) (full-number w n (at + word_bits) (omega arith))
    ∙ go (dec_lt (n - at) word_bits)
  where
    go : Dec (n - at < word_bits) → full (n - (at + word_bits)) * 2 ^ word_bits + full (min (n - at) word_bits) ≡ full (n - at)
    go (yes k) =
        let e : n - (at + word_bits) ≡ 0 = omega arith in
        let f : min (n - at) word_bits ≡ n - at = omega arith in
        rw (e, f) (omega arith)
    go (no nk) =
        let e : n - at ≡ n - (at + word_bits) + word_bits = omega arith in
        let f : min (n - at) word_bits ≡ word_bits = omega arith in
        ap (λ (z : ℕ). full (n - (at + word_bits)) * 2 ^ word_bits + full z) f
        ∙ sym (ap full e ∙ ones_split (n - (at + word_bits)) word_bits)

unfoldable pub singles : ℕ → ℕ → ℕ → List ℕ
singles zero v i = []
singles (suc w) v i = cond (eqb (v / word_bits) i) (2 ^ (v % word_bits)) 0 ∷ singles w v (suc i)

-- v lies before word i
single_past : (w v i : ℕ) → v / word_bits < i → number (singles w v i) ≡ 0
unfolding number singles
single_past zero v i l = refl
single_past (suc w) v i l = rw (single_past w v (suc i) (omega arith), ne_eqb (v / word_bits) i (omega arith))

pub single_number : (w v i : ℕ) → i ≤ v / word_bits → v < (i + w) * word_bits → number (singles w v i) ≡ 2 ^ (v - i * word_bits)
unfolding number singles
single_number zero v i l h = absurd (omega arith)
single_number (suc w) v i l h = go (ℕ_discrete (v / word_bits) i) (λ k. single_number w v (suc i) k (omega arith))
  where
    go : Dec (v / word_bits ≡ i) → (suc i ≤ v / word_bits → number (singles w v (suc i)) ≡ 2 ^ (v - suc i * word_bits))
        → number (singles w v (suc i)) * 2 ^ word_bits + cond (eqb (v / word_bits) i) (2 ^ (v % word_bits)) 0 ≡ 2 ^ (v - i * word_bits)
    go (yes e) r =
        let f : v % word_bits ≡ v - i * word_bits = omega arith in
        rw (single_past w v (suc i) (omega arith), eq-eqb (v / word_bits) i e, f) (zero-add (2 ^ (v - i * word_bits)))
    go (no ne) r =
        let f : v - suc i * word_bits + word_bits ≡ v - i * word_bits = omega arith in
        rw (r (omega arith), ne_eqb (v / word_bits) i ne, ← f, pow-add) (add-zero (2 ^ (v - suc i * word_bits) * 2 ^ word_bits))

-- ---- none is 0 but where each word is

pub or_none : (x y : ℕ) → bit_or x y ≡ 0 → (x ≡ 0) × (y ≡ 0)
or_none x y e = (omega (arith, or_add_and x y, and_le_l x y, and_le_r x y), omega (arith, or_add_and x y, and_le_l x y, and_le_r x y))

pub zeros_number : (xs : List ℕ) → Zeros xs → number xs ≡ 0
unfolding number
zeros_number [] z = refl
zeros_number (x ∷ xs) z = omega (arith, zeros_number xs z.1, z.0)

pub number_zeros : (xs : List ℕ) → number xs ≡ 0 → Zeros xs
unfolding number
number_zeros [] e = tt
number_zeros (x ∷ xs) e = (omega (arith, e), number_zeros xs (omega (arith, e)))

-- the union of the words
unfoldable pub union : ℕ → List ℕ → ℕ
union x [] = x
union x (y ∷ ys) = union (bit_or x y) ys

union_zeros : (x : ℕ) (ys : List ℕ) → union x ys ≡ 0 → Zeros (x ∷ ys)
unfolding union
union_zeros x [] e = (e, tt)
union_zeros x (y ∷ ys) e =
    let r = union_zeros (bit_or x y) ys e in
    let p = or_none x y r.0 in
    (p.0, (p.1, r.1))

zeros_union : (x : ℕ) (ys : List ℕ) → Zeros (x ∷ ys) → union x ys ≡ 0
unfolding union
zeros_union x [] z = z.0
zeros_union x (y ∷ ys) z = zeros_union (bit_or x y) ys (ap₂ bit_or z.0 z.1.0, z.1.1)

pub empty_number : (x : ℕ) (ys : List ℕ) → eqb (union x ys) 0 ≡ eqb (number (x ∷ ys)) 0
empty_number x ys = go (ℕ_discrete (union x ys) 0)
  where
    go : Dec (union x ys ≡ 0) → eqb (union x ys) 0 ≡ eqb (number (x ∷ ys)) 0
    go (yes e) = eq-eqb (union x ys) 0 e ∙ sym (eq-eqb (number (x ∷ ys)) 0 (zeros_number (x ∷ ys) (union_zeros x ys e)))
    go (no ne) = ne_eqb (union x ys) 0 ne ∙ sym (ne_eqb (number (x ∷ ys)) 0 (λ e. ne (zeros_union x ys (number_zeros (x ∷ ys) e))))
