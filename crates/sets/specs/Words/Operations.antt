-- What each operation on stored sets does to their masks: the laws of Words/Numbers and Words/Groups at one word per set.
use Rattle.std.specs.Prelude.{ℕ, zero, suc, ◌+◌, ◌-◌, ◌*◌, ◌/◌, ◌%◌, ◌^◌, ◌≤◌, ◌<◌, min, ◌≡◌, refl, Bool, true, false, cond, List, [], ◌∷◌, eqb, ltb, length, get_or, set}
use Rattle.std.proofs.Common.{arith, zero-mul, sym, ap, ap₂, ◌∙◌, subst, eq-eqb}
use Rattle.std.specs.Int.Bits.{bit_and, bit_or}
use Rattle.std.proofs.lemmas.Nat.{and_mask, ones-le}
use Rattle.std.specs.Int.Count.{ones, count_trailing_zeros}
use Rattle.std.proofs.Math.Seq.{length-sets}
use mir.Val.{bool_byte}
use Rattle.std.proofs.Common.{Less, Equal, Greater}
use Rattle.std.specs.Ordering.{is_lt, is_le, nat_cmp, ord_min, ord_max}
use Rattle.sets.specs.contracts.SetOrd
use Rattle.std.specs.Prelude.{max}
use Rattle.std.specs.Cmp.{nat_cmp_is}
use Rattle.std.proofs.lemmas.Bool.{lt-ltb, le-ltb, ltb-true, ltb-false}
use Rattle.std.proofs.Math.Decide.{dec_lt}
use Rattle.std.specs.Prelude.{not}
use Rattle.sets.specs.Ranges.{total}
use Rattle.sets.specs.Set.{bit, has, size, minus, without, full}
use Rattle.sets.specs.Graph.{row}
use Rattle.sets.specs.SubsetLaws.{positive}
use Rattle.sets.specs.WordLaws.{shifted_has, shift_one, shift_ones, and_not, trailing_lowest, clear_lowest}
use Rattle.sets.specs.declared.Set.{Set}
use Rattle.sets.specs.Words.{word_bits, per_set, width, number, Fit, words, word_of, mask, groups, masks, Lowest}
use Rattle.sets.specs.Words.Numbers.{zip, lifted, and_blocks, or_blocks, minus_blocks, ones_number, bit-number, order_at, lowest_at, clear_at}
use Rattle.sets.specs.Words.Numbers.{fulls, full-number, singles, single_number, union, empty_number}
use Rattle.sets.specs.Words.Groups.{length-groups, get_groups, put_groups, reads, take-reads}

-- the words of a set have word_bits digits
abbrev pub Fits : Set → Type 0
Fits s = Fit (words s)

-- ---- sets of a word, and the words of a set

pub of_word_mask : (w : ℕ) → mask (record { word = w }) ≡ w
unfolding mask number
of_word_mask w = omega arith

pub word_of_lem : (s : Set) (j : ℕ) → j < per_set → s.word ≡ word_of s j
unfolding word_of
word_of_lem s zero l = refl
word_of_lem s (suc j) l = absurd (omega arith)

-- word 0 has the lowest digits of the mask
pub word_low : (s : Set) → (q : ℕ) × (mask s ≡ q * 2 ^ word_bits + word_of s 0)
unfolding word_of mask number
word_low s = (0, refl)

-- word 0 is all of a set: at one word per set only
pub word_mask : (s : Set) → word_of s 0 ≡ mask s
unfolding word_of mask number
word_mask s = omega arith

-- ---- operations that go word by word

pub empty_mask : mask (record { word = 0 }) ≡ 0
empty_mask = of_word_mask 0

pub meet_mask : (s t : Set) → Fits s → Fits t → mask (record { word = bit_and s.word t.word }) ≡ bit_and (mask s) (mask t)
unfolding mask zip
meet_mask s t h k = lifted bit_and refl and_blocks (words s) (words t) h k refl

pub join_mask : (s t : Set) → Fits s → Fits t → mask (record { word = bit_or s.word t.word }) ≡ bit_or (mask s) (mask t)
unfolding mask zip
join_mask s t h k = lifted bit_or refl or_blocks (words s) (words t) h k refl

pub minus_mask : (s t : Set) → Fits s → Fits t → mask (record { word = bit_and s.word (2 ^ word_bits - 1 - t.word) }) ≡ minus (mask s) (mask t)
unfolding mask zip minus
minus_mask s t h k = ap number (each (words s) (words t) h k) ∙ lifted minus refl minus_blocks (words s) (words t) h k refl
  where
    each : (xs ys : List ℕ) → Fit xs → Fit ys → zip (λ (x y : ℕ). bit_and x (2 ^ word_bits - 1 - y)) xs ys ≡ zip minus xs ys
    each [] ys h k = refl
    each (x ∷ xs) [] h k = refl
    each (x ∷ xs) (y ∷ ys) h k = ap₂ ◌∷◌ (and_not word_bits x y h.0 k.0) (each xs ys h.1 k.1)

pub full_mask : (n : ℕ) → n ≤ width → mask (record { word = (2 ^ word_bits - 1) / 2 ^ (width - n) }) ≡ full n
unfolding mask fulls
full_mask n l =
    let e : word_bits ≡ min (n - 0) word_bits + (width - n) = omega arith in
    let z : n - 0 ≡ n = omega arith in
    ap (λ (x : ℕ). number (x ∷ [])) (ap (λ (m : ℕ). (2 ^ m - 1) / 2 ^ (width - n)) e ∙ shift_ones (min (n - 0) word_bits) (width - n))
    ∙ full-number per_set n 0 (omega arith) ∙ ap full z

pub single_mask : (v : ℕ) → v < width → mask (record { word = (1 * 2 ^ v) % 2 ^ word_bits }) ≡ 2 ^ v
unfolding mask singles
single_mask v l =
    let here : v / word_bits ≡ 0 = omega arith in
    let e : v ≡ v % word_bits = omega arith in
    let z : v - 0 * word_bits ≡ v = omega arith in
    ap (λ (x : ℕ). number (x ∷ []))
    (shift_one word_bits v l ∙ ap (λ (m : ℕ). 2 ^ m) e ∙ sym (ap (λ (b : Bool). cond b (2 ^ (v % word_bits)) 0) (eq-eqb (v / word_bits) 0 here)))
    ∙ single_number per_set v 0 (omega arith) (omega arith) ∙ ap (λ (m : ℕ). 2 ^ m) z

-- v alone where b holds, else no vertex
pub single_if_mask : (v : ℕ) (b : Bool) → v < width → mask (record { word = bool_byte b * 2 ^ v % 2 ^ word_bits }) ≡ cond b (2 ^ v) 0
single_if_mask v true l = single_mask v l
single_if_mask v false l = ap (λ (x : ℕ). mask (record { word = x % 2 ^ word_bits })) (zero-mul (2 ^ v)) ∙ empty_mask

-- ---- what a set is asked

-- a digit of the mask is one of its word
digit : (s : Set) (v : ℕ) → Fits s → v < width → bit s.word v ≡ bit (mask s) v
unfolding mask
digit s v h l =
    let i : 0 ≡ v / word_bits = omega arith in
    let j : v ≡ v % word_bits = omega arith in
    ap₂ (λ (m n : ℕ). bit (get_or (words s) m 0) n) i j ∙ sym (bit-number (words s) v 0 h (omega arith))

pub has_mask : (s : Set) (v : ℕ) → Fits s → v < width → eqb (bit_and (s.word / 2 ^ v) 1) 1 ≡ has (mask s) v
unfolding has
has_mask s v h l = shifted_has s.word v ∙ ap (λ (y : ℕ). eqb y 1) (digit s v h l)

pub indicator_mask : (s : Set) (v : ℕ) → Fits s → v < width → bit_and (s.word / 2 ^ v) 1 ≡ bit (mask s) v
unfolding bit
indicator_mask s v h l = and_mask (s.word / 2 ^ v) 1 ∙ digit s v h l

pub size_mask : (s : Set) → Fits s → (ones s.word ≡ size (mask s)) × (ones s.word ≤ width)
unfolding mask total
size_mask s h = (omega (arith, ones_number (words s) h), ones-le word_bits s.word h.0)

pub is_empty_mask : (s : Set) → eqb s.word 0 ≡ eqb (mask s) 0
unfolding mask union
is_empty_mask s = empty_number s.word []

-- ---- order

pub same_mask : (s t : Set) → eqb s.word t.word ≡ eqb (mask s) (mask t)
same_mask s t = ap₂ eqb (sym (of_word_mask s.word)) (sym (of_word_mask t.word))

pub precedes_mask : (s t : Set) → ltb s.word t.word ≡ ltb (mask s) (mask t)
unfolding mask
precedes_mask s t = sym (order_at [] [] s.word t.word [] tt tt refl (λ l. absurd (omega (arith, l))))

-- the order of sets, as `<` and `<=` test it
pub lt_mask : (s t : Set) → is_lt (nat_cmp s.word t.word) ≡ ltb (mask s) (mask t)
lt_mask s t = lt_at s.word t.word (dec_lt s.word t.word) (dec_lt t.word s.word) ∙ precedes_mask s t
  where
    lt_at : (x y : ℕ) → Dec (x < y) → Dec (y < x) → is_lt (nat_cmp x y) ≡ ltb x y
    lt_at x y (yes l) _ = sym (ap is_lt (nat_cmp_is x y Less l)) ∙ sym (lt-ltb x y l)
    lt_at x y (no nl) (yes m) = sym (ap is_lt (nat_cmp_is x y Greater m)) ∙ sym (le-ltb x y (omega arith))
    lt_at x y (no nl) (no nm) = sym (ap is_lt (nat_cmp_is x y Equal (omega arith))) ∙ sym (le-ltb x y (omega arith))

pub le_mask : (s t : Set) → is_le (nat_cmp s.word t.word) ≡ not (ltb (mask t) (mask s))
le_mask s t = le_at s.word t.word (dec_lt s.word t.word) (dec_lt t.word s.word) ∙ ap not (precedes_mask t s)
  where
    le_at : (x y : ℕ) → Dec (x < y) → Dec (y < x) → is_le (nat_cmp x y) ≡ not (ltb y x)
    le_at x y (yes l) _ = sym (ap is_le (nat_cmp_is x y Less l)) ∙ ap not (sym (le-ltb y x (omega arith)))
    le_at x y (no nl) (yes m) = sym (ap is_le (nat_cmp_is x y Greater m)) ∙ ap not (sym (lt-ltb y x m))
    le_at x y (no nl) (no nm) = sym (ap is_le (nat_cmp_is x y Equal (omega arith))) ∙ ap not (sym (le-ltb y x (omega arith)))

-- the lesser and the greater of two sets, as `min` and `max` choose them
pub min_mask : (s t : Set) → mask (ord_min SetOrd.TheImpl.cmp-value.it s t) ≡ min (mask s) (mask t)
min_mask s t = chosen (is_lt (nat_cmp t.word s.word)) (lt_mask t s)
  where
    chosen : (b : Bool) → b ≡ ltb (mask t) (mask s) → mask (cond b t s) ≡ min (mask s) (mask t)
    chosen true e = omega (arith, ltb-true (mask t) (mask s) (sym e))
    chosen false e = omega (arith, ltb-false (mask t) (mask s) (sym e))

pub max_mask : (s t : Set) → mask (ord_max SetOrd.TheImpl.cmp-value.it s t) ≡ max (mask s) (mask t)
max_mask s t = chosen (is_lt (nat_cmp t.word s.word)) (lt_mask t s)
  where
    chosen : (b : Bool) → b ≡ ltb (mask t) (mask s) → mask (cond b s t) ≡ max (mask s) (mask t)
    chosen true e = omega (arith, ltb-true (mask t) (mask s) (sym e))
    chosen false e = omega (arith, ltb-false (mask t) (mask s) (sym e))

-- ---- the lowest member

-- a set with a member has a word that is not 0
pub nonzero_word : (s : Set) → 0 < mask s → 0 < s.word
unfolding mask number
nonzero_word s p = omega (arith, p)

pub lowest_mask : (s : Set) → Fits s → 0 < mask s → Lowest (mask s) (count_trailing_zeros word_bits s.word)
unfolding mask
lowest_mask s h p =
    let r = trailing_lowest word_bits s.word (nonzero_word s p) h.0 in
    let q = lowest_at [] s.word [] (count_trailing_zeros word_bits s.word) tt h.0 r.0 r.1 in
    let z : 0 * word_bits + count_trailing_zeros word_bits s.word ≡ count_trailing_zeros word_bits s.word = omega arith in
    subst (Lowest (number (words s))) z (record { fits = omega (arith, r.0); member = q.member; least = q.least })

pub rest_mask : (s : Set) (v : ℕ) → Fits s → Lowest (mask s) v → mask (record { word = bit_and s.word (s.word - 1) }) ≡ without (mask s) v
unfolding mask
rest_mask s v h l =
    (clear_at [] s.word [] tt (nonzero_word s (positive (mask s) v l.member)) h.0).0
    ∙ clear_lowest (number (words s)) v (record { member = l.member; least = l.least })

-- ---- lent words

pub get_mask : (ws : List ℕ) (i : ℕ) → i < length (masks ws) → mask (record { word = get_or ws (i * per_set) 0 }) ≡ row (masks ws) i
unfolding mask masks row reads
get_mask ws i l =
    let k : i < length ws / per_set = omega (arith, length-groups per_set (length ws / per_set) ws) in
    ap number (sym (take-reads per_set ws (i * per_set) (omega arith))) ∙ sym (get_groups per_set (length ws / per_set) i ws k)

pub put_masks : (ws : List ℕ) (i : ℕ) (s : Set) → i < length (masks ws) → masks (set ws (i * per_set) s.word) ≡ set (masks ws) i (mask s)
unfolding mask masks
put_masks ws i s l =
    let k : i < length ws / per_set = omega (arith, length-groups per_set (length ws / per_set) ws) in
    let c : length ws / per_set ≡ i + suc (length ws / per_set - suc i) = omega arith in
    ap (λ (n : ℕ). groups per_set (n / per_set) (set ws (i * per_set) s.word)) (length-sets ws (i * per_set) (words s))
    ∙ subst (λ (n : ℕ). groups per_set n (set ws (i * per_set) s.word) ≡ set (groups per_set n ws) i (number (words s))) (sym c)
    (put_groups per_set i (length ws / per_set - suc i) ws (words s) refl (omega arith))
