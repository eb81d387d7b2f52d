-- Laws of digits: a digit and its byte are inverse, and so are a number and its digits, whatever the number of digits (NumberLaws of proofs/). The records at
-- the end say what the loops over digits know at each turn.
use Rattle.std.specs.Prelude.{ℕ, zero, suc, ◌+◌, ◌-◌, ◌*◌, ◌/◌, ◌%◌, ◌^◌, ◌≤◌, ◌<◌, ◌≡◌, refl, Bool, ◌&&◌, cond, List, [], ◌∷◌, ◌++◌, T, leb, length, get_or}
use Rattle.std.specs.Prelude.{set}
use Rattle.std.proofs.Common.{lt_of_lt_of_le, le_refl, zero-lt-suc, mul_assoc, add-zero, add-suc, suc-add, arith, add-one, ◌∙◌, append_assoc, append-nil}
use Rattle.std.proofs.Common.{ltb→lt, lt→ltb, le-leb, lt-ltb, le-ltb, pow-add, length-append, length-set, drop_of_length-le, drop-cons, get_or-set_same}
use Rattle.std.proofs.Common.{drop-set-lt, lt-length-set}
use Rattle.std.proofs.Math.Nat.{pow-le-pow_right, pow-suc}
use Rattle.std.proofs.Math.Decide.{dec_lt, dec_le}
use Rattle.std.proofs.Math.Path.{sym, ap, ap₂, subst}
use Rattle.std.proofs.Math.Bool.{true, false}
use Rattle.std.proofs.lemmas.Bool.{lt-leb}
use Rattle.std.proofs.Math.Arith.{digits_div, digits_mod, le-zero}
use Rattle.std.proofs.Math.ListN.{drop}
use Rattle.std.proofs.Math.Seq.{drop-length}
use Rattle.sets.specs.Words.{word_bits}
use Rattle.sets.specs.Ranges.{all}
use Rattle.sets.specs.RangeLaws.{and_left, and_right, both, all_append, all_next}
use Rattle.sheets.specs.Digits.{no_digit, word_digits, between, digit_value, is_digit, digit_byte, digits, number_from, number}

-- ---- one digit

pub between_inside : (lo hi b : ℕ) → lo ≤ b → b ≤ hi → between lo hi b ≡ true
unfolding between
between_inside lo hi b l h = ap₂ ◌&&◌ (le-leb lo b l) (le-leb b hi h)

pub between_below : (lo hi b : ℕ) → b < lo → between lo hi b ≡ false
unfolding between
between_below lo hi b l = ap (λ (x : Bool). x && leb b hi) (lt-leb lo b l)

pub between_above : (lo hi b : ℕ) → hi < b → between lo hi b ≡ false
unfolding between
between_above lo hi b h = ap (λ (x : Bool). leb lo b && x) (lt-leb b hi h) ∙ never (leb lo b)
  where
    never : (x : Bool) → (x && false) ≡ false
    never true = refl
    never false = refl

-- the value by the two tests
value_by : (b : ℕ) (d l : Bool) → between 48 57 b ≡ d → between 65 70 b ≡ l → digit_value b ≡ cond d (b - 48) (cond l (b - 55) no_digit)
unfolding digit_value
value_by b d l p q = ap₂ (λ (x y : Bool). cond x (b - 48) (cond y (b - 55) no_digit)) p q

pub value_figure : (b : ℕ) → 48 ≤ b → b ≤ 57 → digit_value b ≡ b - 48
value_figure b l h = value_by b true false (between_inside 48 57 b l h) (between_below 65 70 b (omega arith))

pub value_letter : (b : ℕ) → 65 ≤ b → b ≤ 70 → digit_value b ≡ b - 55
value_letter b l h = value_by b false true (between_above 48 57 b (omega arith)) (between_inside 65 70 b l h)

pub value_below : (b : ℕ) → b < 48 → digit_value b ≡ no_digit
value_below b l = value_by b false false (between_below 48 57 b l) (between_below 65 70 b (omega arith))

pub value_amid : (b : ℕ) → 57 < b → b < 65 → digit_value b ≡ no_digit
value_amid b l h = value_by b false false (between_above 48 57 b l) (between_below 65 70 b h)

pub value_above : (b : ℕ) → 70 < b → digit_value b ≡ no_digit
value_above b h = value_by b false false (between_above 48 57 b (omega arith)) (between_above 65 70 b h)

pub digit_below : (b : ℕ) → T (is_digit b) → digit_value b < no_digit
unfolding is_digit
digit_below b t = ltb→lt (digit_value b) no_digit t

pub below_digit : (b : ℕ) → digit_value b < no_digit → T (is_digit b)
unfolding is_digit
below_digit b h = lt→ltb (digit_value b) no_digit h

pub byte_figure : (d : ℕ) → d < 10 → digit_byte d ≡ d + 48
unfolding digit_byte
byte_figure d h = ap (λ (x : Bool). cond x (d + 48) (d + 55)) (lt-ltb d 10 h)

pub byte_letter : (d : ℕ) → 10 ≤ d → digit_byte d ≡ d + 55
unfolding digit_byte
byte_letter d h = ap (λ (x : Bool). cond x (d + 48) (d + 55)) (le-ltb d 10 h)

-- the byte of a digit has its value, and a byte that is a digit is the byte of its value
pub value_byte : (d : ℕ) → d < no_digit → digit_value (digit_byte d) ≡ d
value_byte d h = go (dec_lt d 10)
  where
    go : Dec (d < 10) → digit_value (digit_byte d) ≡ d
    go (yes l) = ap digit_value (byte_figure d l) ∙ omega (arith, value_figure (d + 48) (omega arith) (omega arith))
    go (no nl) = ap digit_value (byte_letter d (omega arith)) ∙ omega (arith, value_letter (d + 55) (omega arith) (omega arith))

pub byte_value : (b : ℕ) → T (is_digit b) → digit_byte (digit_value b) ≡ b
byte_value b t = go (dec_lt b 48) (dec_le b 57) (dec_lt b 65) (dec_le b 70)
  where
    go : Dec (b < 48) → Dec (b ≤ 57) → Dec (b < 65) → Dec (b ≤ 70) → digit_byte (digit_value b) ≡ b
    go (yes p) q r s = absurd (omega (arith, value_below b p, digit_below b t))
    go (no np) (yes q) r s = ap digit_byte (value_figure b (omega arith) q) ∙ omega (arith, byte_figure (b - 48) (omega arith))
    go (no np) (no nq) (yes r) s = absurd (omega (arith, value_amid b (omega arith) r, digit_below b t))
    go (no np) (no nq) (no nr) (yes s) = ap digit_byte (value_letter b (omega arith) s) ∙ omega (arith, byte_letter (b - 55) (omega arith))
    go (no np) (no nq) (no nr) (no ns) = absurd (omega (arith, value_above b (omega arith), digit_below b t))

-- ---- digits in a list

pub digits-length : (w x : ℕ) → length (digits w x) ≡ w
unfolding digits
digits-length zero x = refl
digits-length (suc w) x = omega (arith, length-append (digits w (x / 16)) (digit_byte (x % 16) ∷ []), digits-length w (x / 16))

pub all_digits : (w x : ℕ) → T (all is_digit (digits w x))
unfolding digits all
all_digits zero x = tt
all_digits (suc w) x =
    all_append is_digit (digits w (x / 16)) (digit_byte (x % 16) ∷ []) (all_digits w (x / 16))
    (both (is_digit (digit_byte (x % 16))) true (below_digit (digit_byte (x % 16)) (omega (arith, value_byte (x % 16) (omega arith)))) tt)

-- ---- a number and its digits

pub number_from-append : (x : ℕ) (bs cs : List ℕ) → number_from x (bs ++ cs) ≡ number_from (number_from x bs) cs
unfolding number_from
number_from-append x [] cs = refl
number_from-append x (b ∷ bs) cs = number_from-append (x * 16 + digit_value b) bs cs

-- the last w digits of a number do not show what stands above them
digits_above : (w p x : ℕ) → digits w (p * 16 ^ w + x) ≡ digits w x
unfolding digits
digits_above zero p x = refl
digits_above (suc w) p x =
    let e : p * 16 ^ suc w ≡ p * 16 ^ w * 16 = ap (λ (y : ℕ). p * y) (pow-suc 16 w) ∙ sym (mul_assoc p (16 ^ w) 16) in
    let high : (p * 16 ^ suc w + x) / 16 ≡ p * 16 ^ w + x / 16 = omega (arith, e) in
    let low : (p * 16 ^ suc w + x) % 16 ≡ x % 16 = omega (arith, e) in
    rw (high, low, digits_above w p (x / 16))

pub digits_word : (w q x : ℕ) → w ≤ word_digits → digits w (q * 2 ^ word_bits + x) ≡ digits w x
digits_word w q x l =
    let n = word_digits - w in
    let m : n + w ≡ word_digits = omega arith in
    let e : q * 2 ^ word_bits ≡ q * 16 ^ n * 16 ^ w =
    ap (λ (i : ℕ). q * 16 ^ i) (sym m) ∙ ap (λ (y : ℕ). q * y) (pow-add 16 n w) ∙ sym (mul_assoc q (16 ^ n) (16 ^ w)) in
    rw e (digits_above w (q * 16 ^ n) x)

-- the digits of the number that goes on from x with the digits bs are those of x and then bs
pub digits_from : (w x : ℕ) (bs : List ℕ) → T (all is_digit bs) → digits (w + length bs) (number_from x bs) ≡ digits w x ++ bs
unfolding number_from all digits
digits_from w x [] t = ap (λ (n : ℕ). digits n x) (add-zero w) ∙ sym (append-nil (digits w x))
digits_from w x (b ∷ bs) t =
    let d = digit_below b (and_left (is_digit b) (all is_digit bs) t) in
    ap (λ (n : ℕ). digits n (number_from (x * 16 + digit_value b) bs)) (add-suc w (length bs) ∙ sym (suc-add w (length bs)))
    ∙ digits_from (suc w) (x * 16 + digit_value b) bs (and_right (is_digit b) (all is_digit bs) t)
    ∙ append_assoc (digits w ((x * 16 + digit_value b) / 16)) (digit_byte ((x * 16 + digit_value b) % 16) ∷ []) bs
    ∙ ap₂ (λ (y z : ℕ). digits w y ++ digit_byte z ∷ bs) (digits_div x d) (digits_mod x d)
    ∙ ap (λ (y : ℕ). digits w x ++ y ∷ bs) (byte_value b (and_left (is_digit b) (all is_digit bs) t))

-- ---- are the bytes digits? those before i are

pub record Passing (t : List ℕ) (i : ℕ) : Type 0 where
  pub upto : i ≤ length t
  pub rest : all is_digit t ≡ all is_digit (drop i t)

pub passing_none : {t : List ℕ} → Passing t 0
passing_none = record { upto = omega arith; rest = refl }

module _ {t : List ℕ} {i : ℕ} (h : Passing t i) where
  passing_by : (b : Bool) → i < length t → is_digit (get_or t i 0) ≡ b → all is_digit t ≡ (b && all is_digit (drop (i + 1) t))
  passing_by b l e = h.rest ∙ all_next is_digit t i l ∙ ap (λ (x : Bool). x && all is_digit (drop (i + 1) t)) e

  pub passing_more : i < length t → digit_value (get_or t i 0) < no_digit → Passing t (i + 1)
  unfolding is_digit
  passing_more l d = record { upto = omega arith; rest = passing_by true l (lt-ltb (digit_value (get_or t i 0)) no_digit d) }

  pub passing_stop : i < length t → no_digit ≤ digit_value (get_or t i 0) → false ≡ all is_digit t
  unfolding is_digit
  passing_stop l d = sym (passing_by false l (le-ltb (digit_value (get_or t i 0)) no_digit d))

  pub passing_all : length t ≤ i → true ≡ all is_digit t
  unfolding all
  passing_all l = sym (h.rest ∙ ap (all is_digit) (drop_of_length-le t l))

-- ---- the number that the digits are: x is that of the first i

pub record Numbering (t : List ℕ) (i x : ℕ) : Type 0 where
  pub upto : i ≤ length t
  pub low : x < 16 ^ i
  pub rest : number t ≡ number_from x (drop i t)

pub numbering_none : {t : List ℕ} → Numbering t 0 0
unfolding number
numbering_none = record { upto = omega arith; low = omega arith; rest = refl }

pub numbering_all : {t : List ℕ} {i x : ℕ} → Numbering t i x → length t ≤ i → x ≡ number t
unfolding number_from
numbering_all {t} {i} {x} h l = sym (h.rest ∙ ap (number_from x) (drop_of_length-le t l))

module _ {t : List ℕ} {i x : ℕ} (h : Numbering t i x) (l : i < length t) where
  -- a word has room for one digit more
  pub numbering_fits : length t ≤ word_digits → x < 16 ^ 15
  numbering_fits short = lt_of_lt_of_le h.low (pow-le-pow_right (zero-lt-suc 15) {i = i} {j = 15} (omega arith))

  pub numbering_more : {d : ℕ} → d < no_digit → d ≡ digit_value (get_or t i 0) → Numbering t (i + 1) (x * 16 + d)
  unfolding number_from
  numbering_more {d} f e =
      record {
        upto = omega arith;
        low = subst (λ (n : ℕ). x * 16 + d < 16 ^ n) (sym (add-one i)) (omega (arith, h.low, f, pow-suc 16 i));
        rest =
            h.rest ∙ ap (number_from x) (drop-cons t i 0 l)
            ∙ ap₂ (λ (y n : ℕ). number_from (x * 16 + y) (drop n t)) (sym e) (sym (add-one i));
      }

-- ---- digits written from the last to the first: those of high are still to be written, before position left

pub record Filling (x : ℕ) (t u : List ℕ) (left high : ℕ) : Type 0 where
  pub long : length u ≡ length t
  pub upto : left ≤ length t
  pub text : digits left high ++ drop left u ≡ digits (length t) x

pub filling_none : {x : ℕ} {t : List ℕ} → Filling x t t (length t) x
filling_none {x} {t} =
    record {
      long = refl;
      upto = le_refl (length t);
      text = ap (λ (u : List ℕ). digits (length t) x ++ u) (drop-length t) ∙ append-nil (digits (length t) x);
    }

-- the lowest digit goes to the last place that is left
digit_stored : (l x : ℕ) (t : List ℕ) → l < length t → digits (suc l) x ++ drop (suc l) t ≡ digits l (x / 16) ++ drop l (set t l (digit_byte (x % 16)))
unfolding digits
digit_stored l x t h =
    let b = digit_byte (x % 16) in
    append_assoc (digits l (x / 16)) (digit_byte (x % 16) ∷ []) (drop (suc l) t)
    ∙ ap (λ (u : List ℕ). digits l (x / 16) ++ u)
    (ap₂ ◌∷◌ (sym (get_or-set_same t l b 0 h)) (sym (drop-set-lt (suc l) t l b (le_refl (suc l))))
    ∙ sym (drop-cons (set t l b) l 0 (lt-length-set t l b h)))

module _ {x : ℕ} {t u : List ℕ} {left high : ℕ} (h : Filling x t u left high) where
  pub filling_more : {b : ℕ} → 0 < left → b ≡ digit_byte (high % 16) → Filling x t (set u (left - 1) b) (left - 1) (high / 16)
  filling_more {b} p e =
      let last : left ≡ suc (left - 1) = omega arith in
      record {
        long = length-set u (left - 1) b ∙ h.long;
        upto = omega arith;
        text =
            ap (λ (y : ℕ). digits (left - 1) (high / 16) ++ drop (left - 1) (set u (left - 1) y)) e
            ∙ sym (digit_stored (left - 1) high u (omega arith))
            ∙ sym (ap (λ (n : ℕ). digits n high ++ drop n u) last)
            ∙ h.text;
      }

  pub filling_all : left ≤ 0 → u ≡ digits (length t) x
  unfolding digits
  filling_all l = sym (ap (λ (n : ℕ). digits n high ++ drop n u) (le-zero l)) ∙ h.text
