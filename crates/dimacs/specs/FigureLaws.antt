-- Laws of figures: a number that is capped at each digit is the number capped, so that a figure of any length is judged right. The record says what the
-- loop over digits knows at each turn.
use Rattle.std.specs.Prelude.{ℕ, suc, ◌+◌, ◌-◌, ◌*◌, ◌≤◌, ◌<◌, ◌≡◌, refl, Bool, true, false, ◌&&◌, ◌||◌, leb, length, get_or, drop, ltb, None, Some}
use Rattle.std.proofs.Common.{le_refl, arith, add-one, ◌∙◌, le-leb, lt-ltb, ltb-true, eq-eqb, ne_eqb, drop_of_length-le, drop-cons}
use Rattle.std.proofs.Math.Decide.{dec_le, dec_lt}
use Rattle.std.proofs.Math.Path.{sym, ap, ap₂}
use Rattle.std.proofs.Math.Bool.{not, cond}
use mathlib.Core.List.{List, [], ◌∷◌}
use Rattle.std.proofs.Math.Dec.{eqb}
use Rattle.std.proofs.lemmas.Option.{cond_some}
use Rattle.sets.specs.Ranges.{all}
use Rattle.sets.specs.RangeLaws.{all_next}
use Rattle.sheets.specs.DigitLaws.{between_inside, between_below, between_above}
use Rattle.dimacs.specs.Figures.{zero_byte, no_decimal, decimal_value, is_decimal, number_from, number, unpadded, is_figure}
use Rattle.dimacs.specs.Setting.{above, capped, digit_value, digits_value, figure_value}

-- ---- a value that is there where a test holds

pub none_cond : {A : Type 0} (b : Bool) (x : A) → None ≡ cond b (Some x) None → b ≡ false
none_cond true x e = cc
none_cond false x e = refl

pub some_cond : {A : Type 0} (b : Bool) (x y : A) → Some y ≡ cond b (Some x) None → (b ≡ true) × (y ≡ x)
some_cond b x y e = let p = cond_some b x y (sym e) in (p.0, sym p.1)

-- ---- one digit

pub decimal_inside : (b : ℕ) → 48 ≤ b → b ≤ 57 → decimal_value b ≡ b - 48
unfolding decimal_value
decimal_inside b l h = ap (λ (x : Bool). cond x (b - 48) no_decimal) (between_inside 48 57 b l h)

pub decimal_below : (b : ℕ) → b < 48 → decimal_value b ≡ no_decimal
unfolding decimal_value
decimal_below b l = ap (λ (x : Bool). cond x (b - 48) no_decimal) (between_below 48 57 b l)

pub decimal_above : (b : ℕ) → 57 < b → decimal_value b ≡ no_decimal
unfolding decimal_value
decimal_above b h = ap (λ (x : Bool). cond x (b - 48) no_decimal) (between_above 48 57 b h)

module _ (b : ℕ) where
  -- by the value
  digit_by : (d : ℕ) → decimal_value b ≡ d → digit_value b ≡ cond (ltb d no_decimal) (Some d) None
  unfolding digit_value is_decimal
  digit_by d e = ap (λ (x : ℕ). cond (ltb x no_decimal) (Some x) None) e

  pub digit_inside : 48 ≤ b → b ≤ 57 → Some (b - 48) ≡ digit_value b
  digit_inside l h =
      sym (digit_by (b - 48) (decimal_inside b l h) ∙ ap (λ (x : Bool). cond x (Some (b - 48)) None) (lt-ltb (b - 48) no_decimal (omega arith)))

  pub digit_outside : decimal_value b ≡ no_decimal → None ≡ digit_value b
  digit_outside e = sym (digit_by no_decimal e)

  -- what the code is told of a digit
  digit_none : None ≡ digit_value b → is_decimal b ≡ false
  unfolding digit_value
  digit_none e = none_cond (is_decimal b) _ e

  pub digit_some : {d : ℕ} → Some d ≡ digit_value b → (is_decimal b ≡ true) × (d ≡ decimal_value b)
  unfolding digit_value
  digit_some e = some_cond (is_decimal b) _ _ e

  pub digit_small : {d : ℕ} → Some d ≡ digit_value b → d < no_decimal
  unfolding is_decimal
  digit_small e = omega (arith, (digit_some e).1, ltb-true (decimal_value b) no_decimal (digit_some e).0)

-- ---- capped numbers

number_grows : (x : ℕ) (bs : List ℕ) → x ≤ number_from x bs
unfolding number_from
number_grows x [] = le_refl x
number_grows x (b ∷ bs) = omega (arith, number_grows (x * 10 + decimal_value b) bs)

pub capped_from : (x : ℕ) (bs : List ℕ) → capped (number_from (capped x) bs) ≡ capped (number_from x bs)
capped_from x bs = go (dec_le x above)
  where
    go : Dec (x ≤ above) → capped (number_from (capped x) bs) ≡ capped (number_from x bs)
    go (yes l) = let same : capped x ≡ x = omega arith in ap (λ (y : ℕ). capped (number_from y bs)) same
    go (no nl) = omega (arith, number_grows (capped x) bs, number_grows x bs)

-- ---- digits read one after the other: x is the number of the first i, capped

pub record Numbering (t : List ℕ) (i x : ℕ) : Type 0 where
  pub upto : i ≤ length t
  pub low : x ≤ above
  pub digit : all is_decimal t ≡ all is_decimal (drop i t)
  pub value : capped (number t) ≡ capped (number_from x (drop i t))

pub numbering_none : {t : List ℕ} → Numbering t 0 0
unfolding number
numbering_none = record { upto = omega arith; low = omega arith; digit = refl; value = refl }

module _ {t : List ℕ} {i x : ℕ} (h : Numbering t i x) (l : i < length t) where
  next_digit : {b : Bool} → is_decimal (get_or t i 0) ≡ b → all is_decimal t ≡ (b && all is_decimal (drop (i + 1) t))
  next_digit {b} e = h.digit ∙ all_next is_decimal t i l ∙ ap (λ (d : Bool). d && all is_decimal (drop (i + 1) t)) e

  pub numbering_more : {d y : ℕ} → Some d ≡ digit_value (get_or t i 0) → y ≡ capped (x * 10 + d) → Numbering t (i + 1) y
  unfolding number_from
  numbering_more {d} {y} e f =
      let one = digit_some (get_or t i 0) e in
      record {
        upto = omega arith;
        low = omega arith;
        digit = next_digit one.0;
        value =
            h.value ∙ ap (λ (u : List ℕ). capped (number_from x u)) (drop-cons t i 0 l)
            ∙ ap (λ (z : ℕ). capped (number_from (x * 10 + z) (drop (suc i) t))) (sym one.1)
            ∙ sym (capped_from (x * 10 + d) (drop (suc i) t))
            ∙ ap₂ (λ (z j : ℕ). capped (number_from z (drop j t))) (sym f) (sym (add-one i));
      }

  pub numbering_stop : None ≡ digit_value (get_or t i 0) → None ≡ digits_value t
  unfolding digits_value
  numbering_stop e =
      sym (ap (λ (b : Bool). cond b (Some (capped (number t))) None) (next_digit (digit_none (get_or t i 0) e)))

pub numbering_all : {t : List ℕ} {i x : ℕ} → Numbering t i x → length t ≤ i → Some x ≡ digits_value t
unfolding digits_value all number_from
numbering_all {t} {i} {x} h l =
    let none = drop_of_length-le t l in
    let value : capped (number t) ≡ x = h.value ∙ ap (λ (u : List ℕ). capped (number_from x u)) none ∙ omega (arith, h.low) in
    sym (ap₂ (λ (b : Bool) (y : ℕ). cond b (Some y) None) (h.digit ∙ ap (all is_decimal) none) value)

-- ---- a figure by the digits' number

-- by whether it is unpadded
by_padding : (t : List ℕ) (b : Bool) → unpadded t ≡ b → figure_value t ≡ cond b (digits_value t) None
unfolding figure_value is_figure digits_value
by_padding t true e = ap (λ (b : Bool). cond (b && all is_decimal t) (Some (capped (number t))) None) e
by_padding t false e = ap (λ (b : Bool). cond (b && all is_decimal t) (Some (capped (number t))) None) e

pub figure_empty : (t : List ℕ) → length t ≡ 0 → None ≡ figure_value t
unfolding unpadded
figure_empty t e = sym (by_padding t _ (ap (λ (n : ℕ). eqb n 1 || (leb 2 n && not (eqb (get_or t 0 0) zero_byte))) e))

-- by the first byte b and the others
module _ {t u : List ℕ} {b : ℕ} (q : t ≡ b ∷ u) where
  pub figure_one : length u ≡ 0 → digits_value t ≡ figure_value t
  unfolding unpadded
  figure_one e =
      let one : length t ≡ 1 = omega (arith, ap length q) in
      sym (by_padding t _ (ap (λ (n : ℕ). eqb n 1 || (leb 2 n && not (eqb (get_or t 0 0) zero_byte))) one))

  several : 0 < length u → unpadded t ≡ not (eqb b zero_byte)
  unfolding unpadded
  several l =
      ap₂ (λ (a c : Bool). a || (c && not (eqb (get_or t 0 0) zero_byte)))
      (ne_eqb (length t) 1 (λ e. omega (arith, ap length q))) (le-leb 2 (length t) (omega (arith, ap length q)))
      ∙ ap (λ (s : List ℕ). not (eqb (get_or s 0 0) zero_byte)) q

  pub figure_padded : 0 < length u → b ≡ zero_byte → None ≡ figure_value t
  figure_padded l e = sym (by_padding t _ (several l ∙ ap not (eq-eqb b zero_byte e)))

  pub figure_other : (b ≡ zero_byte → ⊥) → digits_value t ≡ figure_value t
  figure_other f = go (dec_lt 0 (length u))
    where
      go : Dec (0 < length u) → digits_value t ≡ figure_value t
      go (yes l) = sym (by_padding t _ (several l ∙ ap not (ne_eqb b zero_byte f)))
      go (no nl) = figure_one (omega arith)

module _ (t : List ℕ) where
  -- what the code is told of a figure
  pub figure_none : None ≡ figure_value t → is_figure t ≡ false
  unfolding figure_value
  figure_none e = none_cond (is_figure t) _ e

  pub figure_some : {x : ℕ} → Some x ≡ figure_value t → (is_figure t ≡ true) × (x ≡ capped (number t))
  unfolding figure_value
  figure_some e = some_cond (is_figure t) _ _ e
