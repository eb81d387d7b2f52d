-- Laws of numbers in digits: a number is that of its digits, whatever how many they are, and digits are those of their number.
use Rattle.std.specs.Prelude.{ℕ, zero, suc, ◌/◌, ◌%◌, ◌^◌, ◌<◌, ◌≡◌, List, [], ◌∷◌, T, length}
use Rattle.std.proofs.Common.{zero-add, arith, ◌∙◌}
use Rattle.std.proofs.Math.Nat.{pow-suc}
use Rattle.std.proofs.Math.Path.{sym, ap}
use Rattle.std.proofs.Math.Arith.{lt-one}
use Rattle.sets.specs.Ranges.{all}
use Rattle.sheets.specs.Digits.{no_digit, is_digit, digit_byte, digits, number_from, number}
use Rattle.sheets.specs.DigitLaws.{value_byte, number_from-append, digits_from}

pub number_digits_lem : (w x : ℕ) → x < 16 ^ w → number (digits w x) ≡ x
unfolding number digits number_from
number_digits_lem zero x h = sym (lt-one h)
number_digits_lem (suc w) x h =
    let d = x % 16 in
    let low : x % 16 < no_digit = omega arith in
    number_from-append 0 (digits w (x / 16)) (digit_byte d ∷ [])
    ∙ omega (arith, number_digits_lem w (x / 16) (omega (arith, pow-suc 16 w)), value_byte (x % 16) low)

pub digits_number : (bs : List ℕ) → T (all is_digit bs) → digits (length bs) (number bs) ≡ bs
unfolding number digits
digits_number bs t = ap (λ (n : ℕ). digits n (number_from 0 bs)) (sym (zero-add (length bs))) ∙ digits_from 0 0 bs t
