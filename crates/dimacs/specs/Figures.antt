-- Figures (document 02, card 8): numbers in decimal digits, highest first, without leading zeros.
--
--   decimal_value b   the value of the byte b as a decimal digit, no_decimal where it is none
--   is_decimal b      b is a decimal digit
--   number bs        the number that the digits bs are, of any length
--   is_figure bs      the bytes bs are a figure: digits, one at least, and the first of several is no 0
use Rattle.std.specs.Prelude.{ℕ, ◌+◌, ◌-◌, ◌*◌, Bool, not, ◌&&◌, ◌||◌, cond, List, [], ◌∷◌, eqb, leb, ltb, length, get_or}
use Rattle.sets.specs.Ranges.{all}
use Rattle.sheets.specs.Digits.{between}

-- the byte of 0
abbrev pub zero_byte : ℕ
zero_byte = 48

-- no digit has this value
abbrev pub no_decimal : ℕ
no_decimal = 10

unfoldable pub decimal_value : ℕ → ℕ
decimal_value b = cond (between 48 57 b) (b - 48) no_decimal

unfoldable pub is_decimal : ℕ → Bool
is_decimal b = ltb (decimal_value b) no_decimal

-- the number that goes on from the digits before, x, with the digits bs
unfoldable pub number_from : ℕ → List ℕ → ℕ
number_from x [] = x
number_from x (b ∷ bs) = number_from (x * 10 + decimal_value b) bs

unfoldable pub number : List ℕ → ℕ
number bs = number_from 0 bs

-- one digit alone, or several that do not begin with 0
unfoldable pub unpadded : List ℕ → Bool
unpadded bs = eqb (length bs) 1 || (leb 2 (length bs) && not (eqb (get_or bs 0 0) zero_byte))

unfoldable pub is_figure : List ℕ → Bool
is_figure bs = unpadded bs && all is_decimal bs
