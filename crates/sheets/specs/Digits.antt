-- Hexadecimal digits, capitals for A to F, and numbers in them, highest digit first (document 01, "Sheets").
--
--   digit_value b      the value of the byte b as a digit, no_digit where it is none
--   is_digit b         b is a digit
--   digit_byte d       the byte of the digit of value d
--   digits w x        the number x in w digits, highest first
--   number bs         the number that the digits bs are, highest first
use Rattle.std.specs.Prelude.{ℕ, zero, suc, ◌+◌, ◌-◌, ◌*◌, ◌/◌, ◌%◌, Bool, ◌&&◌, cond, List, [], ◌∷◌, ◌++◌, leb, ltb}

-- no digit has this value
abbrev pub no_digit : ℕ
no_digit = 16

-- a word has room for as many
abbrev pub word_digits : ℕ
word_digits = 16

-- b is one of the bytes lo to hi
unfoldable pub between : ℕ → ℕ → ℕ → Bool
between lo hi b = leb lo b && leb b hi

-- 48 to 57 are 0 to 9, and 65 to 70 are A to F
unfoldable pub digit_value : ℕ → ℕ
digit_value b = cond (between 48 57 b) (b - 48) (cond (between 65 70 b) (b - 55) no_digit)

unfoldable pub is_digit : ℕ → Bool
is_digit b = ltb (digit_value b) no_digit

unfoldable pub digit_byte : ℕ → ℕ
digit_byte d = cond (ltb d 10) (d + 48) (d + 55)

unfoldable pub digits : ℕ → ℕ → List ℕ
digits zero x = []
digits (suc w) x = digits w (x / 16) ++ (digit_byte (x % 16) ∷ [])

-- the number that goes on from the digits before, x, with the digits bs
unfoldable pub number_from : ℕ → List ℕ → ℕ
number_from x [] = x
number_from x (b ∷ bs) = number_from (x * 16 + digit_value b) bs

unfoldable pub number : List ℕ → ℕ
number bs = number_from 0 bs
