-- What the program prints (document 01, "Sheets"): a list of masks, or a refusal.
--
--   decimals w x          the number x in w decimal digits, highest first
--   list_text ms           m, the number of the masks ms, and then each mask: a line of 16 digits each
--   refusal_text n v       R, the number n as two decimal digits, a blank, the value v as 16 digits, and byte 10
--   reply_text r           the text of the reply r
--   Writes new old out r  r bytes, new, were written to the front of old, which leaves out
use Rattle.std.specs.Prelude.{ℕ, zero, suc, ◌+◌, ◌*◌, ◌/◌, ◌%◌, ◌≡◌, List, [], ◌∷◌, ◌++◌, length}
use Rattle.judging.specs.Refusal.{Reply, refused, answered}
use Rattle.sheets.specs.Digits.{digits}
use Rattle.sheets.specs.Lines.{line, lines}
use Rattle.sheets.specs.Sheet.{row_digits, row_length, over}

-- the byte of R
abbrev pub letter_r : ℕ
letter_r = 82

abbrev pub blank : ℕ
blank = 32

-- the byte of the decimal digit 0
abbrev pub figure_zero : ℕ
figure_zero = 48

-- a refusal's number has as many
abbrev pub number_digits : ℕ
number_digits = 2

unfoldable pub decimals : ℕ → ℕ → List ℕ
decimals zero x = []
decimals (suc w) x = decimals w (x / 10) ++ ((x % 10 + figure_zero) ∷ [])

unfoldable pub list_text : List ℕ → List ℕ
list_text ms = lines row_digits (length ms ∷ ms)

unfoldable pub refusal_text : ℕ → ℕ → List ℕ
refusal_text n v = line (letter_r ∷ (decimals number_digits n ++ (blank ∷ digits row_digits v)))

abbrev pub reply_text : Reply (List ℕ) → List ℕ
reply_text (refused n v) = refusal_text n v
reply_text (answered v ms) = list_text ms

-- ---- how long they are

-- a line for m, and one for each of m masks
abbrev pub list_length : ℕ → ℕ
list_length m = (m + 1) * row_length

abbrev pub refusal_length : ℕ
refusal_length = 1 + number_digits + 1 + row_length

pub record Writes (new old out : List ℕ) (r : ℕ) : Type 0 where
  pub count : r ≡ length new
  pub text : out ≡ over new old
