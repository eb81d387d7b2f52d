-- Lines of w digits (document 01, "Sheets"): how a text of them is laid out, and how any bytes are read as one. The text t of a call is what is
-- still to be read.
--
--   line bs           the bytes bs as a line: byte 10 ends it
--   lines w xs        the numbers xs, each on a line of w digits
--   is_line w t        t begins with a line of w digits
--   field at w t      the number in the w digits of t from position at on
--   right_lines w n t  of the n lines of w digits that t should begin with, how many stand before the first wrong one
--   numbers w n t     the numbers in the first n lines of w digits of t
use Rattle.std.specs.Prelude.{ℕ, zero, suc, Bool, ◌&&◌, cond, List, [], ◌∷◌, ◌++◌, eqb, get_or, take, drop}
use Rattle.sets.specs.Ranges.{all}
use Rattle.sheets.specs.Digits.{is_digit, digits, number}

abbrev pub newline : ℕ
newline = 10

unfoldable pub line : List ℕ → List ℕ
line bs = bs ++ (newline ∷ [])

unfoldable pub lines : ℕ → List ℕ → List ℕ
lines w [] = []
lines w (x ∷ xs) = line (digits w x) ++ lines w xs

-- a line cut short or missing is none
unfoldable pub is_line : ℕ → List ℕ → Bool
is_line w t = all is_digit (take w t) && eqb (get_or t w 0) newline

unfoldable pub field : ℕ → ℕ → List ℕ → ℕ
field at w t = number (take w (drop at t))

unfoldable pub right_lines : ℕ → ℕ → List ℕ → ℕ
right_lines w zero t = 0
right_lines w (suc n) t = cond (is_line w t) (suc (right_lines w n (drop (suc w) t))) 0

unfoldable pub numbers : ℕ → ℕ → List ℕ → List ℕ
numbers w zero t = []
numbers w (suc n) t = number (take w t) ∷ numbers w n (drop (suc w) t)
