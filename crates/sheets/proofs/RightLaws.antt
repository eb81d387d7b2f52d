-- Laws of lines that are right: they lie within the text, they are the lines of the numbers read, and lines that were laid out are read as their numbers.
use Prim.Native.Nat.{ℕ, zero, suc, ◌*◌, ◌^◌, ◌≤◌, ◌<◌, suc-le-suc}
use Rattle.std.proofs.Common.{zero-lt-suc, zero-mul, suc-mul, length-drop, ◌∙◌, take-append-drop, drop-cons, length-take-le}
use native.Mathlib.Omega.{arith}
use Rattle.std.specs.Prelude.{◌≡◌, refl, Bool, true, false, cond, take}
use Rattle.std.proofs.Math.Path.{sym, ap, ap₂}
use mathlib.Core.List.{List, [], ◌∷◌, ◌++◌, append_assoc}
use Rattle.std.proofs.Math.Dec.{T}
use Rattle.std.proofs.Math.ListN.{length, get_or, drop}
use Rattle.sets.specs.RangeLaws.{true_holds}
use Rattle.sheets.specs.Digits.{digits, number}
use Rattle.sheets.specs.DigitLaws.{digits-length}
use Rattle.sheets.specs.Lines.{line, lines, is_line, right_lines, numbers}
use Rattle.sheets.specs.LineLaws.{line_first, line-take, line-drop, right_digits, right_end, right_fits, right_split, line_then_lines}
use Rattle.sheets.proofs.NumberLaws.{number_digits_lem, digits_number}

-- ---- one line

module _ (w : ℕ) (t : List ℕ) (r : T (is_line w t)) where
  pub right_length : length (take w t) ≡ w
  right_length = length-take-le w t (omega (arith, right_fits w t r))

  pub right_line : t ≡ line (take w t) ++ drop (suc w) t
  right_line =
      sym (take-append-drop w t)
      ∙ ap (λ (l : List ℕ). take w t ++ l) (drop-cons t w 0 (right_fits w t r) ∙ ap (λ (x : ℕ). x ∷ drop (suc w) t) (right_end w t r))
      ∙ sym (line_first (take w t) (drop (suc w) t))

  pub right_number : line (digits w (number (take w t))) ≡ line (take w t)
  right_number = ap line (ap (λ (n : ℕ). digits n (number (take w t))) (sym right_length) ∙ digits_number (take w t) (right_digits w t r))

-- ---- lines

pub lines-numbers : (w : ℕ) (xs t : List ℕ) → ((a : ℕ) → a < length xs → get_or xs a 0 < 16 ^ w) → numbers w (length xs) (lines w xs ++ t) ≡ xs
unfolding numbers lines
lines-numbers w [] t h = refl
lines-numbers w (x ∷ xs) t h =
    ap (λ (l : List ℕ). number (take w l) ∷ numbers w (length xs) (drop (suc w) l)) (append_assoc (line (digits w x)) (lines w xs) t)
    ∙ ap₂ (λ (y : ℕ) (l : List ℕ). y ∷ numbers w (length xs) l)
    (ap number (line-take w (digits w x) (lines w xs ++ t) (digits-length w x)) ∙ number_digits_lem w x (h 0 (zero-lt-suc (length xs))))
    (line-drop w (digits w x) (lines w xs ++ t) (digits-length w x))
    ∙ ap (λ (l : List ℕ). x ∷ l) (lines-numbers w xs t (λ a l. h (suc a) (suc-le-suc l)))

-- the lines that are right lie within the text
pub right_long : (w n : ℕ) (t : List ℕ) → right_lines w n t * suc w ≤ length t
unfolding right_lines
right_long w zero t = omega (arith, zero-mul (suc w))
right_long w (suc n) t = go (is_line w t) refl (right_long w n (drop (suc w) t))
  where
    go : (b : Bool) → is_line w t ≡ b → right_lines w n (drop (suc w) t) * suc w ≤ length (drop (suc w) t)
        → cond b (suc (right_lines w n (drop (suc w) t))) 0 * suc w ≤ length t
    go true r h =
        omega (arith, h, length-drop (suc w) t, right_fits w t (true_holds (is_line w t) r), suc-mul (right_lines w n (drop (suc w) t)) (suc w))
    go false r h = omega (arith, zero-mul (suc w))

pub right_lines_lem : (w n : ℕ) (t : List ℕ) → right_lines w n t ≡ n → t ≡ lines w (numbers w n t) ++ drop (n * suc w) t
unfolding numbers lines
right_lines_lem w zero t e = ap (λ (m : ℕ). drop m t) (sym (zero-mul (suc w)))
right_lines_lem w (suc n) t e =
    let s = right_split w n t e in
    let first = line (digits w (number (take w t))) in
    let rest = lines w (numbers w n (drop (suc w) t)) in
    right_line w t s.0
    ∙ ap₂ ◌++◌ (sym (right_number w t s.0)) (right_lines_lem w n (drop (suc w) t) s.1)
    ∙ sym (append_assoc first rest (drop (n * suc w) (drop (suc w) t)))
    ∙ ap (λ (l : List ℕ). first ++ rest ++ l) (line_then_lines w n t)
