-- Laws of sheets that are read: each is written back byte by byte.
use Prim.Native.Nat.{ℕ, ◌+◌, ◌≤◌}
use Rattle.std.proofs.Common.{arith, add-one, sym, ◌∙◌, length-drop, drop_of_length-le, length-take-le}
use Rattle.std.proofs.Math.Path.{◌≡◌, ap, ap₂}
use Rattle.std.specs.Prelude.{T, length, take, drop}
use Rattle.std.proofs.Math.Bool.{true, false}
use mathlib.Core.List.{List, ◌∷◌, ◌++◌, append-nil}
use Rattle.sets.specs.Ranges.{all}
use Rattle.sets.specs.RangeLaws.{true_holds, all_part}
use Rattle.judging.specs.Request.{request}
use Rattle.judging.specs.Refusal.{answered}
use Rattle.sheets.specs.Digits.{is_digit, digits, number}
use Rattle.sheets.specs.Lines.{line, lines, is_line, field, numbers}
use Rattle.sheets.specs.Sheet.{heading_digits, row_digits, row_length, heading_text, sheet_text}
use Rattle.sheets.specs.Sheet.{vertex_field, body, silent_in, rows_in, request_in, Sheet, sheet_of}
use Rattle.sheets.specs.Sheet.{lines_cause}
use Rattle.sheets.specs.Sheet.{reading}
use Rattle.sheets.specs.LineLaws.{right_digits, right_fits, numbers-length}
use Rattle.sheets.specs.SheetLaws.{lines_clear, passed_line, passed_lines, passed_heading, passed_body, read_passed, read_answer}
use Rattle.sheets.specs.HeadingLaws.{three_fields}
use Rattle.sheets.specs.Examples.{ring, ring_rows, examples_read}
use Rattle.sheets.proofs.NumberLaws.{digits_number}
use Rattle.sheets.proofs.RightLaws.{right_line, right_lines_lem}

-- ---- fields

-- the number in w digits is written back as these digits
field_back : (at w : ℕ) (t : List ℕ) → at + w ≤ length t → T (all is_digit (take w (drop at t))) → digits w (field at w t) ≡ take w (drop at t)
unfolding field
field_back at w t l d =
    ap (λ (n : ℕ). digits n (number (take w (drop at t)))) (sym (length-take-le w (drop at t) (omega (arith, length-drop at t))))
    ∙ digits_number (take w (drop at t)) d

heading_back : (t : List ℕ) → is_line heading_digits t ≡ true → t ≡ heading_text (vertex_field t) (request_in t) ++ body t
unfolding heading_text
heading_back t e =
    right_line 6 t r
    ∙ ap (λ (l : List ℕ). line l ++ drop 7 t)
    (three_fields t ∙ sym (ap₂ ◌++◌ (back 0 (omega arith)) (ap₂ ◌++◌ (back 2 (omega arith)) (back 4 (omega arith)))))
  where
    r : T (is_line heading_digits t)
    r = true_holds (is_line heading_digits t) e

    back : (at : ℕ) → at + 2 ≤ 6 → digits 2 (field at 2 t) ≡ take 2 (drop at t)
    back at l = field_back at 2 t (omega (arith, right_fits 6 t r)) (all_part is_digit at 2 6 t l (right_digits 6 t r))

-- ---- the lines below line 1

module _ (m : ℕ) (t : List ℕ) where
  lines_back : (lines_cause m t).holds ≡ false → t ≡ lines row_digits (numbers row_digits m t)
  lines_back e =
      let r = lines_clear m t e in
      right_lines_lem row_digits m t r.0
      ∙ ap (λ (l : List ℕ). lines row_digits (numbers row_digits m t) ++ l) (drop_of_length-le t r.1)
      ∙ append-nil (lines row_digits (numbers row_digits m t))

-- the first of them is line 2, and the others are the rows
body_back : (n : ℕ) (t : List ℕ) → (lines_cause (n + 1) t).holds ≡ false → t ≡ lines row_digits (silent_in t ∷ rows_in n t)
unfolding numbers field
body_back n t e = lines_back (n + 1) t e ∙ ap (λ (m : ℕ). lines row_digits (numbers row_digits m t)) (add-one n)

-- ---- the whole sheet

module _ (t : List ℕ) (room : ℕ) {v : ℕ} {s : Sheet} (e : reading t room ≡ answered v s) where
  pub read_back : t ≡ sheet_text s.rows s.request
  unfolding sheet_text sheet_of
  read_back =
      let n = vertex_field t in
      let g = rows_in n (body t) in
      heading_back t (passed_line t (passed_heading t (read_passed t room e)))
      ∙ ap (λ (l : List ℕ). heading_text n (request_in t) ++ l) (body_back n (body t) (passed_lines n (body t) (passed_body t (read_passed t room e))))
      ∙ ap (λ (m : ℕ). heading_text m (request_in t) ++ lines row_digits (silent_in (body t) ∷ g)) (sym (numbers-length row_digits n (drop row_length (body t))))
      ∙ ap (λ (x : Sheet). sheet_text x.rows x.request) (sym (read_answer t room e))

-- the example of specs/
pub ring_written : ring ≡ sheet_text ring_rows (request 2 3 0)
ring_written = read_back ring 5 examples_read.0
