-- The lines below line 1 as the code judges them and stores their rows, and the definitions of them.
use Rattle.std.specs.Prelude.{ℕ, ◌+◌, ◌-◌, ◌*◌, ◌≤◌, ◌<◌, ◌≡◌, true, List, ◌∷◌, length, take, drop, Some}
use borrow.Author.Rules.{part_to_end}
use Rattle.std.proofs.Common.{arith, ap₂, ◌∙◌, subst, lt-ltb, le-ltb}
use Rattle.std.proofs.Math.Path.{sym, ap}
use Rattle.std.proofs.Math.Bool.{◌||◌}
use Rattle.std.proofs.lemmas.List.{length-replicate}
use Rattle.sets.specs.Words.{per_set, width, masks}
use Rattle.sets.specs.Words.Groups.{blank}
use Rattle.sets.specs.Words.Masks.{count_masks}
use Rattle.judging.specs.Refusal.{Cause, refused, first_cause}
use Rattle.judging.specs.Calls.{passed}
use Rattle.judging.specs.RefusalLaws.{first_holds, first_skips}
use Rattle.sheets.specs.Lines.{is_line, field, right_lines}
use Rattle.sheets.specs.Sheet.{row_digits, row_length, lines_cause, body_causes}
use Rattle.sheets.specs.Setting.{ReadsLine}
use Rattle.sheets.specs.LineLaws.{right_most}
use Rattle.sheets.specs.SheetLaws.{lines_clear, clear_lines, wrong_line, passed_lines}

-- a is how many of m lines the code found right
module _ (m : ℕ) (t : List ℕ) {a : ℕ} (e : a ≡ right_lines row_digits m t) where
  pub line_refused : (cs : List Cause) → a < m → refused 8 (a + 2) ≡ first_cause (lines_cause m t ∷ cs) passed
  unfolding lines_cause
  line_refused cs l =
      ap (λ (b : ℕ). refused 8 (b + 2)) e ∙ sym (first_holds (lines_cause m t) cs passed (wrong_line m t (omega arith)))

  pub all_right : m ≤ a → right_lines row_digits m t ≡ m
  all_right l = omega (arith, right_most row_digits m t)

  pub after_refused : (cs : List Cause) → m ≤ a → m * row_length < length t → refused 8 (m + 2) ≡ first_cause (lines_cause m t ∷ cs) passed
  unfolding lines_cause
  after_refused cs l h =
      ap (λ (b : ℕ). refused 8 (b + 2)) (sym (all_right l))
      ∙ sym (first_holds (lines_cause m t) cs passed
      (ap₂ ◌||◌ (le-ltb (right_lines row_digits m t) m (omega (arith, all_right l))) (lt-ltb (m * row_length) (length t) h)))

  pub lines_accepted : (cs : List Cause) → m ≤ a → length t ≤ m * row_length → first_cause cs passed ≡ first_cause (lines_cause m t ∷ cs) passed
  lines_accepted cs l h = sym (first_skips (lines_cause m t) cs passed (clear_lines m t (all_right l) h))

-- a body that passed has right lines
pub passed_right : (n : ℕ) (t : List ℕ) → first_cause (body_causes n t) passed ≡ passed → right_lines row_digits (n + 1) t ≡ n + 1
passed_right n t e = (lines_clear (n + 1) t (passed_lines n t e)).0

-- ---- one line as the code takes it: what is read of the text from its first byte on

pub set_read : (a : ℕ) (t : List ℕ) {x : ℕ} → ReadsLine row_digits (take (length t - a * row_length) (drop (a * row_length) t)) (Some x)
    → (x ≡ field (a * row_length) row_digits t) × (is_line row_digits (drop (a * row_length) t) ≡ true)
unfolding field
set_read a t {x} h = subst (λ (u : List ℕ). ReadsLine row_digits u (Some x)) (part_to_end t (a * row_length)) h

-- a table as long as a blank one has a row for each vertex
pub table_rows : (ws : List ℕ) → length ws ≡ length (blank (width * per_set)) → length (masks ws) ≡ width
table_rows ws e = omega (arith, e, count_masks ws, length-replicate {A = ℕ} (width * per_set) 0)
