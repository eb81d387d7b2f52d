-- Laws of sheets: what is known of a text that passed as one and of a request that did, and how long line 1 is.
use Prim.Native.Nat.{ℕ, ◌+◌, ◌*◌, ◌≤◌, ◌<◌}
use Rattle.std.proofs.Common.{arith, ◌∙◌, length-append}
use Rattle.std.proofs.Math.Path.{◌≡◌, refl, ap, ap₂}
use Rattle.std.specs.Prelude.{Bool, length}
use Rattle.std.proofs.Math.Bool.{true, false, ◌||◌}
use mathlib.Core.List.{List, [], ◌∷◌, ◌++◌}
use Rattle.std.proofs.Math.Dec.{ltb}
use borrow.Author.Tests.{ltb-false, lt-ltb, le-ltb, not-false}
use Rattle.judging.specs.Request.{Request}
use Rattle.judging.specs.Refusal.{answered, Cause, first_cause}
use Rattle.judging.specs.Calls.{passed, request_check}
use Rattle.judging.specs.RefusalLaws.{answered_passed, answered_value, answered_found}
use Rattle.judging.specs.RefusalLaws.{passed_head, passed_tail, passed_front, passed_back}
use Rattle.sheets.specs.Digits.{digits}
use Rattle.sheets.specs.Lines.{is_line, right_lines}
use Rattle.sheets.specs.Sheet.{heading_digits, row_digits, row_length, sheet_length, heading_text}
use Rattle.sheets.specs.Sheet.{vertex_field, body, Sheet, sheet_of}
use Rattle.sheets.specs.Sheet.{heading_cause, lines_cause, isolated_cause, room_cause, field_causes, heading_causes, set_causes, body_causes, sheet_causes}
use Rattle.sheets.specs.Sheet.{reading, sheet_check, writing}
use Rattle.sheets.specs.DigitLaws.{digits-length}
use Rattle.sheets.specs.LineLaws.{line_length_lem, right_most}

-- ---- the lines below line 1

-- m lines that are right with nothing after them
module _ (m : ℕ) (t : List ℕ) where
  pub lines_clear : (lines_cause m t).holds ≡ false → (right_lines row_digits m t ≡ m) × (length t ≤ m * row_length)
  unfolding lines_cause
  lines_clear e = go (ltb (right_lines row_digits m t) m) (ltb (m * row_length) (length t)) refl refl e
    where
      go : (a b : Bool) → ltb (right_lines row_digits m t) m ≡ a → ltb (m * row_length) (length t) ≡ b → (a || b) ≡ false
          → (right_lines row_digits m t ≡ m) × (length t ≤ m * row_length)
      go true b p q e = let z : ◌≡◌ {A = ℕ} 0 1 = cc in absurd (omega arith)
      go false b p q e =
          (omega (arith, ltb-false (right_lines row_digits m t) m p, right_most row_digits m t), ltb-false (m * row_length) (length t) (q ∙ e))

  pub clear_lines : right_lines row_digits m t ≡ m → length t ≤ m * row_length → (lines_cause m t).holds ≡ false
  unfolding lines_cause
  clear_lines e l = ap₂ ◌||◌ (le-ltb (right_lines row_digits m t) m (omega arith)) (le-ltb (m * row_length) (length t) l)

  -- one of them is wrong
  pub wrong_line : right_lines row_digits m t < m → (lines_cause m t).holds ≡ true
  unfolding lines_cause
  wrong_line l = ap (λ (b : Bool). b || ltb (m * row_length) (length t)) (lt-ltb (right_lines row_digits m t) m l)

-- ---- what passes: line 1 by its layout and then by its fields, what is below it by its lines, and then by the silent set and the rows

module _ (t : List ℕ) (e : first_cause (heading_causes t) passed ≡ passed) where
  pub passed_line : is_line heading_digits t ≡ true
  unfolding heading_causes heading_cause
  passed_line = not-false (is_line heading_digits t) (passed_head (heading_cause t) (field_causes t) e)

  pub passed_fields : first_cause (field_causes t) passed ≡ passed
  unfolding heading_causes
  passed_fields = passed_tail (heading_cause t) (field_causes t) e

module _ (n : ℕ) (t : List ℕ) (e : first_cause (body_causes n t) passed ≡ passed) where
  pub passed_lines : (lines_cause (n + 1) t).holds ≡ false
  unfolding body_causes
  passed_lines = passed_head (lines_cause (n + 1) t) (set_causes n t) e

  pub passed_sets : first_cause (set_causes n t) passed ≡ passed
  unfolding body_causes
  passed_sets = passed_tail (lines_cause (n + 1) t) (set_causes n t) e

module _ (t : List ℕ) (e : first_cause (sheet_causes t) passed ≡ passed) where
  pub passed_heading : first_cause (heading_causes t) passed ≡ passed
  unfolding sheet_causes
  passed_heading = passed_front (heading_causes t) (body_causes (vertex_field t) (body t)) e

  pub passed_body : first_cause (body_causes (vertex_field t) (body t)) passed ≡ passed
  unfolding sheet_causes
  passed_body = passed_back (heading_causes t) (body_causes (vertex_field t) (body t)) e

-- of a text that is read none of the causes holds, and it says what is answered
module _ (t : List ℕ) (room : ℕ) {v : ℕ} {s : Sheet} (e : reading t room ≡ answered v s) where
  abbrev causes : List Cause
  causes = sheet_causes t ++ room_cause room (vertex_field t) ∷ []

  pub read_passed : first_cause (sheet_causes t) passed ≡ passed
  unfolding reading
  read_passed = passed_front (sheet_causes t) (room_cause room (vertex_field t) ∷ []) (answered_passed causes 0 v (sheet_of t) s e)

  pub read_value : v ≡ 0
  unfolding reading
  read_value = answered_value causes 0 (sheet_of t) e

  pub read_answer : s ≡ sheet_of t
  unfolding reading
  read_answer = answered_found causes 0 (sheet_of t) e

-- ---- what is written

-- what stands in line 1
abbrev pub fields_text : ℕ → Request → List ℕ
fields_text n ask = digits 2 n ++ (digits 2 ask.slack ++ digits 2 ask.floor)

pub fields_length : (n : ℕ) (ask : Request) → length (fields_text n ask) ≡ 6
fields_length n ask = simp (length-append, digits-length)

pub heading_length_lem : (n : ℕ) (ask : Request) → length (heading_text n ask) ≡ 7
unfolding heading_text
heading_length_lem n ask = omega (arith, line_length_lem (fields_text n ask), fields_length n ask)

-- what is written passed: the request, and 14
module _ (g : List ℕ) (ask : Request) (e : first_cause (sheet_check g ask) passed ≡ passed) where
  pub passed_request : first_cause (request_check g ask) passed ≡ passed
  unfolding sheet_check
  passed_request = passed_front (request_check g ask) (isolated_cause g ∷ []) e

  pub passed_isolated : (isolated_cause g).holds ≡ false
  unfolding sheet_check
  passed_isolated = passed_head _ _ (passed_back (request_check g ask) (isolated_cause g ∷ []) e)

pub written_check : (g : List ℕ) (ask : Request) (bytes v : ℕ) → writing g ask bytes ≡ answered v tt → first_cause (sheet_check g ask) passed ≡ passed
unfolding writing
written_check g ask bytes v e =
    let needed = room_cause bytes (sheet_length (length g)) ∷ [] in
    passed_front (sheet_check g ask) needed (answered_passed (sheet_check g ask ++ needed) (sheet_length (length g)) v tt tt e)
