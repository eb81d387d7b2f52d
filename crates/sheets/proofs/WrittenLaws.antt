-- Laws of sheets that are written: what was written reads back as it was.
use Prim.Native.Nat.{ℕ, zero, suc, ◌+◌, ◌^◌, ◌≤◌, ◌<◌}
use Rattle.std.proofs.Common.{lt_of_lt_of_le, le_of_suc-le-suc, arith, add-one, sym, ◌∙◌, pow_mono, take_at, drop_at, drop-drop}
use Rattle.std.proofs.Math.Nat.{add-zero}
use Rattle.std.proofs.Math.Path.{◌≡◌, ap}
use Rattle.std.specs.Prelude.{T, length, take, drop}
use Rattle.std.proofs.Math.Bool.{true, false}
use mathlib.Core.List.{List, [], ◌∷◌, ◌++◌, append_assoc, append-nil}
use borrow.Author.Tests.{le-ltb}
use Rattle.std.proofs.Math.ListN.{get_or}
use Rattle.sets.specs.Ranges.{all}
use Rattle.sets.specs.RangeLaws.{all_append}
use Rattle.sets.specs.Graph.{row}
use Rattle.judging.specs.Request.{Request, request}
use Rattle.judging.specs.Refusal.{most_vertices, Reply, refused, answered, Cause, first_cause, graph_causes}
use Rattle.judging.specs.Calls.{passed, number_check, floor_check, request_check}
use Rattle.judging.specs.RefusalLaws.{first_append, first_holds, first_skips, first_passed}
use Rattle.judging.specs.RefusalLaws.{passed_front}
use Rattle.judging.specs.RefusalLaws.{vertices_accepted, graph_checked, slack_accepted, slack_graph, floor_slack, floor_accepted}
use Rattle.judging.specs.RefusalLaws.{request_floor, request_graph, silent_accepted}
use Rattle.sheets.specs.Digits.{is_digit, digits, number}
use Rattle.sheets.specs.Lines.{newline, line, lines, is_line, field, right_lines, numbers}
use Rattle.sheets.specs.Sheet.{heading_digits, row_digits, sheet_length, heading_text, sheet_text, former_text}
use Rattle.sheets.specs.Sheet.{vertex_field, slack_field, floor_field, body, silent_in, rows_in, sheet, sheet_of}
use Rattle.sheets.specs.Sheet.{heading_cause, lines_cause, isolated_cause, room_cause, heading_causes, body_causes, sheet_causes}
use Rattle.sheets.specs.Sheet.{reading, sheet_check, writing}
use Rattle.sheets.specs.DigitLaws.{digits-length, all_digits}
use Rattle.sheets.specs.LineLaws.{line-drop, line_right, lines-length, lines_right}
use Rattle.sheets.specs.SheetLaws.{clear_lines, wrong_line, fields_text, fields_length, passed_request, passed_isolated, written_check}
use Rattle.sheets.proofs.NumberLaws.{number_digits_lem}
use Rattle.sheets.proofs.RightLaws.{lines-numbers}

-- ---- line 1

fields_digits : (n : ℕ) (ask : Request) → T (all is_digit (fields_text n ask))
fields_digits n ask =
    let k = digits 2 ask.slack in
    let q = digits 2 ask.floor in
    all_append is_digit (digits 2 n) (k ++ q) (all_digits 2 n) (all_append is_digit k q (all_digits 2 ask.slack) (all_digits 2 ask.floor))

module _ (n : ℕ) (ask : Request) (t : List ℕ) where
  -- from the floor on, and from the slack on
  abbrev from_floor : List ℕ
  from_floor = digits 2 ask.floor ++ newline ∷ t

  abbrev from_slack : List ℕ
  from_slack = digits 2 ask.slack ++ from_floor

  heading_parts : heading_text n ask ++ t ≡ digits 2 n ++ from_slack
  unfolding heading_text line
  heading_parts = simp append_assoc

  after_two : (x : ℕ) (l : List ℕ) → drop 2 (digits 2 x ++ l) ≡ l
  after_two x l = drop_at (digits 2 x) l 2 (digits-length 2 x)

  first_two : (x : ℕ) (l : List ℕ) → x < 256 → number (take 2 (digits 2 x ++ l)) ≡ x
  first_two x l h = ap number (take_at (digits 2 x) l 2 (digits-length 2 x)) ∙ number_digits_lem 2 x h

  heading_from_slack : drop 2 (heading_text n ask ++ t) ≡ from_slack
  heading_from_slack = ap (drop 2) heading_parts ∙ after_two n from_slack

  heading_from_floor : drop 4 (heading_text n ask ++ t) ≡ from_floor
  heading_from_floor = sym (drop-drop 2 2 (heading_text n ask ++ t)) ∙ ap (drop 2) heading_from_slack ∙ after_two ask.slack from_floor

  pub vertex_field_lem : n < 256 → vertex_field (heading_text n ask ++ t) ≡ n
  unfolding field
  vertex_field_lem h = ap (λ (l : List ℕ). number (take 2 l)) heading_parts ∙ first_two n from_slack h

  pub slack_field_lem : ask.slack < 256 → slack_field (heading_text n ask ++ t) ≡ ask.slack
  unfolding field
  slack_field_lem h = ap (λ (l : List ℕ). number (take 2 l)) heading_from_slack ∙ first_two ask.slack from_floor h

  pub floor_field_lem : ask.floor < 256 → floor_field (heading_text n ask ++ t) ≡ ask.floor
  unfolding field
  floor_field_lem h = ap (λ (l : List ℕ). number (take 2 l)) heading_from_floor ∙ first_two ask.floor (newline ∷ t) h

  pub heading_right : is_line heading_digits (heading_text n ask ++ t) ≡ true
  unfolding heading_text
  heading_right = line_right 6 (fields_text n ask) t (fields_length n ask) (fields_digits n ask)

  pub heading-body : body (heading_text n ask ++ t) ≡ t
  unfolding heading_text
  heading-body = line-drop 6 (fields_text n ask) t (fields_length n ask)

  -- the answer, once line 1 is right and says n, k and q
  reading_by : (room : ℕ) → n < 256 → ask.slack < 256 → ask.floor < 256
      → reading (heading_text n ask ++ t) room
      ≡ first_cause (number_check n ask.slack ask.floor)
      (first_cause (body_causes n t ++ room_cause room n ∷ []) (answered 0 (sheet (rows_in n t) (request ask.slack ask.floor (silent_in t)))))
  unfolding reading sheet_causes heading_causes heading_cause number_check sheet_of first_cause
  reading_by room hn hk hq = rw (heading_right, vertex_field_lem hn, slack_field_lem hk, floor_field_lem hq, heading-body)

-- what is read of the lines of z and of the rows g
module _ (z : ℕ) (g : List ℕ) where
  written_clear : (lines_cause (length g + 1) (lines row_digits (z ∷ g))).holds ≡ false
  unfolding right_lines
  written_clear =
      let t = lines row_digits (z ∷ g) in
      clear_lines (length g + 1) t (rw (add-one (length g), ← append-nil t) (rw add-zero at (lines_right row_digits 0 (z ∷ g) [])))
      (omega (arith, lines-length row_digits (z ∷ g)))

  written_sets : z < 16 ^ row_digits → ((a : ℕ) → a < length g → get_or g a 0 < 16 ^ row_digits)
      → silent_in (lines row_digits (z ∷ g)) ∷ rows_in (length g) (lines row_digits (z ∷ g)) ≡ z ∷ g
  unfolding numbers field
  written_sets h low =
      ap (numbers row_digits (suc (length g))) (sym (append-nil (lines row_digits (z ∷ g)))) ∙ lines-numbers row_digits (z ∷ g) [] fits
    where
      fits : (a : ℕ) → a < suc (length g) → get_or (z ∷ g) a 0 < 16 ^ row_digits
      fits zero l = h
      fits (suc a) l = low a (le_of_suc-le-suc l)

pub reads_written : (g : List ℕ) (ask : Request) (room : ℕ) → length g < 256 → ask.slack < 256 → ask.floor < 256
    → ask.silent < 16 ^ row_digits → ((a : ℕ) → a < length g → row g a < 16 ^ row_digits)
    → reading (sheet_text g ask) room ≡ first_cause (sheet_check g ask ++ room_cause room (length g) ∷ []) (answered 0 (sheet g ask))
unfolding sheet_text sheet_check request_check number_check graph_causes body_causes first_cause row
reads_written g ask room hn hk hq hs low =
    let t = lines row_digits (ask.silent ∷ g) in
    let both = written_sets ask.silent g hs low in
    let silent : silent_in t ≡ ask.silent = cc in
    let rows : rows_in (length g) t ≡ g = cc in
    reading_by (length g) ask t room hn hk hq ∙ rw (written_clear ask.silent g, silent, rows)

-- ---- what passed is read back: line 1 has room for its numbers, and each line for its set

module _ (g : List ℕ) (k q : ℕ) (e : first_cause (floor_check g k q) passed ≡ passed) where
  field_fits : (length g < 256) × (k < 256) × (q < 256)
  field_fits =
      let slack = floor_slack g k q e in
      let n = vertices_accepted g (slack_graph g k slack) in
      let k_in = slack_accepted g k slack in
      let q_in = floor_accepted g k q e in
      (omega arith, omega arith, omega arith)

module _ (g : List ℕ) (ask : Request) (e : first_cause (request_check g ask) passed ≡ passed) where
  -- what is left of the causes: 14, and one behind it
  after_request : {A : Type 0} (c : Cause) (r : Reply A) → first_cause (sheet_check g ask ++ c ∷ []) r ≡ first_cause (isolated_cause g ∷ c ∷ []) r
  unfolding sheet_check first_cause
  after_request c r =
      first_append (request_check g ask ++ isolated_cause g ∷ []) (c ∷ []) r
      ∙ first_append (request_check g ask) (isolated_cause g ∷ []) (first_cause (c ∷ []) r)
      ∙ first_passed (request_check g ask) (first_cause (isolated_cause g ∷ c ∷ []) r) e

  pub request-reading : (room : ℕ) → reading (sheet_text g ask) room ≡ first_cause (isolated_cause g ∷ room_cause room (length g) ∷ []) (answered 0 (sheet g ask))
  request-reading room =
      let k = ask.slack in
      let floor = request_floor g ask e in
      let f = field_fits g k ask.floor floor in
      let checked = request_graph g ask e in
      let most : 2 ^ length g ≤ 2 ^ most_vertices = pow_mono {i = length g} {j = most_vertices} (vertices_accepted g checked).1 in
      reads_written g ask room f.0 f.1 f.2 (lt_of_lt_of_le (silent_accepted g ask e) most)
      (λ a h. lt_of_lt_of_le ((graph_checked g checked).low a h) most)
      ∙ after_request (room_cause room (length g)) (answered 0 (sheet g ask))

  pub request-writing : (bytes : ℕ)
      → writing g ask bytes ≡ first_cause (isolated_cause g ∷ room_cause bytes (sheet_length (length g)) ∷ []) (answered (sheet_length (length g)) tt)
  unfolding writing
  request-writing bytes = after_request (room_cause bytes (sheet_length (length g))) (answered (sheet_length (length g)) tt)

-- what is written passed: the request, and 14
module _ (g : List ℕ) (ask : Request) (e : first_cause (sheet_check g ask) passed ≡ passed) where
  pub passed_reads : (room : ℕ) → length g ≤ room → reading (sheet_text g ask) room ≡ answered 0 (sheet g ask)
  unfolding room_cause first_cause
  passed_reads room l =
      request-reading g ask (passed_request g ask e) room
      ∙ first_skips (isolated_cause g) (room_cause room (length g) ∷ []) (answered 0 (sheet g ask)) (passed_isolated g ask e)
      ∙ first_skips (room_cause room (length g)) [] (answered 0 (sheet g ask)) (le-ltb room (length g) l)

pub written_back : (g : List ℕ) (ask : Request) (bytes rows v : ℕ) → writing g ask bytes ≡ answered v tt → length g ≤ rows
    → reading (sheet_text g ask) rows ≡ answered 0 (sheet g ask)
written_back g ask bytes rows v e l = passed_reads g ask (written_check g ask bytes v e) rows l

-- ---- a good sheet without line 2 is refused at the line behind its last one, whatever the room (document 02)

-- one line more than the rows is missing
former_right : (g : List ℕ) → right_lines row_digits (length g + 1) (lines row_digits g) ≡ length g
unfolding right_lines is_line all
former_right g =
    ap (right_lines row_digits (length g + 1)) (sym (append-nil (lines row_digits g))) ∙ lines_right row_digits 1 g [] ∙ add-zero (length g)

pub former_refused : (g : List ℕ) (ask : Request) (room : ℕ) → first_cause (floor_check g ask.slack ask.floor) passed ≡ passed
    → reading (former_text g ask) room ≡ refused 8 (length g + 2)
unfolding former_text floor_check body_causes lines_cause
former_refused g ask room e =
    let n = length g in
    let t = lines row_digits g in
    let fields = number_check n ask.slack ask.floor in
    let f = field_fits g ask.slack ask.floor e in
    reading_by n ask t room f.0 f.1 f.2
    ∙ first_passed fields _ (passed_front fields (graph_causes g) e)
    ∙ first_holds (lines_cause (n + 1) t) _ _ (wrong_line (n + 1) t (omega (arith, former_right g)))
    ∙ ap (λ (a : ℕ). refused 8 (a + 2)) (former_right g)
