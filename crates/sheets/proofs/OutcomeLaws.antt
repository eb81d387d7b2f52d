-- What reading and writing mean to each other: a text that is read is, where there is room, what is written of the sheet it says, and what is written of
-- a sheet is read as that sheet. The checks of a text that is read are, field by field, those of the request that it says. Of graphs that are accepted else,
-- those in which every vertex has a neighbour are written and read, and of the others 14 tells the lowest isolated vertex.
use Rattle.std.specs.Prelude.{ℕ, ◌≤◌, ◌<◌, ◌≡◌, refl, length, take, drop}
use Rattle.std.proofs.Common.{arith, sym, ◌∙◌}
use Rattle.std.proofs.Math.Path.{ap, subst}
use mathlib.Core.List.{List, [], ◌∷◌, ◌++◌}
use Rattle.sets.specs.Graph.{row}
use Rattle.judging.specs.Request.{Request}
use Rattle.judging.specs.Refusal.{Reply, refused, answered, Cause, first_cause, graph_causes}
use Rattle.judging.specs.Calls.{passed, graph_check, number_check, request_check}
use Rattle.judging.specs.RefusalLaws.{first_append, first_passed, first_holds, first_skips, answered_value}
use Rattle.judging.specs.RefusalLaws.{vertices_accepted, graph_checked, request_graph}
use Rattle.sheets.specs.Sheet.{row_digits, row_length, sheet_length, sheet_text, vertex_field, slack_field, floor_field, body, Sheet, sheet, sheet_of}
use Rattle.sheets.specs.Sheet.{Linked, isolated_cause, field_causes, set_causes, room_cause, reading, sheet_check, writing, over, text_after}
use Rattle.sheets.specs.OverLaws.{over_front}
use Rattle.sheets.specs.LineLaws.{numbers-length}
use Rattle.sheets.specs.SheetLaws.{passed_fields, passed_sets, passed_heading, passed_body}
use Rattle.sheets.specs.SheetLaws.{read_passed, read_answer}
use Rattle.sheets.specs.SheetLaws.{passed_request, passed_isolated, written_check}
use Rattle.sheets.proofs.BackLaws.{read_back}
use Rattle.sheets.proofs.WrittenLaws.{request-reading, request-writing, passed_reads, written_back}
use Rattle.sheets.specs.IsolatedLaws.{isolated_lowest, isolated_holds, linked_clear, clear_linked, one_isolated, linked_two}
use Rattle.sheets.specs.WriteLaws.{sheet_length_lem, accepted_writes}

-- ---- what passes as a sheet

module _ (g : List ℕ) (ask : Request) (e : first_cause (sheet_check g ask) passed ≡ passed) where
  graph_passed : first_cause (graph_check g) passed ≡ passed
  graph_passed = request_graph g ask (passed_request g ask e)

  passed_linked : Linked g
  passed_linked = clear_linked g (graph_checked g graph_passed) (passed_isolated g ask e)

  passed_two : 2 ≤ length g
  passed_two = linked_two g (graph_checked g graph_passed) passed_linked (vertices_accepted g graph_passed).0

-- ---- read, then write

module _ (t : List ℕ) (room : ℕ) {v : ℕ} {s : Sheet} (e : reading t room ≡ answered v s) where
  -- 1, 2 and 3 of line 1, 7 of line 2, 4, 5 and 14 of the rows
  pub read_accepted : first_cause (sheet_check s.rows s.request) passed ≡ passed
  unfolding sheet_check request_check number_check graph_causes sheet_of
  read_accepted =
      let n = vertex_field t in
      let passes = read_passed t room e in
      subst (λ (x : Sheet). first_cause (sheet_check x.rows x.request) passed ≡ passed) (sym (read_answer t room e))
      (subst (λ (m : ℕ). first_cause (number_check m (slack_field t) (floor_field t) ++ set_causes n (body t)) passed ≡ passed)
      (sym (numbers-length row_digits n (drop row_length (body t))))
      (first_append (field_causes t) (set_causes n (body t)) passed
      ∙ first_passed (field_causes t) (first_cause (set_causes n (body t)) passed) (passed_fields t (passed_heading t passes))
      ∙ passed_sets n (body t) (passed_body t passes)))

  -- every vertex has a neighbour, so there are two vertices or more
  pub read_linked : Linked s.rows
  read_linked = passed_linked s.rows s.request read_accepted

  pub read_two : 2 ≤ length s.rows
  read_two = passed_two s.rows s.request read_accepted

  read_length : length t ≡ sheet_length (length s.rows)
  read_length = ap length (read_back t room e) ∙ sheet_length_lem s.rows s.request

  pub read_then_write : (bytes : ℕ) → length t ≤ bytes → writing s.rows s.request bytes ≡ answered (length t) tt
  read_then_write bytes l =
      accepted_writes s.rows s.request read_accepted bytes refl (omega (arith, read_length)) ∙ ap (λ (n : ℕ). answered n tt) (sym read_length)

  -- the bytes written are the text
  pub read_then_text : (before : List ℕ) → length t ≤ length before
      → text_after (writing s.rows s.request (length before)) (sheet_text s.rows s.request) before ≡ over t before
  read_then_text before l =
      ap (λ (x : Reply (Unit {0})). text_after x (sheet_text s.rows s.request) before) (read_then_write (length before) l)
      ∙ ap (λ (x : List ℕ). over x before) (sym (read_back t room e))

-- ---- write, then read

module _ (g : List ℕ) (ask : Request) (before : List ℕ) {m : ℕ} (e : writing g ask (length before) ≡ answered m tt) where
  pub write_value : m ≡ sheet_length (length g)
  unfolding writing
  write_value =
      answered_value (sheet_check g ask ++ room_cause (length before) (sheet_length (length g)) ∷ []) (sheet_length (length g)) tt e

  pub written_front : take m (text_after (writing g ask (length before)) (sheet_text g ask) before) ≡ sheet_text g ask
  written_front =
      ap (λ (x : Reply (Unit {0})). take m (text_after x (sheet_text g ask) before)) e
      ∙ over_front (sheet_text g ask) before (sheet_length_lem g ask ∙ sym write_value)

  -- the bytes written are read as what was written
  pub write_then_read : (rows : ℕ) → length g ≤ rows
      → reading (take m (text_after (writing g ask (length before)) (sheet_text g ask) before)) rows ≡ answered 0 (sheet g ask)
  write_then_read rows l = ap (λ (t : List ℕ). reading t rows) written_front ∙ written_back g ask (length before) rows m e l

  -- every vertex has a neighbour, so there are two vertices or more
  write_passed : first_cause (sheet_check g ask) passed ≡ passed
  write_passed = written_check g ask (length before) m e

  pub write_linked : Linked g
  write_linked = passed_linked g ask write_passed

  pub write_two : 2 ≤ length g
  write_two = passed_two g ask write_passed

-- ---- a request that is accepted, of a graph that a sheet takes and of one that none does

module _ (g : List ℕ) (ask : Request) (e : first_cause (request_check g ask) passed ≡ passed) where
  module _ (h : Linked g) where
    linked_passed : first_cause (sheet_check g ask) passed ≡ passed
    unfolding sheet_check first_cause
    linked_passed =
        first_append (request_check g ask) (isolated_cause g ∷ []) passed
        ∙ first_passed (request_check g ask) (first_cause (isolated_cause g ∷ []) passed) e
        ∙ first_skips (isolated_cause g) [] passed (linked_clear g h)

    pub linked_writes : (bytes : ℕ) → sheet_length (length g) ≤ bytes → writing g ask bytes ≡ answered (sheet_length (length g)) tt
    linked_writes bytes l = accepted_writes g ask linked_passed bytes refl l

    pub linked_reads_back : (room : ℕ) → length g ≤ room → reading (sheet_text g ask) room ≡ answered 0 (sheet g ask)
    linked_reads_back room l = passed_reads g ask linked_passed room l

  module _ (a : ℕ) (l : a < length g) (z : row g a ≡ 0) (lower : (b : ℕ) → b < a → row g b ≡ 0 → ⊥) where
    told : {A : Type 0} (c : Cause) (r : Reply A) → first_cause (isolated_cause g ∷ c ∷ []) r ≡ refused 14 a
    unfolding isolated_cause
    told c r =
        let lowest = isolated_lowest g a l z lower in
        first_holds (isolated_cause g) (c ∷ []) r (isolated_holds g a l lowest) ∙ ap (refused 14) lowest

    pub isolated_unwritten : (bytes : ℕ) → writing g ask bytes ≡ refused 14 a
    isolated_unwritten bytes = request-writing g ask e bytes ∙ told (room_cause bytes (sheet_length (length g))) (answered (sheet_length (length g)) tt)

    pub isolated_unread : (room : ℕ) → reading (sheet_text g ask) room ≡ refused 14 a
    isolated_unread room = request-reading g ask e room ∙ told (room_cause room (length g)) (answered 0 (sheet g ask))

  -- a sheet of one vertex is always declined
  module _ (one : length g ≡ 1) where
    alone : row g 0 ≡ 0
    alone = one_isolated g (graph_checked g (request_graph g ask e)) one

    pub one_unwritten : (bytes : ℕ) → writing g ask bytes ≡ refused 14 0
    one_unwritten = isolated_unwritten 0 (omega arith) alone (λ b l. absurd (omega arith))

    pub one_unread : (room : ℕ) → reading (sheet_text g ask) room ≡ refused 14 0
    one_unread = isolated_unread 0 (omega arith) alone (λ b l. absurd (omega arith))
