-- Document 01's example of a sheet, with document 02's line of zeros, read and written; the same with a silent vertex, and with what is refused; vertices
-- that nobody linked; and the empty text, which is refused at line 1.
use Rattle.std.specs.Prelude.{ℕ, ◌≡◌, refl, List, [], ◌∷◌}
use Rattle.judging.specs.Request.{request}
use Rattle.judging.specs.Refusal.{refused, answered, first_cause, outside, vertex_cause, slack_cause, floor_cause}
use Rattle.judging.specs.Refusal.{bad_row, one_way, lowest_row, row_cause, edge_cause, graph_causes, set_cause}
use Rattle.judging.specs.Calls.{number_check}
use Rattle.sets.specs.Ranges.{from, range, all, any, first}
use Rattle.sets.specs.Set.{bit, has}
use Rattle.sets.specs.Graph.{row}
use Rattle.judging.specs.Graph.{adjacent}
use Rattle.sheets.specs.Digits.{between, digit_value, is_digit, number_from, number}
use Rattle.sheets.specs.Lines.{is_line, field, right_lines, numbers}
use Rattle.sheets.specs.Sheet.{sheet, sheet_of, heading_cause, lines_cause, isolated, isolated_cause, room_cause}
use Rattle.sheets.specs.Sheet.{heading_causes, body_causes, sheet_causes, reading}

-- fourteen digits 0, and two more on a line
abbrev pub low : ℕ → ℕ → List ℕ → List ℕ
low a b rest = 48 ∷ 48 ∷ 48 ∷ 48 ∷ 48 ∷ 48 ∷ 48 ∷ 48 ∷ 48 ∷ 48 ∷ 48 ∷ 48 ∷ 48 ∷ 48 ∷ a ∷ b ∷ 10 ∷ rest

-- so many vertices by one more digit, slack 2, floor 3, and then the lines below
abbrev few : ℕ → List ℕ → List ℕ
few a rest = 48 ∷ a ∷ 48 ∷ 50 ∷ 48 ∷ 51 ∷ 10 ∷ rest

-- the rows 1 to 4 of a ring: 05, 0A, 14 and 09
abbrev others : List ℕ → List ℕ
others rest = low 48 53 (low 48 65 (low 49 52 (low 48 57 rest)))

-- the ring as document 01 writes it, with line 2; row 0 is 12
unfoldable pub ring : List ℕ
ring = few 53 (low 48 48 (low 49 50 (others [])))

abbrev pub ring_rows : List ℕ
ring_rows = 0x12 ∷ 0x05 ∷ 0x0A ∷ 0x14 ∷ 0x09 ∷ []

pub examples_read : (reading ring 5 ≡ answered 0 (sheet ring_rows (request 2 3 0)))
    -- vertex 1 is silent
    × (reading (few 53 (low 48 50 (low 49 50 (others [])))) 5 ≡ answered 0 (sheet ring_rows (request 2 3 0x02)))
    -- vertex 5 is none of the graph, which is told before row 0, 13, that has its own bit
    × (reading (few 53 (low 50 48 (low 49 51 (others [])))) 5 ≡ refused 7 0)
    -- without line 2
    × (reading (few 53 (low 49 50 (others []))) 5 ≡ refused 8 7)
    -- a sixth vertex without an edge, told before the room; three without one; one alone
    × (reading (few 54 (low 48 48 (low 49 50 (others (low 48 48 []))))) 0 ≡ refused 14 5)
    × (reading (few 51 (low 48 48 (low 48 48 (low 48 48 (low 48 48 []))))) 3 ≡ refused 14 0)
    × (reading (few 49 (low 48 48 (low 48 48 []))) 1 ≡ refused 14 0)
    -- row 1 has 2, whose row is 0 as row 0 is
    × (reading (few 51 (low 48 48 (low 48 48 (low 48 52 (low 48 48 []))))) 3 ≡ refused 5 1)
unfolding ring reading sheet_causes heading_causes body_causes heading_cause lines_cause isolated isolated_cause room_cause number_check sheet_of first_cause outside vertex_cause slack_cause floor_cause set_cause bad_row one_way lowest_row row_cause edge_cause graph_causes from range all any first bit has row adjacent between digit_value is_digit number_from number is_line field right_lines numbers
examples_read = (refl, refl, refl, refl, refl, refl, refl, refl)

pub empty_refused : (room : ℕ) → reading [] room ≡ refused 8 1
unfolding reading sheet_causes heading_causes heading_cause first_cause all is_line
empty_refused room = refl
