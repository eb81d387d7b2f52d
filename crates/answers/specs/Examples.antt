-- Document 01's example: what is printed for the ring of five vertices, slack 2, floor 3.
use Rattle.std.specs.Prelude.{ℕ, ◌≡◌, refl, List, [], ◌∷◌}
use Rattle.std.specs.Int.Count.{ones}
use Rattle.sets.specs.Ranges.{from, range, all, any, first, keep}
use Rattle.sets.specs.Set.{bit, has, subset, minus, members}
use Rattle.sets.specs.Graph.{row}
use Rattle.judging.specs.Graph.{adjacent, degree}
use Rattle.judging.specs.Plex.{plex, maximal}
use Rattle.judging.specs.Refusal.{first_cause, outside, vertex_cause, slack_cause, floor_cause}
use Rattle.judging.specs.Refusal.{bad_row, one_way, lowest_row, row_cause, edge_cause, graph_causes, set_cause}
use Rattle.judging.specs.Calls.{number_check, request_check}
use Rattle.sheets.specs.Digits.{between, digit_value, is_digit, digit_byte, digits, number_from, number}
use Rattle.sheets.specs.Lines.{line, lines, is_line, field, right_lines, numbers}
use Rattle.sheets.specs.Sheet.{sheet_of, heading_cause, lines_cause, isolated, isolated_cause, room_cause, heading_causes, body_causes, sheet_causes, reading}
use Rattle.answers.specs.Output.{decimals, list_text, refusal_text}
use Rattle.sheets.specs.Examples.{low, ring}
use Rattle.lists.specs.Listing.{listed, listing}
use Rattle.search.specs.Calls.{slots_cause, list_reply}
use Rattle.answers.specs.Answer.{answer_text}

-- 5, and then 07, 0E, 13, 19 and 1C
unfoldable pub ring_printed : List ℕ
ring_printed = low 48 53 (low 48 55 (low 48 69 (low 49 51 (low 49 57 (low 49 67 [])))))

pub ring_answered : answer_text ring 4096 ≡ ring_printed
unfolding ring ring_printed answer_text reading sheet_causes heading_causes body_causes heading_cause lines_cause isolated isolated_cause room_cause sheet_of first_cause outside vertex_cause slack_cause floor_cause bad_row one_way lowest_row row_cause edge_cause graph_causes set_cause number_check request_check slots_cause list_reply listing listed maximal plex degree subset minus members from range all any first keep bit has row adjacent between digit_value is_digit digit_byte digits number_from number line lines is_line field right_lines numbers list_text ones
ring_answered = refl

-- with four slots: R, 06, a blank, and the number of the masks
pub ring_refused : answer_text ring 4 ≡ 82 ∷ 48 ∷ 54 ∷ 32 ∷ low 48 53 []
unfolding ring answer_text reading sheet_causes heading_causes body_causes heading_cause lines_cause isolated isolated_cause room_cause sheet_of first_cause outside vertex_cause slack_cause floor_cause bad_row one_way lowest_row row_cause edge_cause graph_causes set_cause number_check request_check slots_cause list_reply listing listed maximal plex degree subset minus members from range all any first keep bit has row adjacent between digit_value is_digit digit_byte digits number_from number line is_line field right_lines numbers decimals refusal_text ones
ring_refused = refl

-- document 01: empty text is 8, line 1
pub empty_refused : (room : ℕ) → answer_text [] room ≡ 82 ∷ 48 ∷ 56 ∷ 32 ∷ low 48 49 []
unfolding answer_text reading sheet_causes heading_causes heading_cause first_cause is_line all digit_byte digits line decimals refusal_text
empty_refused room = refl
