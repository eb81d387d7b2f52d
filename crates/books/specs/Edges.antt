-- Edges of a change (document 02, card 3), and of one with silent vertices (card 6), as one table that the checker computes: on the ring of five of document
-- 01, what the definitions give, beside what is due.
use Rattle.std.specs.Prelude.{ℕ, Bool, true, false, List, [], ◌∷◌, T}
use Rattle.std.specs.Int.Count.{ones}
use Rattle.sets.specs.Ranges.{from, range, first, all, any, keep}
use Rattle.sets.specs.Set.{bit, has, subset, with, minus, members}
use Rattle.sets.specs.Graph.{row}
use Rattle.judging.specs.Request.{Request, request}
use Rattle.judging.specs.Graph.{adjacent, degree}
use Rattle.judging.specs.Plex.{plex, maximal}
use Rattle.judging.specs.Refusal.{reply_number, reply_value, first_cause, outside, vertex_cause, slack_cause, floor_cause}
use Rattle.judging.specs.Refusal.{bad_row, one_way, lowest_row, row_cause, edge_cause, graph_causes, set_cause, vertex_out_cause}
use Rattle.judging.specs.Calls.{number_check, request_check}
use Rattle.lists.specs.Listing.{listed, listing}
use Rattle.search.specs.Calls.{slots_cause}
use Rattle.search.specs.Edges.{Edge, edge, agree, hold, ring5}
use Rattle.books.specs.Book.{Change, change, Book, already_so, changed_graph, opened, changed}
use Rattle.books.specs.Calls.{loop_cause, unchanged_cause, pair_causes, change_check, change_reply, rows_changed, slots_changed}
use Rattle.books.specs.EdgeLaws.{back}

-- the ring at slack 2 and floor 3, and with 0 and 2 adjacent
abbrev book : Book
book = opened ring5 (request 2 3 0)

abbrev chord : Book
chord = changed book (change 0 2 true)

-- the same with vertex 0 silent
abbrev quiet : Book
quiet = opened ring5 (request 2 3 0x01)

-- one vertex, and its row is bad: it has its own bit
abbrev looped : List ℕ
looped = 0x1 ∷ []

-- number and value, where so many slots are lent; of the ring
told : List ℕ → Request → Change → ℕ → List ℕ
told g ask c room = let r = change_reply g ask c room in reply_number r ∷ reply_value r ∷ []

answer : ℕ → ℕ → Bool → ℕ → List ℕ
answer a b on room = told ring5 (request 2 3 0) (change a b on) room

pub edges : List Edge
edges =
    edge chord.rows (0x16 ∷ 0x05 ∷ 0x0B ∷ 0x14 ∷ 0x09 ∷ [])
    ∷ edge chord.list (0x07 ∷ 0x0E ∷ 0x13 ∷ 0x1D ∷ [])
    ∷ edge (changed chord (back (change 0 2 true))).rows ring5
    ∷ edge (answer 0 2 true 4) (0 ∷ 4 ∷ [])
    ∷ edge (answer 0 2 true 3) (6 ∷ 4 ∷ [])
    ∷ edge (answer 0 1 true 3) (13 ∷ 0 ∷ [])
    ∷ edge (answer 0 2 false 5) (13 ∷ 0 ∷ [])
    ∷ edge (answer 3 3 false 5) (12 ∷ 0 ∷ [])
    ∷ edge (answer 5 5 true 5) (7 ∷ 0 ∷ [])
    ∷ edge (answer 0 5 true 5) (7 ∷ 0 ∷ [])
    ∷ edge (rows_changed ring5 (request 2 3 0) (change 0 2 true) 3) ring5
    ∷ edge (slots_changed ring5 (request 2 3 0) (change 0 2 true) (9 ∷ 8 ∷ 7 ∷ [])) (9 ∷ 8 ∷ 7 ∷ [])
    ∷ edge (slots_changed ring5 (request 2 3 0) (change 0 2 true) (9 ∷ 8 ∷ 7 ∷ 6 ∷ 5 ∷ [])) (0x07 ∷ 0x0E ∷ 0x13 ∷ 0x1D ∷ 5 ∷ [])
    ∷ edge quiet.list (0x0E ∷ 0x1C ∷ [])
    ∷ edge (changed quiet (change 0 2 true)).list (0x0E ∷ 0x1D ∷ [])
    ∷ edge (told ring5 (request 2 3 0x01) (change 0 2 true) 1) (6 ∷ 2 ∷ [])
    ∷ edge (told looped (request 1 1 0x2) (change 0 1 true) 1) (7 ∷ 0 ∷ [])
    ∷ edge (told looped (request 1 1 0x1) (change 0 1 true) 1) (4 ∷ 0 ∷ [])
    ∷ []

pub edges_hold : T (hold edges)
unfolding hold edges agree told answer ring5 from range first all any keep bit has ones subset with minus members row adjacent degree plex maximal first_cause outside vertex_cause slack_cause floor_cause bad_row one_way lowest_row row_cause edge_cause graph_causes set_cause vertex_out_cause number_check request_check listed listing slots_cause already_so changed_graph loop_cause unchanged_cause pair_causes change_check change_reply rows_changed slots_changed
edges_hold = tt
