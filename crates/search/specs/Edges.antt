-- The starred edges of document 01, "Edges to run", those of looseness, of passes and of silent vertices (document 02, cards 2, 4 and 6), as one
-- table that the checker computes: what the definitions give, beside what the document says.
use Rattle.std.specs.Prelude.{ℕ, Bool, true, false, ◌&&◌, T, List, [], ◌∷◌, ◌==◌}
use Rattle.std.specs.Int.Count.{ones, ones_in}
use Rattle.sets.specs.Ranges.{from, range, first, all, any, keep, total, greatest, joined}
use Rattle.sets.specs.Set.{bit, has, subset, with, minus, set_of, members}
use Rattle.sets.specs.Graph.{row}
use Rattle.judging.specs.Request.{Request, request}
use Rattle.judging.specs.Graph.{adjacent, degree, missing}
use Rattle.judging.specs.Plex.{plex, maximal, looseness}
use Rattle.judging.specs.Refusal.{Reply, refused, answered, reply_number, reply_value, first_cause, outside, vertex_cause, slack_cause, floor_cause}
use Rattle.judging.specs.Refusal.{bad_row, one_way, lowest_row, row_cause, edge_cause, graph_causes, set_cause, vertex_out_cause}
use Rattle.judging.specs.Calls.{passed, graph_check, slack_check, number_check, floor_check, request_check, inside_check, set_check, looseness_reply}
use Rattle.bounds.specs.Core.{dense, core, look, pass_to, pass, passes_within, passes, Peeling, peeling}
use Rattle.bounds.specs.Reach.{reach}
use Rattle.bounds.specs.Bound.{support, usable, ordered, supports, packable, first_bound, lesser, least, tightest, kept, second_bound, largest}
use Rattle.bounds.specs.Calls.{core_reply, reach_check, reach_reply}
use Rattle.bounds.specs.BoundCalls.{overlap, misplaced, bound_cause, bound_check, first_bound_reply, second_bound_reply}
use Rattle.lists.specs.Listing.{listed, listing}

-- ---- the graphs

unfoldable pub ring5 : List ℕ
ring5 = 0x12 ∷ 0x05 ∷ 0x0A ∷ 0x14 ∷ 0x09 ∷ []

ring4 : List ℕ
ring4 = 0xA ∷ 0x5 ∷ 0xA ∷ 0x5 ∷ []

apart3 : List ℕ
apart3 = 0 ∷ 0 ∷ 0 ∷ []

single : List ℕ
single = 0 ∷ []

path4 : List ℕ
path4 = 0x2 ∷ 0x5 ∷ 0xA ∷ 0x4 ∷ []

-- a path numbered from its middle: 2, 0, 1, 3
outward4 : List ℕ
outward4 = 0x6 ∷ 0x9 ∷ 0x1 ∷ 0x2 ∷ []

-- 1 has 2, which lacks 1
one_way3 : List ℕ
one_way3 = 0x2 ∷ 0x5 ∷ 0x0 ∷ []

-- 0, 1, 2 all adjacent; 3 adjacent to all others; 4, 5, 6 adjacent to 1, 2 and 3
seven : List ℕ
seven = 0x0E ∷ 0x7D ∷ 0x7B ∷ 0x77 ∷ 0x0E ∷ 0x0E ∷ 0x0E ∷ []

-- ---- the table

-- what is computed, and what the document says it is
pub data Edge : Type 0 where
  edge : List ℕ → List ℕ → Edge

-- the number of a reply, its value, and what was found
pub shown : Reply ℕ → List ℕ
shown (refused n v) = n ∷ v ∷ []
shown (answered v x) = 0 ∷ v ∷ x ∷ []

-- the number and the value of what the checks of a request give
checked : List ℕ → Request → List ℕ
checked g ask = let r = first_cause (request_check g ask) passed in reply_number r ∷ reply_value r ∷ []

-- a core with its passes
shown_core : Reply Peeling → List ℕ
shown_core (refused n v) = n ∷ v ∷ []
shown_core (answered v p) = 0 ∷ v ∷ p.core ∷ p.passes ∷ []

unfoldable pub agree : List ℕ → List ℕ → Bool
agree [] [] = true
agree [] (y ∷ ys) = false
agree (x ∷ xs) [] = false
agree (x ∷ xs) (y ∷ ys) = x == y && agree xs ys

unfoldable pub hold : List Edge → Bool
hold [] = true
hold (edge a b ∷ es) = agree a b && hold es

pub edges : List Edge
edges =
    edge (listing ring5 (request 2 3 0)) (0x07 ∷ 0x0E ∷ 0x13 ∷ 0x19 ∷ 0x1C ∷ [])
    ∷ edge (shown_core (core_reply ring5 2 4)) (0 ∷ 0 ∷ 0x1F ∷ 1 ∷ [])
    ∷ edge (shown_core (core_reply ring5 2 5)) (0 ∷ 0 ∷ 0 ∷ 2 ∷ [])
    ∷ edge (shown_core (core_reply path4 1 3)) (0 ∷ 0 ∷ 0 ∷ 2 ∷ [])
    ∷ edge (shown_core (core_reply outward4 1 3)) (0 ∷ 0 ∷ 0 ∷ 3 ∷ [])
    ∷ edge (shown_core (core_reply outward4 2 4)) (0 ∷ 0 ∷ 0 ∷ 3 ∷ [])
    ∷ edge (shown_core (core_reply one_way3 1 1)) (5 ∷ 1 ∷ [])
    ∷ edge (listing ring4 (request 2 4 0)) (0xF ∷ [])
    ∷ edge (listing ring4 (request 1 2 0)) (0x3 ∷ 0x6 ∷ 0x9 ∷ 0xC ∷ [])
    ∷ edge (listing apart3 (request 1 1 0)) (1 ∷ 2 ∷ 4 ∷ [])
    ∷ edge (listing apart3 (request 2 3 0)) []
    ∷ edge (listing single (request 1 1 0)) (1 ∷ [])
    ∷ edge (listing ring5 (request 2 3 0x01)) (0x0E ∷ 0x1C ∷ [])
    ∷ edge (listing ring5 (request 2 3 0x05)) []
    ∷ edge (listing ring4 (request 2 3 0x1)) (0xF ∷ [])
    ∷ edge (listing ring4 (request 2 4 0x1)) []
    ∷ edge (listing apart3 (request 1 1 0x2)) (1 ∷ 4 ∷ [])
    ∷ edge (listing path4 (request 2 3 0x2)) []
    ∷ edge (checked one_way3 (request 1 1 0x8)) (7 ∷ 0 ∷ [])
    ∷ edge (checked one_way3 (request 1 1 0x4)) (5 ∷ 1 ∷ [])
    ∷ edge (shown (reach_reply path4 0)) (0 ∷ 0 ∷ 7 ∷ [])
    ∷ edge (shown (first_bound_reply seven 2 0x07 0x78 3)) (0 ∷ 0 ∷ 8 ∷ [])
    ∷ edge (shown (second_bound_reply seven 2 0x07 0x78 3)) (0 ∷ 0 ∷ 6 ∷ [])
    ∷ edge (largest seven 2 0x07 0x78 3 ∷ []) (5 ∷ [])
    ∷ edge (shown (looseness_reply ring5 0)) (0 ∷ 0 ∷ 0 ∷ [])
    ∷ edge (shown (looseness_reply ring5 0x10)) (0 ∷ 0 ∷ 1 ∷ [])
    ∷ edge (shown (looseness_reply ring5 0x07)) (0 ∷ 0 ∷ 2 ∷ [])
    ∷ edge (shown (looseness_reply ring5 0x1F)) (0 ∷ 0 ∷ 3 ∷ [])
    ∷ edge (shown (looseness_reply apart3 0x7)) (0 ∷ 0 ∷ 3 ∷ [])
    ∷ edge (shown (looseness_reply ring5 0x20)) (7 ∷ 0 ∷ [])
    ∷ []

pub edges_hold : T (hold edges)
unfolding hold edges shown checked shown_core agree ring5 ring4 apart3 single path4 outward4 one_way3 seven from range first all any keep total greatest joined bit has ones ones_in subset with minus set_of members row adjacent degree missing plex maximal looseness first_cause outside vertex_cause slack_cause floor_cause bad_row one_way lowest_row row_cause edge_cause graph_causes set_cause vertex_out_cause graph_check slack_check number_check floor_check request_check inside_check set_check looseness_reply dense core look pass_to pass passes_within passes peeling reach support usable ordered supports packable first_bound lesser least tightest kept second_bound largest core_reply reach_check reach_reply overlap misplaced bound_cause bound_check first_bound_reply second_bound_reply listed listing
edges_hold = tt
