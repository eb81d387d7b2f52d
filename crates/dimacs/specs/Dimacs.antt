-- Graphs in the DIMACS form (document 02, card 8): the reading of any bytes as one, from line to line.
--
--   Edge               two vertices that an e line joins, counted from 0
--   joins es a b       an edge of es joins a and b
--   rows_of n es        the rows of the graph of n vertices with the edges es
--   State              what the lines so far have said: nothing, or n, m and the edges
--   next l s k         the state after line l, which is k; or why the text is declined there
--   read_lines l s ls   the state after the lines ls, the first of which is line l, with the number of the line after the last
--   reading t room     what reading the text t into room rows answers: n and the rows
--   rows_after          what the lent rows then hold
use Rattle.std.specs.Prelude.{ℕ, ◌+◌, ◌-◌, Bool, false, not, ◌&&◌, ◌||◌, List, [], ◌∷◌, map, eqb, length}
use Rattle.sets.specs.Ranges.{range}
use Rattle.sets.specs.Set.{set_of}
use Rattle.judging.specs.Refusal.{Reply, refused, answered, Cause, cause, first_cause, outside, vertex_cause}
use Rattle.sheets.specs.Sheet.{room_cause, over}
use Rattle.dimacs.specs.Lines.{Line, lines, Kind, comment, problem, edge, other, kind_of}

-- ---- the graph of the e lines

pub record Edge : Type 0 where
  pub one : ℕ
  pub two : ℕ

-- document 02: vertices are numbered from 1 in the text
abbrev pub edge_of : ℕ → ℕ → Edge
edge_of u v = record { one = u - 1; two = v - 1 }

unfoldable pub is_edge : Edge → ℕ → ℕ → Bool
is_edge e a b = (eqb e.one a && eqb e.two b) || (eqb e.one b && eqb e.two a)

unfoldable pub joins : List Edge → ℕ → ℕ → Bool
joins [] a b = false
joins (e ∷ es) a b = is_edge e a b || joins es a b

unfoldable pub rows_of : ℕ → List Edge → List ℕ
rows_of n es = map (λ a. set_of n (joins es a)) (range n)

-- ---- from line to line

pub data State : Type 0 where
  start : State
  graph : (n m : ℕ) → List Edge → State

-- 15, at line l
abbrev pub line_cause : Bool → ℕ → Cause
line_cause wrong l = cause wrong 15 l

-- u or v is none of 1 to n, or they are the same
unfoldable pub is_wrong : ℕ → ℕ → ℕ → Bool
is_wrong n u v = outside 1 n u || outside 1 n v || eqb u v

unfoldable pub next : ℕ → State → Kind → Reply State
next l s comment = answered 0 s
next l s other = refused 15 l
next l start (problem n m) = first_cause (vertex_cause n ∷ []) (answered 0 (graph n m []))
next l (graph n' m' es) (problem n m) = refused 15 l
next l start (edge u v) = refused 15 l
next l (graph n m es) (edge u v) = first_cause (line_cause (is_wrong n u v) l ∷ []) (answered 0 (graph n m (edge_of u v ∷ es)))

-- goes on with the state where there is one
unfoldable pub and_then : {A B : Type 0} → Reply A → (A → Reply B) → Reply B
and_then (refused c v) f = refused c v
and_then (answered v a) f = f a

unfoldable pub read_lines : ℕ → State → List Line → Reply State
read_lines l s [] = answered l s
read_lines l s (x ∷ xs) = and_then (next l s (kind_of x)) (λ s'. read_lines (l + 1) s' xs)

-- ---- at the end: no p line is 15 at the line after the last; then 16 and 9

abbrev pub count_cause : List Edge → ℕ → Cause
count_cause es m = cause (not (eqb (length es) m)) 16 0

unfoldable pub finish : ℕ → Reply State → Reply (List ℕ)
finish room (refused c v) = refused c v
finish room (answered l start) = refused 15 l
finish room (answered l (graph n m es)) = first_cause (count_cause es m ∷ room_cause room n ∷ []) (answered n (rows_of n es))

unfoldable pub reading : List ℕ → ℕ → Reply (List ℕ)
reading t room = finish room (read_lines 1 start (lines t))

-- a refusal leaves the lent rows, and those beyond the graph are kept
abbrev pub rows_after : Reply (List ℕ) → List ℕ → List ℕ
rows_after (refused c v) old = old
rows_after (answered v g) old = over g old
