-- Sheets (document 01, with line 2 of document 02, card 6, and refusal 14 of card 7): the text of a graph with a request, and the reading of any bytes as one.
--
--   heading_text n ask    line 1
--   sheet_text g ask      the sheet of the graph g with the request ask
--   sheet_length n        the length of a sheet of n vertices
--   former_text g ask     the sheet as it was without line 2
--   vertex_field t, ..    what line 1 of any text t says; body t is what stands below it
--   silent_in, rows_in     what it says there: the silent set in line 2, and the rows below that
--   request_in t          what lines 1 and 2 of the text t ask
--   isolated g a         row a of the graph g is 0; Linked g says that every vertex has a neighbour
--   Sheet                what a sheet says: the rows of the graph, and the request
--   reading t room       what reading the text t into room rows answers, by document 01's order for reading
--   writing g ask room   what writing that sheet into room bytes answers
--   rows_after, text_after what the lent rows or the lent text then hold
use Rattle.std.specs.Prelude.{ℕ, ◌+◌, ◌*◌, ◌/◌, ◌<◌, Bool, not, ◌||◌, List, [], ◌∷◌, ◌++◌, T, eqb, ltb, length, drop}
use Rattle.sets.specs.Graph.{row}
use Rattle.judging.specs.Graph.{adjacent}
use Rattle.judging.specs.Request.{Request, request}
use Rattle.judging.specs.Refusal.{Reply, refused, answered, Cause, cause, first_cause, most_vertices}
use Rattle.judging.specs.Refusal.{lowest_row, graph_causes, set_cause}
use Rattle.judging.specs.Calls.{number_check, request_check}
use Rattle.sheets.specs.Digits.{digits}
use Rattle.sheets.specs.Lines.{line, lines, is_line, field, right_lines, numbers}

-- ---- the layout

-- n, k and q have two digits each
abbrev pub field_digits : ℕ
field_digits = 2

-- k and q stand behind n in line 1
abbrev pub slack_at : ℕ
slack_at = 2

abbrev pub floor_at : ℕ
floor_at = 4

abbrev pub heading_digits : ℕ
heading_digits = 6

-- a digit for each four vertices that a row can have
abbrev pub row_digits : ℕ
row_digits = most_vertices / 4

abbrev pub heading_length : ℕ
heading_length = heading_digits + 1

abbrev pub row_length : ℕ
row_length = row_digits + 1

-- line 1, line 2 and n rows; document 02: 24 + 17n
abbrev pub sheet_length : ℕ → ℕ
sheet_length n = heading_length + (n + 1) * row_length

unfoldable pub heading_text : ℕ → Request → List ℕ
heading_text n ask = line (digits field_digits n ++ (digits field_digits ask.slack ++ digits field_digits ask.floor))

-- line 1, then the silent set, and then row after row, one a line
unfoldable pub sheet_text : List ℕ → Request → List ℕ
sheet_text g ask = heading_text (length g) ask ++ lines row_digits (ask.silent ∷ g)

-- document 02: an old sheet, without line 2
unfoldable pub former_text : List ℕ → Request → List ℕ
former_text g ask = heading_text (length g) ask ++ lines row_digits g

-- ---- what any text says

abbrev pub vertex_field : List ℕ → ℕ
vertex_field t = field 0 field_digits t

abbrev pub slack_field : List ℕ → ℕ
slack_field t = field slack_at field_digits t

abbrev pub floor_field : List ℕ → ℕ
floor_field t = field floor_at field_digits t

-- what stands below line 1
abbrev pub body : List ℕ → List ℕ
body t = drop heading_length t

-- of what stands below line 1: the silent set in line 2 (document 02: the mask of silent stops), and the rows in the n lines below it
abbrev pub silent_in : List ℕ → ℕ
silent_in b = field 0 row_digits b

abbrev pub rows_in : ℕ → List ℕ → List ℕ
rows_in n b = numbers row_digits n (drop row_length b)

abbrev pub request_in : List ℕ → Request
request_in t = request (slack_field t) (floor_field t) (silent_in (body t))

pub record Sheet : Type 0 where
  pub rows : List ℕ
  pub request : Request

abbrev pub sheet : List ℕ → Request → Sheet
sheet g ask = record { rows = g; request = ask }

unfoldable pub sheet_of : List ℕ → Sheet
sheet_of t = sheet (rows_in (vertex_field t) (body t)) (request_in t)

-- ---- the causes that sheets alone have

-- the text is not as laid out, first at line l
abbrev pub line_cause : Bool → ℕ → Cause
line_cause wrong l = cause wrong 8 l

unfoldable pub heading_cause : List ℕ → Cause
heading_cause t = line_cause (not (is_line heading_digits t)) 1

-- m lines below line 1, the first of them line 2; bytes after them are line m + 2
unfoldable pub lines_cause : ℕ → List ℕ → Cause
lines_cause m b = let a = right_lines row_digits m b in line_cause (ltb a m || ltb (m * row_length) (length b)) (a + 2)

-- row a is 0 (document 02: nobody linked the stop)
unfoldable pub isolated : List ℕ → ℕ → Bool
isolated g a = eqb (row g a) 0

-- every vertex has a neighbour (document 02: every stop has a link)
abbrev pub Linked : List ℕ → Type 0
Linked g = (a : ℕ) → a < length g → (b : ℕ) × (b < length g) × T (adjacent g a b)

unfoldable pub isolated_cause : List ℕ → Cause
isolated_cause g = let a = lowest_row (isolated g) (length g) in cause (ltb a (length g)) 14 a

-- a lent buffer of the length room is too short
unfoldable pub room_cause : ℕ → ℕ → Cause
room_cause room needed = cause (ltb room needed) 9 needed

-- ---- reading: line 1 by 8, then 1, 2, 3, the other lines by 8, then 7 of the silent set, 4, 5, 14, 9

abbrev pub field_causes : List ℕ → List Cause
field_causes t = number_check (vertex_field t) (slack_field t) (floor_field t)

unfoldable pub heading_causes : List ℕ → List Cause
heading_causes t = heading_cause t ∷ field_causes t

-- the silent set, and then the rows
abbrev pub set_causes : ℕ → List ℕ → List Cause
set_causes n b = let g = rows_in n b in set_cause g (silent_in b) ∷ graph_causes g ++ isolated_cause g ∷ []

-- line 2 and n rows: row a is line a + 3, and bytes after the last one are line n + 3
unfoldable pub body_causes : ℕ → List ℕ → List Cause
body_causes n b = lines_cause (n + 1) b ∷ set_causes n b

unfoldable pub sheet_causes : List ℕ → List Cause
sheet_causes t = heading_causes t ++ body_causes (vertex_field t) (body t)

unfoldable pub reading : List ℕ → ℕ → Reply Sheet
reading t room = first_cause (sheet_causes t ++ room_cause room (vertex_field t) ∷ []) (answered 0 (sheet_of t))

-- ---- writing: 1, 2, 3, 7, 4, 5, 14, 9

unfoldable pub sheet_check : List ℕ → Request → List Cause
sheet_check g ask = request_check g ask ++ isolated_cause g ∷ []

unfoldable pub writing : List ℕ → Request → ℕ → Reply (Unit {0})
writing g ask room =
    let needed = sheet_length (length g) in
    first_cause (sheet_check g ask ++ room_cause room needed ∷ []) (answered needed tt)

-- ---- the lent buffers: a refusal leaves them, and what lies beyond a success is kept

unfoldable pub over : List ℕ → List ℕ → List ℕ
over new old = new ++ drop (length new) old

abbrev pub rows_after : Reply Sheet → List ℕ → List ℕ
rows_after (refused c v) old = old
rows_after (answered v s) old = over s.rows old

abbrev pub text_after : Reply (Unit {0}) → List ℕ → List ℕ → List ℕ
text_after (refused c v) new old = old
text_after (answered v u) new old = over new old
