-- What the functions below the entry point answer, and what they rely on.
--
--   capped x           the number x, or `above` for every number above most_edges
--   digit_value b      the value of the byte b as a digit, where it is one;  digits_value bs, the number that the bytes bs are in digits, capped;
--                      figure_value bs, the same of a figure;  fields_value bs, those of two figures parted by one blank
--   kind_told k        the kind that the code tells as k;  capped_kind k, the kind k as the code tells it
--   FirstLine t at r   r tells the first line of what stands in t from position at on
--   GivesLine r l r'   the line reader r gives the line l, and is r' then
--   linked g a b       the rows g with the edge of a and b
--   Sound s            the state s is a graph as far as it goes: n is accepted, and its edges are proper
--   Stands s p ms      the progress p and a table of the rows ms hold the state s
--   Takes p ms         p and ms have room for one line more
--   Comes x r ms       the result r of a line, which leaves the rows ms, is the reply x
--   Scanned x r ms     the same of all lines;  Ends x r ms, of the whole reading
use Rattle.std.specs.Prelude.{ℕ, suc, ◌+◌, ◌^◌, ◌≤◌, ◌<◌, min, ◌≡◌, cond, List, [], T, ltb, length, take, drop, set}
use Rattle.std.specs.Prelude.{MatchOption, Option, None, Some, Result, Ok, Err}
use Rattle.sets.specs.Ranges.{all}
use Rattle.sets.specs.Words.{width}
use Rattle.sets.specs.Set.{with}
use Rattle.sets.specs.Graph.{row}
use Rattle.sheets.specs.Lines.{newline}
use Rattle.judging.specs.Refusal.{Reply, refused, answered, most_vertices}
use Rattle.judging.specs.Calls.{refusal}
use Rattle.judging.specs.declared.Refusal.{Refusal}
use Rattle.dimacs.specs.Figures.{decimal_value, is_decimal, number, is_figure}
use Rattle.dimacs.specs.Lines.{before, Line, line, Kind, comment, problem, edge, other, first_field, second_field, is_pair, most_edges, kind_of}
use Rattle.dimacs.specs.Dimacs.{Edge, joins, rows_of, State, start, graph}
use Rattle.dimacs.specs.declared.lines.Kind.{Kind as ToldKind}
use Rattle.dimacs.specs.declared.lines.Kind.TheVariants as told
use Rattle.dimacs.specs.declared.lines.Line.{Line as ToldLine}
use Rattle.dimacs.specs.declared.reader.Reader.{Reader}
use Rattle.dimacs.specs.declared.state.Progress.{Progress}
use Rattle.dimacs.specs.declared.state.Scan.{Scan}

-- ---- figures

abbrev pub above : ℕ
above = most_edges + 1

abbrev pub capped : ℕ → ℕ
capped x = min x above

unfoldable pub digit_value : ℕ → Option ℕ
digit_value b = cond (is_decimal b) (Some (decimal_value b)) None

unfoldable pub digits_value : List ℕ → Option ℕ
digits_value bs = cond (all is_decimal bs) (Some (capped (number bs))) None

unfoldable pub figure_value : List ℕ → Option ℕ
figure_value bs = cond (is_figure bs) (Some (capped (number bs))) None

unfoldable pub fields_value : List ℕ → Option (ℕ × ℕ)
fields_value bs = cond (is_pair bs) (Some (capped (number (first_field bs)), capped (number (second_field bs)))) None

-- ---- lines

abbrev pub kind_told : Option ToldKind → Kind
kind_told None = other
kind_told (Some told.Comment) = comment
kind_told (Some (told.Problem n m)) = problem n m
kind_told (Some (told.Edge u v)) = edge u v

-- m is never above most_edges
abbrev pub capped_kind : Kind → Kind
capped_kind comment = comment
capped_kind (problem n m) = problem (capped n) m
capped_kind (edge u v) = edge (capped u) (capped v)
capped_kind other = other

abbrev pub line_length : List ℕ → ℕ
line_length t = before newline t

abbrev pub first_line : List ℕ → Line
first_line t = line (take (line_length t) t) (ltb (line_length t) (length t))

pub record FirstLine (t : List ℕ) (at : ℕ) (r : ToldLine) : Type 0 where
  pub told : kind_told r.kind ≡ capped_kind (kind_of (first_line (drop at t)))
  pub more : at < r.next
  pub upto : r.next ≤ length t
  pub rest : drop r.next t ≡ drop (suc (line_length (drop at t))) (drop at t)

-- the next line, where one is left; where none is, the reader stays where it is
pub record GivesLine (r : Reader) (l : Option ToldLine) (r' : Reader) : Type 0 where
  pub text : r'.text.now ≡ r.text.now
  pub line :
      MatchOption l ((length r.text.now ≤ r.at) × (r'.at ≡ r.at)) (λ x. (r.at < length r.text.now) × FirstLine r.text.now r.at x × (r'.at ≡ x.next))

-- ---- from line to line

-- the rows g with b in row a
unfoldable pub added : List ℕ → ℕ → ℕ → List ℕ
added g a b = set g a (with (row g a) b)

unfoldable pub linked : List ℕ → ℕ → ℕ → List ℕ
linked g a b = added (added g a b) b a

-- both ends of every edge are vertices below n, and no edge joins a vertex to itself
pub record Proper (n : ℕ) (es : List Edge) : Type 0 where
  pub inside : (a b : ℕ) → T (joins es a b) → (a < n) × (b < n)
  pub loopless : (a : ℕ) → T (joins es a a) → ⊥

-- what the lines so far have said is a graph as far as it goes
pub record Accepted (n : ℕ) (es : List Edge) : Type 0 where
  pub some : 1 ≤ n
  pub most : n ≤ most_vertices
  pub proper : Proper n es

abbrev pub Sound : State → Type 0
Sound start = Unit {0}
Sound (graph n m es) = Accepted n es

abbrev pub edges_in : State → List Edge
edges_in start = []
edges_in (graph n m es) = es

pub record Holds (n m : ℕ) (es : List Edge) (p : Progress) : Type 0 where
  pub vertices : p.vertices ≡ n
  pub edges : p.edges ≡ m
  pub read : p.read ≡ length es

abbrev pub Said : State → Option Progress → Type 0
Said start None = Unit {0}
Said start (Some p) = ⊥
Said (graph n m es) None = ⊥
Said (graph n m es) (Some p) = Holds n m es p

pub record Stands (s : State) (p : Option Progress) (ms : List ℕ) : Type 0 where
  pub sound : Sound s
  pub said : Said s p
  pub rows : ms ≡ rows_of width (edges_in s)

pub record Takes (p : Progress) (ms : List ℕ) : Type 0 where
  pub most : p.vertices ≤ width
  pub fits : p.read + 1 < 2 ^ 64
  pub wide : length ms ≡ width

abbrev pub Comes : Reply State → Result (Option Progress) Refusal → List ℕ → Type 0
Comes (refused c v) (Err f) ms = refusal {A = Unit {0}} f ≡ refused c v
Comes (refused c v) (Ok p) ms = ⊥
Comes (answered v s) (Err f) ms = ⊥
Comes (answered v s) (Ok p) ms = Stands s p ms

-- ---- all lines, and the end

abbrev pub Scanned : Reply State → Result Scan Refusal → List ℕ → Type 0
Scanned (refused c v) (Err f) ms = refusal {A = Unit {0}} f ≡ refused c v
Scanned (refused c v) (Ok e) ms = ⊥
Scanned (answered v s) (Err f) ms = ⊥
Scanned (answered v s) (Ok e) ms = (e.number ≡ v) × Stands s e.progress ms

abbrev pub Ends : ℕ → Reply (List ℕ) → Result ℕ Refusal → List ℕ → Type 0
Ends room (refused c v) (Err f) ms = refusal {A = Unit {0}} f ≡ refused c v
Ends room (refused c v) (Ok n) ms = ⊥
Ends room (answered v g) (Err f) ms = ⊥
Ends room (answered v g) (Ok n) ms = (n ≡ v) × (n ≤ room) × (n ≤ length ms) × (take n ms ≡ g)
