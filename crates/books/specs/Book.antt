-- A season book (document 02, Card 3): a graph, a request and the current list; and what it is after a change.
--
--   Change             two vertices, and whether they are adjacent afterwards
--   change_of c        the change c of the code, as definitions have it
--   turned s v on      s with v, or without it
--   already_so g c      the two vertices of c are adjacent, or not, in g already as c says
--   changed_graph g c   the graph g with the two vertices of c adjacent, or not: both rows change, and no other
--   Book               the rows of a graph, a request and a list
--   opened g ask       the book of a graph and a request: its list is made afresh
--   changed k c        the book k after the change c: its list is made afresh from the changed graph
use Rattle.std.specs.Prelude.{ℕ, Bool, not, cond, List, set}
use Rattle.sets.specs.Set.{with, without}
use Rattle.sets.specs.Graph.{row}
use Rattle.judging.specs.Graph.{adjacent}
use Rattle.judging.specs.Request.{Request}
use Rattle.lists.specs.Listing.{listing}
use Rattle.books.specs.declared.edge.Change as declared

pub record Change : Type 0 where
  pub one : ℕ
  pub other : ℕ
  pub on : Bool

abbrev pub change : ℕ → ℕ → Bool → Change
change a b on = record { one = a; other = b; on = on }

abbrev pub change_of : declared.Change → Change
change_of c = change c.a c.b c.adjacent

abbrev pub turned : ℕ → ℕ → Bool → ℕ
turned s v on = cond on (with s v) (without s v)

unfoldable pub already_so : List ℕ → Change → Bool
already_so g c = let now = adjacent g c.one c.other in cond c.on now (not now)

unfoldable pub changed_graph : List ℕ → Change → List ℕ
changed_graph g c =
    set (set g c.one (turned (row g c.one) c.other c.on)) c.other (turned (row g c.other) c.one c.on)

pub record Book : Type 0 where
  pub rows : List ℕ
  pub request : Request
  pub list : List ℕ

abbrev pub opened : List ℕ → Request → Book
opened g ask = record { rows = g; request = ask; list = listing g ask }

abbrev pub changed : Book → Change → Book
changed k c = opened (changed_graph k.rows c) k.request
