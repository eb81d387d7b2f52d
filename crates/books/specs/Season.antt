-- A season: changes called for one after the other, each with slots that may hold anything. The book keeps its list the list of its graph, by induction over
-- the sequence, and after each call the rows that were lent are the book's; after one that is answered the first slots are its list.
--
--   Turn           a change that is called for, and what the slots hold then
--   answer k t     what the call answers where the lent rows are those of the book k
--   next k t       the book after the call: as it was where the call declines
--   season k ts    the book after the calls ts, the first of them first
--   Current k      its list is the list made afresh from its graph
use Rattle.std.specs.Prelude.{ℕ, ◌≡◌, List, [], ◌∷◌, length, take, drop}
use Rattle.std.proofs.Math.Path.{refl}
use Rattle.std.proofs.Common.{sym, ap, ◌∙◌, take_at}
use Rattle.judging.specs.Request.{Request}
use Rattle.judging.specs.Refusal.{Reply, refused, answered}
use Rattle.lists.specs.Listing.{listing}
use Rattle.search.specs.RoomLaws.{room_value}
use Rattle.books.specs.Book.{Change, changed_graph, Book, opened, changed}
use Rattle.books.specs.Calls.{change_check, change_reply, unless_refused, rows_changed, slots_changed}

pub record Turn : Type 0 where
  pub change : Change
  pub slots : List ℕ

abbrev pub answer : Book → Turn → Reply (Unit {0})
answer k t = change_reply k.rows k.request t.change (length t.slots)

abbrev pub next : Book → Turn → Book
next k t = unless_refused (answer k t) k (changed k t.change)

unfoldable pub season : Book → List Turn → Book
season k [] = k
season k (t ∷ ts) = season (next k t) ts

abbrev pub Current : Book → Type 0
Current k = k.list ≡ listing k.rows k.request

-- ---- the book's list

pub opened_current : (g : List ℕ) (ask : Request) → Current (opened g ask)
opened_current g ask = refl

pub next_current : (k : Book) (t : Turn) → Current k → Current (next k t)
next_current k t e = go (answer k t)
  where
    go : (r : Reply (Unit {0})) → Current (unless_refused r k (changed k t.change))
    go (refused n v) = e
    go (answered v u) = refl

pub season_current : (k : Book) (ts : List Turn) → Current k → Current (season k ts)
unfolding season
season_current k [] e = e
season_current k (t ∷ ts) e = season_current (next k t) ts (next_current k t e)

pub season-request : (k : Book) (ts : List Turn) → (season k ts).request ≡ k.request
unfolding season
season-request k [] = refl
season-request k (t ∷ ts) = season-request (next k t) ts ∙ go (answer k t)
  where
    go : (r : Reply (Unit {0})) → (unless_refused r k (changed k t.change)).request ≡ k.request
    go (refused n v) = refl
    go (answered v u) = refl

-- after any changes from an opened book the list is the list of the graph as it is then
pub season_list : (g : List ℕ) (ask : Request) (ts : List Turn) → (season (opened g ask) ts).list ≡ listing (season (opened g ask) ts).rows ask
season_list g ask ts =
    let k = opened g ask in
    season_current k ts (opened_current g ask) ∙ ap (listing (season k ts).rows) (season-request k ts)

-- ---- the lent memory

module _ (k : Book) (t : Turn) where
  pub turn_rows : rows_changed k.rows k.request t.change (length t.slots) ≡ (next k t).rows
  unfolding rows_changed
  turn_rows = go (answer k t)
    where
      go : (r : Reply (Unit {0})) → unless_refused r k.rows (changed_graph k.rows t.change) ≡ (unless_refused r k (changed k t.change)).rows
      go (refused n v) = refl
      go (answered v u) = refl

  pub turn_list : {m : ℕ} → answer k t ≡ answered m tt → take m (slots_changed k.rows k.request t.change t.slots) ≡ (next k t).list
  unfolding slots_changed change_reply
  turn_list {m} e =
      let l = listing (changed_graph k.rows t.change) k.request in
      rw e (take_at l (drop (length l) t.slots) m (sym (room_value (change_check k.rows k.request t.change) (length l) (length t.slots) e)))

  pub turn_left : {n v : ℕ} → answer k t ≡ refused n v
      → (slots_changed k.rows k.request t.change t.slots ≡ t.slots) × (next k t ≡ k)
  unfolding slots_changed
  turn_left e = (rw e refl, rw e refl)
