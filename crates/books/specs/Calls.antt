-- What the call that changes a book answers, and what it leaves in the rows and the slots, for every input.
--
--   loop_cause c                number 12: both vertices are the same
--   unchanged_cause g c         number 13: the edge is already so
--   change_check g ask c        the causes that are looked at before the new list, in their order
--   change_reply g ask c room   the answer: refused, or m, the length of the new list
--   unless_refused r old new    what a lent buffer then holds: of a refusal what it held
--   rows_changed, slots_changed  what the rows and the slots then hold
--   Changes                    the answer, the rows and the slots, as the call's promise
--   Changeable g c             what is known of a change that passes: two vertices of the graph, not the same
--   Renews                     the promise of the function below the call: what is collected, and slots that are too few are left
use Rattle.std.specs.Prelude.{ℕ, ◌<◌, ◌≡◌, ◌≢◌, List, [], ◌∷◌, ◌++◌, eqb, length, drop}
use Rattle.judging.specs.Request.{Request}
use Rattle.judging.specs.Refusal.{Reply, refused, answered, Cause, cause, vertex_out_cause}
use Rattle.judging.specs.Calls.{valued_reply, request_check}
use Rattle.search.specs.Calls.{room_reply, Collects}
use Rattle.judging.specs.declared.Refusal.{Refusal}
use Rattle.std.specs.Prelude.{Result}
use Rattle.books.specs.Book.{Change, already_so, opened, changed}

unfoldable pub loop_cause : Change → Cause
loop_cause c = cause (eqb c.one c.other) 12 0

unfoldable pub unchanged_cause : List ℕ → Change → Cause
unchanged_cause g c = cause (already_so g c) 13 0

-- 7 for the vertices, 12, 13
unfoldable pub pair_causes : List ℕ → Change → List Cause
pair_causes g c = vertex_out_cause g c.one ∷ vertex_out_cause g c.other ∷ loop_cause c ∷ unchanged_cause g c ∷ []

-- 1, 2, 3, 7 for the silent set, 4, 5, 7 for the vertices, 12, 13
unfoldable pub change_check : List ℕ → Request → Change → List Cause
change_check g ask c = request_check g ask ++ pair_causes g c

-- and 6
unfoldable pub change_reply : List ℕ → Request → Change → ℕ → Reply (Unit {0})
change_reply g ask c room = room_reply (change_check g ask c) (length (changed (opened g ask) c).list) room

abbrev pub unless_refused : {A : Type 0} → Reply (Unit {0}) → A → A → A
unless_refused (refused n v) old new = old
unless_refused (answered v u) old new = new

unfoldable pub rows_changed : List ℕ → Request → Change → ℕ → List ℕ
rows_changed g ask c room = unless_refused (change_reply g ask c room) g (changed (opened g ask) c).rows

unfoldable pub slots_changed : List ℕ → Request → Change → List ℕ → List ℕ
slots_changed g ask c slots =
    let l = (changed (opened g ask) c).list in
    unless_refused (change_reply g ask c (length slots)) slots (l ++ drop (length l) slots)

-- h are the rows at exit
pub record Changes (g : List ℕ) (ask : Request) (c : Change) (before h after : List ℕ) (r : Result ℕ Refusal) : Type 0 where
  pub reply : valued_reply r ≡ change_reply g ask c (length before)
  pub rows : h ≡ rows_changed g ask c (length before)
  pub slots : after ≡ slots_changed g ask c before

-- ---- below the call

pub record Changeable (g : List ℕ) (c : Change) : Type 0 where
  pub one : c.one < length g
  pub other : c.other < length g
  pub apart : c.one ≢ c.other

pub record Renews (g : List ℕ) (ask : Request) (before after : List ℕ) (m : ℕ) : Type 0 where
  pub made : Collects g ask before after m
  pub short : length before < m → after ≡ before
