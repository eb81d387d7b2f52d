-- What the program prints for any text, and what it leaves in its slots.
--
--   with_list r l          the list l where the call that lists answered r with success, and else its refusal
--   answer_of x room       the answer to the sheet x that was read, with room slots for the list; a text that is no sheet is refused as reading it is
--   answer_text t room     the bytes that are printed for the text t
--   slots_left t slots     the slots at exit
--   Answers               the promise: the bytes written, their number, and the slots
--   Room slots out        the longest answer fits: what the functions below the entry point rely on
use Rattle.std.specs.Prelude.{ℕ, ◌≤◌, ◌≡◌, List, length}
use Rattle.judging.specs.Request.{Request}
use Rattle.judging.specs.Refusal.{Reply, refused, answered, most_vertices}
use Rattle.sheets.specs.Sheet.{Sheet, reading}
use Rattle.answers.specs.Output.{reply_text, list_length, refusal_length, Writes}
use Rattle.lists.specs.Listing.{listing}
use Rattle.search.specs.Calls.{list_reply, slots_after}

abbrev pub with_list : Reply (Unit {0}) → List ℕ → Reply (List ℕ)
with_list (refused n v) l = refused n v
with_list (answered m u) l = answered m l

abbrev pub answer_of : Reply Sheet → ℕ → Reply (List ℕ)
answer_of (refused n v) room = refused n v
answer_of (answered v s) room = with_list (list_reply s.rows s.request room) (listing s.rows s.request)

abbrev pub slots_of : Reply Sheet → List ℕ → List ℕ
slots_of (refused n v) slots = slots
slots_of (answered v s) slots = slots_after s.rows s.request slots

-- every graph that is accepted has room: number 9 never comes
unfoldable pub answer_text : List ℕ → ℕ → List ℕ
answer_text t room = reply_text (answer_of (reading t most_vertices) room)

unfoldable pub slots_left : List ℕ → List ℕ → List ℕ
slots_left t slots = slots_of (reading t most_vertices) slots

-- the call that lists answered, and its answer was written
pub record WritesList (g : List ℕ) (ask : Request) (before after old out : List ℕ) (r : ℕ) : Type 0 where
  pub written : Writes (reply_text (with_list (list_reply g ask (length before)) (listing g ask))) old out r
  pub slots : after ≡ slots_after g ask before

pub record Answers (t before after old out : List ℕ) (r : ℕ) : Type 0 where
  pub written : Writes (answer_text t (length before)) old out r
  pub slots : after ≡ slots_left t before

-- 17 bytes a slot and 17 more, and a refusal's 21
pub record Room (slots : List ℕ) (out : List ℕ) : Type 0 where
  pub list : list_length (length slots) ≤ length out
  pub refusal : refusal_length ≤ length out
