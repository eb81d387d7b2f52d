-- What the exported calls answer, for every input: the replies of the layers below as plain structs.
--
--   outcome found reply     the number, the value and what was found; of a refusal nothing is found, and that is 0
--   yes_no, itself, nothing  what is found as a number: 1 for yes and 0 for no; a looseness, a set's mask or a bound; 0 where the value says all
--   core_outcome reply       the same of a core, with its passes; of a refusal both are 0
--   read_outcome reply       the same of a sheet that is read, with its n, k, q and silent set; of a refusal these are 0
--   ListOutcome, ..         the outcome and the lent buffers at exit, as the promise of the call that lists, changes a book, reads a sheet, writes one
--                           or reads a graph in the DIMACS form
use Rattle.std.specs.Prelude.{ℕ, ◌≡◌, Bool, cond, List, length}
use Rattle.judging.specs.Request.{Request}
use Rattle.judging.specs.Refusal.{Reply, reply_number, reply_value, found_in}
use Rattle.bounds.specs.Core.{Peeling}
use Rattle.search.specs.Calls.{list_reply, slots_after}
use Rattle.books.specs.Book.{Change}
use Rattle.books.specs.Calls.{change_reply, rows_changed, slots_changed}
use Rattle.sheets.specs.Calls.{Heading, heading_of}
use Rattle.sheets.specs.Sheet.{sheet_text, reading, writing, rows_after, text_after}
use Rattle.dimacs.specs.Calls.{count_of}
use Rattle.dimacs.specs.Dimacs as dimacs
use Rattle.kadvisk.specs.declared.Outcome.{Outcome}
use Rattle.kadvisk.specs.declared.CoreOutcome.{CoreOutcome}
use Rattle.kadvisk.specs.declared.ReadOutcome.{ReadOutcome}

abbrev pub outcome : {A : Type 0} → (A → ℕ) → Reply A → Outcome
outcome found r = record { number = reply_number r; value = reply_value r; found = found_in found r }

abbrev pub yes_no : Bool → ℕ
yes_no b = cond b 1 0

abbrev pub itself : ℕ → ℕ
itself x = x

abbrev pub nothing : Unit {0} → ℕ
nothing u = 0

abbrev pub core_outcome : Reply Peeling → CoreOutcome
core_outcome r =
    record {
      number = reply_number r;
      value = reply_value r;
      core = found_in (λ p. p.core) r;
      passes = found_in (λ p. p.passes) r;
    }

abbrev pub read_outcome : Reply Heading → ReadOutcome
read_outcome r =
    record {
      number = reply_number r;
      value = reply_value r;
      vertices = found_in (λ h. h.vertices) r;
      slack = found_in (λ h. h.request.slack) r;
      floor = found_in (λ h. h.request.floor) r;
      silent = found_in (λ h. h.request.silent) r;
    }

-- ---- the calls that write to a lent buffer

pub record ListOutcome (g : List ℕ) (ask : Request) (before after : List ℕ) (r : Outcome) : Type 0 where
  pub answer : r ≡ outcome nothing (list_reply g ask (length before))
  pub slots : after ≡ slots_after g ask before

-- h are the rows at exit
pub record ChangeOutcome (g : List ℕ) (ask : Request) (c : Change) (before h after : List ℕ) (r : Outcome) : Type 0 where
  pub answer : r ≡ outcome nothing (change_reply g ask c (length before))
  pub rows : h ≡ rows_changed g ask c (length before)
  pub slots : after ≡ slots_changed g ask c before

pub record ReadSheetOutcome (text before after : List ℕ) (r : ReadOutcome) : Type 0 where
  pub answer : r ≡ read_outcome (heading_of (reading text (length before)))
  pub rows : after ≡ rows_after (reading text (length before)) before

pub record WriteSheetOutcome (g : List ℕ) (ask : Request) (before after : List ℕ) (r : Outcome) : Type 0 where
  pub answer : r ≡ outcome nothing (writing g ask (length before))
  pub text : after ≡ text_after (writing g ask (length before)) (sheet_text g ask) before

pub record ReadDimacsOutcome (text before after : List ℕ) (r : Outcome) : Type 0 where
  pub answer : r ≡ outcome nothing (count_of (dimacs.reading text (length before)))
  pub rows : after ≡ dimacs.rows_after (dimacs.reading text (length before)) before
