-- What the functions below the entry points answer.
--
--   ReadsDigit b r       r is the value of the byte b as a digit, or None where b is none
--   ReadsNumber bs r     r is the number that the bytes bs are as digits, or None where one of them is none
--   ReadsLine w t r      r is the number on the line of w digits that t begins with, or None where t begins with none
--   ReadsSet a t r       r is the set in line a of t, counted from 0, or the refusal of that line
--   SaysFields t h       h has the fields of line 1 of t
--   ReadsFields t r      r has them, or is None where line 1 is not as laid out
--   SaysSets n t g s     s is the silent set of t, which stands below line 1, and g are its n rows
--   SaysSheet t g s      s has what lines 1 and 2 of t say, and the first rows of g are those of t
--   Judged xs P r        none of the causes xs holds, and P is true of what was read; or the first that holds is the refusal
use Rattle.std.specs.Prelude.{ℕ, ◌+◌, ◌*◌, ◌<◌, ◌≤◌, ◌≡◌, true, false, List, take, drop, Option, Some, None, Result, Ok, Err}
use Rattle.sets.specs.declared.Set.{Set}
use Rattle.sets.specs.Ranges.{all}
use Rattle.sets.specs.Words.{mask}
use Rattle.judging.specs.Request.{asked}
use Rattle.judging.specs.Refusal.{Cause, first_cause}
use Rattle.judging.specs.Calls.{passed, refusal}
use Rattle.judging.specs.declared.Refusal.{Refusal}
use Rattle.judging.specs.declared.Refusal.TheVariants.{Line}
use Rattle.sheets.specs.declared.Sheet as code
use Rattle.sheets.specs.declared.heading.Heading as first
use Rattle.sheets.specs.Digits.{no_digit, digit_value, is_digit, number}
use Rattle.sheets.specs.Lines.{is_line, field}
use Rattle.sheets.specs.Sheet.{heading_digits, row_digits, row_length, vertex_field, slack_field, floor_field, body, silent_in, rows_in, request_in}

abbrev pub ReadsDigit : ℕ → Option ℕ → Type 0
ReadsDigit b (Some d) = (d ≡ digit_value b) × (d < no_digit)
ReadsDigit b None = no_digit ≤ digit_value b

abbrev pub ReadsNumber : List ℕ → Option ℕ → Type 0
ReadsNumber bs (Some x) = (x ≡ number bs) × (all is_digit bs ≡ true)
ReadsNumber bs None = all is_digit bs ≡ false

abbrev pub ReadsLine : ℕ → List ℕ → Option ℕ → Type 0
ReadsLine w t (Some x) = (x ≡ field 0 w t) × (is_line w t ≡ true)
ReadsLine w t None = is_line w t ≡ false

-- line a stands below line 1, as line a + 2
abbrev pub ReadsSet : ℕ → List ℕ → Result Set Refusal → Type 0
ReadsSet a t (Ok s) = (mask s ≡ field (a * row_length) row_digits t) × (is_line row_digits (drop (a * row_length) t) ≡ true)
ReadsSet a t (Err f) = (f ≡ Line (a + 2)) × (is_line row_digits (drop (a * row_length) t) ≡ false)

pub record SaysFields (t : List ℕ) (h : first.Heading) : Type 0 where
  pub vertices : h.vertices ≡ vertex_field t
  pub slack : h.slack ≡ slack_field t
  pub floor : h.floor ≡ floor_field t

abbrev pub ReadsFields : List ℕ → Option first.Heading → Type 0
ReadsFields t (Some h) = SaysFields t h × (is_line heading_digits t ≡ true)
ReadsFields t None = is_line heading_digits t ≡ false

pub record SaysSets (n : ℕ) (t g : List ℕ) (s : Set) : Type 0 where
  pub silent : mask s ≡ silent_in t
  pub rows : g ≡ rows_in n t

pub record SaysSheet (t g : List ℕ) (s : code.Sheet) : Type 0 where
  pub vertices : s.vertices ≡ vertex_field t
  pub request : asked s.request ≡ request_in t
  pub rows : take s.vertices g ≡ rows_in s.vertices (body t)

abbrev pub Judged : {A : Type 0} → List Cause → (A → Type 0) → Result A Refusal → Type 0
Judged xs P (Ok a) = P a × (passed ≡ first_cause xs passed)
Judged xs P (Err f) = refusal f ≡ first_cause xs passed
