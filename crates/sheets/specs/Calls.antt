-- What the public calls of this crate answer, and what they leave in the lent buffers, for every input.
--
--   Heading             n and the request, which a read that succeeds returns
--   ReadSheet           reading a text into lent rows answered r and left the rows so
--   WroteSheet          writing rows and a request into lent text answered r and left the text so
use Rattle.std.specs.Prelude.{ℕ, ◌≡◌, List, length, Result, Ok, Err}
use Rattle.judging.specs.Request.{Request, asked}
use Rattle.judging.specs.Refusal.{Reply, refused, answered}
use Rattle.judging.specs.Calls.{refusal, valued_reply}
use Rattle.sheets.specs.Sheet.{Sheet, sheet_text, reading, writing, rows_after, text_after}
use Rattle.judging.specs.declared.Refusal.{Refusal}
use Rattle.sheets.specs.declared.Sheet as code

pub record Heading : Type 0 where
  pub vertices : ℕ
  pub request : Request

abbrev pub heading : ℕ → Request → Heading
heading n ask = record { vertices = n; request = ask }

-- of a sheet that is read, n and the request are returned
abbrev pub heading_of : Reply Sheet → Reply Heading
heading_of (refused c v) = refused c v
heading_of (answered v s) = answered v (heading (length s.rows) s.request)

abbrev pub read_reply : Result code.Sheet Refusal → Reply Heading
read_reply (Ok s) = answered 0 (heading s.vertices (asked s.request))
read_reply (Err f) = refusal f

pub record ReadSheet (text before after : List ℕ) (r : Result code.Sheet Refusal) : Type 0 where
  pub reply : read_reply r ≡ heading_of (reading text (length before))
  pub rows : after ≡ rows_after (reading text (length before)) before

pub record WroteSheet (g : List ℕ) (ask : Request) (before after : List ℕ) (r : Result ℕ Refusal) : Type 0 where
  pub reply : valued_reply r ≡ writing g ask (length before)
  pub text : after ≡ text_after (writing g ask (length before)) (sheet_text g ask) before
