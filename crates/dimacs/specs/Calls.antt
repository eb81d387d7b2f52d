-- What the public call of this crate answers, and what it leaves in the lent rows, for every input.
--
--   ReadDimacs          reading a text into lent rows answered r and left the rows so
use Rattle.std.specs.Prelude.{ℕ, ◌≡◌, List, length, Result}
use Rattle.judging.specs.Refusal.{Reply, refused, answered}
use Rattle.judging.specs.Calls.{valued_reply}
use Rattle.judging.specs.declared.Refusal.{Refusal}
use Rattle.dimacs.specs.Dimacs.{reading, rows_after}

-- of a graph that is read, n is returned
abbrev pub count_of : Reply (List ℕ) → Reply (Unit {0})
count_of (refused c v) = refused c v
count_of (answered n g) = answered n tt

pub record ReadDimacs (text before after : List ℕ) (r : Result ℕ Refusal) : Type 0 where
  pub reply : valued_reply r ≡ count_of (reading text (length before))
  pub rows : after ≡ rows_after (reading text (length before)) before
