-- What is asked of a graph: the slack k and the floor q (document 01), and the silent vertices (document 02, card 6: stops without a recording).
--
--   request k q z   the request for the slack k, the floor q and the silent set z
--   recorded ask s  the members of s that are not silent (document 02: its recorded stops)
--   asked r         the request r of the code, as definitions have it
use Rattle.std.specs.Prelude.{ℕ}
use Rattle.sets.specs.Set.{minus}
use Rattle.sets.specs.Words.{mask}
use Rattle.judging.specs.declared.Request as declared

pub record Request : Type 0 where
  pub slack : ℕ
  pub floor : ℕ
  pub silent : ℕ

abbrev pub request : ℕ → ℕ → ℕ → Request
request k q z = record { slack = k; floor = q; silent = z }

abbrev pub recorded : Request → ℕ → ℕ
recorded ask s = minus s ask.silent

abbrev pub asked : declared.Request → Request
asked r = request r.slack r.floor (mask r.silent)
