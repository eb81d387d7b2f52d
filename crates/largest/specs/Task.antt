-- A task of the code, as definitions have it.
--
--   graph t   the graph that it is about
--   ask t     the request whose listed plexes are searched for: no vertex is silent
use Rattle.std.specs.Prelude.{ℕ, List}
use Rattle.sets.specs.Words.{masks}
use Rattle.judging.specs.Request.{Request, request}
use Rattle.largest.specs.declared.task.Task.{Task}

abbrev pub graph : Task → List ℕ
graph t = masks t.rows.now

abbrev pub ask : Task → Request
ask t = request t.k t.q 0
