-- What is tested is the number of rows.
use Rattle.judging.proofs.check.rows_accepted.Goals as goal

pub returns : goal.returns
returns c = rw c.count.ensures at c.vertices_accepted.ensures
