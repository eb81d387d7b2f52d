-- The row is read, b is put into it, and it is stored where it stood.
use Rattle.dimacs.specs.RowLaws.{row-added}
use Rattle.dimacs.proofs.state.add.Goals as goal

pub returns : goal.returns
returns c = row-added _ _ _ c.get.ensures c.with.ensures c.put.ensures
