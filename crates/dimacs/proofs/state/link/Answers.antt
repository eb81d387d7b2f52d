-- One row is changed and then the other, as in the definition; both are there, since the length stays.
use native.Mathlib.Omega.{arith}
use Rattle.dimacs.specs.RowLaws.{row_stays, both_added}
use Rattle.dimacs.proofs.state.link.Goals as goal

pub add-requires-2 : goal.add-requires-2
add-requires-2 c = (omega (arith, c.requires.1, c.requires.2, row_stays _ _ _ c.add.ensures), c.requires.0)

pub returns : goal.returns
returns c = both_added _ _ _ c.add.ensures c.add-2.ensures
