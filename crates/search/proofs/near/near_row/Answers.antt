-- The reach row is found first, and sifted by pairs where they are switched on: that is how the definition gives the row.
use mathlib.Core.Path.{sym}
use Rattle.sets.specs.SizeLaws.{and_below}
use Rattle.search.specs.NearRows.{near_row}
use Rattle.search.proofs.near.near_row.Goals as goal

pub row-requires : goal.row-requires
row-requires c = (rw c.meet.ensures (and_below _ _ _ c.requires.0.below), c.requires.1)

pub returns-then-pairs : goal.returns-then-pairs
unfolding near_row
returns-then-pairs c = rw (c.if-pairs.true, sym c.reach_row-within.ensures, sym c.meet.ensures) c.row.ensures

pub returns : goal.returns
unfolding near_row
returns c = rw c.if-pairs.false c.reach_row-within.ensures
