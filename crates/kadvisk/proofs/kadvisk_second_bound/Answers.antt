-- The outcome is that of the answer of `second_bound` to the sets of the masks.
use Rattle.kadvisk.proofs.kadvisk_second_bound.Goals as goal

pub returns : goal.returns
returns c = rw (← c.from.ensures, ← c.from-2.ensures, ← c.second_bound-found.ensures) c.number.ensures
