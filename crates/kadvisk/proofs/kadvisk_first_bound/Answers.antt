-- The outcome is that of the answer of `first_bound` to the sets of the masks.
use Rattle.kadvisk.proofs.kadvisk_first_bound.Goals as goal

pub returns : goal.returns
returns c = rw (← c.from.ensures, ← c.from-2.ensures, ← c.first_bound-found.ensures) c.number.ensures
