-- The outcome is that of the answer of `looseness` to the set of the mask.
use Rattle.kadvisk.proofs.kadvisk_looseness.Goals as goal

pub returns : goal.returns
returns c = rw (← c.from.ensures, ← c.looseness.ensures) c.number.ensures
