-- The outcome is that of the answer of `largest` to the set of the mask.
use Rattle.kadvisk.proofs.kadvisk_largest.Goals as goal

pub returns : goal.returns
returns c = rw (← c.from.ensures, ← c.largest.ensures) c.largest-2.ensures
