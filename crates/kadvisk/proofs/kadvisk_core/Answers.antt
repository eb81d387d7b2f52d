-- The outcome is that of the answer of `find_core`.
use Rattle.kadvisk.proofs.kadvisk_core.Goals as goal

pub returns : goal.returns
returns c = rw (← c.find_core.ensures) c.core.ensures
