-- The outcome is that of the answer of `find_reach`.
use Rattle.kadvisk.proofs.kadvisk_reach.Goals as goal

pub returns : goal.returns
returns c = rw (← c.find_reach.ensures) c.reach.ensures
