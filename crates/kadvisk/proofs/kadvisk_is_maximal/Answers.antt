-- The outcome is that of the answer of `judge_maximal` to the set of the mask.
use Rattle.kadvisk.proofs.kadvisk_is_maximal.Goals as goal

pub returns : goal.returns
returns c = rw (← c.from.ensures, ← c.judge_maximal.ensures) c.judged.ensures
