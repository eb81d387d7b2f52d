-- Each pass is the definition's, and s holds every dense set within the first all the way; the passes made and those from s on are one more than those from
-- the first set on (`Peels`). A pass makes s smaller, or takes none: then s is the core within it, and that pass is the last.
use Rattle.sets.specs.Words.{mask, masks}
use Rattle.bounds.specs.PeelLaws.{Peels}
use Rattle.bounds.proofs.cores.peel_from.Given as goal

abbrev pub invariant-loop-s : goal.invariant-loop-s
invariant-loop-s l = Peels (masks l.rows) l.m (mask l.initial.s) (mask l.s) (mask l.passed.kept) (mask l.passed.doubt) l.passes

abbrev pub decreases-loop-s : goal.decreases-loop-s
decreases-loop-s l = mask l.s
