-- The vertices shared by the members passed hold all that the members of s share, and lie in the row of each member passed: when none is left they are
-- the common neighbours.
use Rattle.sets.specs.Words.{mask, masks}
use Rattle.search.specs.CliqueLaws.{Sharing}
use Rattle.search.proofs.cliques.common.Given as goal

abbrev pub invariant-loop-left : goal.invariant-loop-left
invariant-loop-left l = Sharing (masks l.rows) (mask l.initial.left) (mask l.left) (mask l.shared)

abbrev pub decreases-loop-left : goal.decreases-loop-left
decreases-loop-left l = mask l.left
