-- A branch is cut where nothing listed is left in it; at a leaf all of it is a plex; and where the branch without a vertex gave nothing, the branch with it
-- decides. Each call has fewer candidates, as a number, than the one before.
use Rattle.sets.specs.Words.{mask}
use Rattle.largest.proofs.task.Task.+find.Given as goal

abbrev pub decreases-find : goal.decreases-find
decreases-find l = mask l.c
