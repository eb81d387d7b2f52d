-- Each cut adds nothing, a leaf adds itself, and the branches with and without a vertex share the rest.
-- The measure is the number c, which falls when a candidate leaves it.
use Rattle.sets.specs.Words.{mask}
use Rattle.search.proofs.branch.Search.+branch.Given as goal

abbrev pub decreases-branch : goal.decreases-branch
decreases-branch l = mask l.c
