-- After so many turns as the counter says the base is in as many colour classes: each turn adds a class of what is left.
use Rattle.sets.specs.Words.{mask, masks}
use Rattle.largest.specs.ColourLaws.{Colouring}
use Rattle.largest.proofs.colours.colour.Given as goal

abbrev pub invariant-loop : goal.invariant-loop
invariant-loop l = Colouring (masks l.rows) (mask l.initial.left) l.counter (mask l.left) (mask l.base)
