-- The vertices below v have been looked at (`FirstPass`): at a look v stays or goes, as the definition has it, and where it goes those beside it come into
-- doubt.
use Rattle.sets.specs.Words.{mask, masks}
use Rattle.bounds.specs.DoubtLaws.{FirstPass}
use Rattle.bounds.proofs.cores.first_pass.Given as goal

abbrev pub invariant-loop-v : goal.invariant-loop-v
invariant-loop-v l = FirstPass (masks l.rows) l.m (mask l.initial.kept) l.v (mask l.kept) (mask l.doubt)
