-- The pass has come to some vertex (`LaterPass`): the lowest of `left` is looked at next, as those before it would stay. At a look v stays or goes, as the
-- definition has it. The pass ends because a look takes v out of `left`, or out of `kept`.
use Rattle.std.proofs.Common.{◌+◌, ◌*◌, ◌^◌, length}
use Rattle.sets.specs.Words.{mask, masks}
use Rattle.bounds.specs.DoubtLaws.{LaterPass}
use Rattle.bounds.proofs.cores.later_pass.Given as goal

abbrev pub invariant-loop-left : goal.invariant-loop-left
invariant-loop-left l = LaterPass (masks l.rows) l.m (mask l.initial.kept) (mask l.kept) (mask l.left) (mask l.next)

abbrev pub decreases-loop-left : goal.decreases-loop-left
decreases-loop-left l = mask l.kept * 2 ^ length (masks l.rows) + mask l.left
