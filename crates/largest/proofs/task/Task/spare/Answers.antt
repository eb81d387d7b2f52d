-- Where w lacks h, it is one itself; else one is sought among the sets without h, and any of these is lower than w.
use Rattle.std.proofs.Common.{arith, refl}
use Rattle.sets.specs.SubsetLaws.{in_below}
use Rattle.largest.specs.ClimbLaws.{sparing_ready, spared_itself, spared_sought}
use Rattle.largest.proofs.TestLaws.{test_in, test_out}
use Rattle.largest.proofs.task.Task.spare.Goals as goal

pub has-requires : goal.has-requires
has-requires c = omega (arith, in_below _ _ _ c.requires.ready.fine.candidates c.requires.highest.member)

pub one-requires : goal.one-requires
one-requires c = ((sparing_ready c.requires).fine, c.requires.floor)

pub returns-then-has : goal.returns-then-has
returns-then-has c = spared_sought c.requires _ (test_in _ _ c.has.ensures c.if-has.true) c.one.ensures

pub returns : goal.returns
returns c = spared_itself c.requires refl (test_out _ _ c.has.ensures c.if-has.false)
