-- The tests are those of the definition's end, in its order; n, m and the number of e lines are what the progress holds.
use native.Mathlib.Omega.{arith}
use Rattle.dimacs.specs.ReadLaws.{end_unsaid, end_counted, end_short, end_read}
use Rattle.dimacs.proofs.state.Scan.end.Goals as goal

pub returns-in_default : goal.returns-in_default
returns-in_default c s ms h = end_unsaid c.in_default.is _ _ ms s h

pub returns-then-progress : goal.returns-then-progress
returns-then-progress c s ms h = end_counted c.in-Some.is _ _ ms s h c.if-progress.true

pub returns-then-room-progress : goal.returns-then-room-progress
returns-then-room-progress c s ms h = end_short c.in-Some.is _ _ ms s h c.if-progress.false (omega arith)

pub returns : goal.returns
returns c s ms h = end_read c.in-Some.is _ _ ms s h c.if-progress.false (omega arith)
