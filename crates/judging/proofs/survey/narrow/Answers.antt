-- A member that misses k or more narrows what is free to its row, and any other leaves it.
use native.Mathlib.Omega.{arith}
use mathlib.Core.Path.{refl}
use Rattle.judging.proofs.survey.narrow.Goals as goal

pub returns-then-k-m : goal.returns-then-k-m
returns-then-k-m c = (λ many. c.meet.ensures, λ few. absurd (omega (arith, few, c.if-k-m.true)))

pub returns : goal.returns
returns c = (λ many. absurd (omega (arith, many, c.if-k-m.false)), λ few. refl)
