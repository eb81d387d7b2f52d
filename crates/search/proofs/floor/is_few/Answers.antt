-- Where none is needed there are enough; where none is left and some are needed there are too few; else they are counted.
use native.Mathlib.Omega.{arith}
use mathlib.Core.Path.{sym, ap, ◌∙◌}
use mathlib.Core.Bool.{false≢true}
use borrow.Author.Tests.{ltb-true, ltb-false}
use lib.Count.{ones-le}
use lib.Pow.{pow_pos}
use Rattle.sets.specs.Set.{size}
use Rattle.sets.specs.WalkLaws.{empty_holds}
use Rattle.search.proofs.floor.is_few.Goals as goal

pub returns-then-need-eq0 : goal.returns-then-need-eq0
returns-then-need-eq0 c = ((λ e. absurd (false≢true e)), (λ e. omega (arith, c.if-need-eq0.true)))

pub returns-then-is_empty : goal.returns-then-is_empty
returns-then-is_empty c =
    let none = ap size (sym c.minus-others.ensures ∙ empty_holds c.is_empty.ensures c.if-is_empty.true) in
    ((λ e. omega (arith, none, ones-le 0 0 (pow_pos 0), c.if-need-eq0.false)), (λ e. absurd (false≢true (sym e))))

pub returns : goal.returns
returns c =
    let same = c.size.ensures.0 ∙ ap size c.minus-others.ensures in
    ((λ e. omega (arith, same, ltb-true c.size.result c.args.need e)), (λ e. omega (arith, same, ltb-false c.size.result c.args.need e)))
