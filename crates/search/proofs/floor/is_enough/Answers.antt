-- One that is needed is made up by any candidate if none is silent; none that is needed by any; more than one by none.
use Rattle.std.specs.Prelude.{◌<◌}
use native.Mathlib.Omega.{arith}
use mathlib.Core.Path.{sym, ◌∙◌}
use borrow.Author.Tests.{eqb-true, eqb-false}
use Rattle.sets.specs.BitLaws.{bit_le, bit-bit_and}
use Rattle.sets.specs.PointLaws.{none_out}
use Rattle.sets.specs.SizeLaws.{positive_size}
use Rattle.sets.specs.Words.{mask}
use Rattle.sets.specs.WalkLaws.{empty_holds, empty_fails}
use Rattle.search.proofs.floor.is_enough.Goals as goal

pub returns-then-need-eq1 : goal.returns-then-need-eq1
returns-then-need-eq1 c = (
  (λ e v i.
      let none = none_out (sym c.meet.ensures ∙ empty_holds c.is_empty.ensures e) v in
      let silent = mask c.args.silent in
      omega (arith, c.if-need-eq1.true, none, bit-bit_and (mask c.args.c) silent v, i, bit_le silent v)),
  (λ e.
      let some : 0 < mask c.meet.result = empty_fails c.is_empty.ensures e in
      (omega (arith, c.if-need-eq1.true), omega (arith, c.if-need-eq1.true, positive_size _ (rw c.meet.ensures at some)))),
)

pub returns : goal.returns
returns c = (
  (λ e v i. omega (arith, eqb-true c.args.need 0 e, bit_le (mask c.args.silent) v)),
  (λ e. (omega (arith, eqb-false c.args.need 0 e), omega (arith, eqb-false c.args.need 0 e, c.if-need-eq1.false))),
)
