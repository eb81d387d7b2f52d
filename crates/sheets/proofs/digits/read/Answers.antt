-- The bytes before the present one are digits (Passing), and x is their number (Numbering): a digit more makes it 16 x and the digit's value, which a word
-- has room for. The first byte that is no digit ends the loop.
use native.Mathlib.Omega.{arith}
use mathlib.Core.Path.{sym}
use Rattle.sheets.specs.DigitLaws.{passing_none, passing_more, passing_stop, passing_all, numbering_none, numbering_fits, numbering_more, numbering_all}
use Rattle.sheets.proofs.digits.read.Goals as goal

pub loop-b-init : goal.loop-b-init
loop-b-init c = (passing_none, numbering_none)

pub overflow_mul-x : goal.overflow_mul-x
overflow_mul-x c = omega (arith, numbering_fits c.loop-b.invariant.1 (omega arith) c.requires)

pub overflow_add-x : goal.overflow_add-x
overflow_add-x c = omega (arith, numbering_fits c.loop-b.invariant.1 (omega arith) c.requires, c.in_ok-x.ensures)

pub returns-in_err-x : goal.returns-in_err-x
returns-in_err-x c = rw c.from_residual.ensures (sym (passing_stop c.loop-b.invariant.0 (omega arith) c.in_err-x.ensures))

pub loop-b-preserved : goal.loop-b-preserved
loop-b-preserved c =
    let d = c.in_ok-x.ensures in
    (passing_more c.loop-b.invariant.0 (omega arith) (omega (arith, d)), numbering_more c.loop-b.invariant.1 (omega arith) d.1 d.0)

pub returns : goal.returns
returns c = (numbering_all c.loop-b.invariant.1 (omega arith), sym (passing_all c.loop-b.invariant.0 (omega arith)))
