-- A request or a graph that is refused, or has no room, leaves the text; and else line 1 is written, and then the silent set and the rows behind it.
use native.Mathlib.Omega.{arith}
use mathlib.Core.Path.{sym}
use Rattle.judging.specs.CallLaws.{handed_on}
use Rattle.sheets.specs.WriteLaws.{write_refused, request_told, isolated_last, graph_fits, text_refused, text_written}
use Rattle.sheets.proofs.write_sheet.Goals as goal

pub returns-in_err-check_request : goal.returns-in_err-check_request
returns-in_err-check_request c = rw (handed_on _ c.from_residual.ensures.1) (write_refused (request_told _ _ _ c.in_err-check_request.ensures))

pub returns-in_err-check_isolated : goal.returns-in_err-check_isolated
returns-in_err-check_isolated c =
    rw (handed_on _ c.from_residual-in_err-check_isolated.ensures.1)
    (write_refused (isolated_last _ _ c.in_ok-check_request.ensures c.in_err-check_isolated.ensures))

pub overflow_add-needed : goal.overflow_add-needed
overflow_add-needed c = omega (arith, graph_fits _ _ c.in_ok-check_request.ensures, c.count-n.ensures)

pub overflow_mul-needed : goal.overflow_mul-needed
overflow_mul-needed c = omega (arith, graph_fits _ _ c.in_ok-check_request.ensures, c.count-n.ensures)

pub overflow_add-needed-2 : goal.overflow_add-needed-2
overflow_add-needed-2 c = omega (arith, graph_fits _ _ c.in_ok-check_request.ensures, c.count-n.ensures)

pub returns-then-text-needed : goal.returns-then-text-needed
returns-then-text-needed c =
    text_refused _ _ (sym (isolated_last _ _ c.in_ok-check_request.ensures c.in_ok-check_isolated.ensures)) c.count-n.ensures c.if-text-needed.true

pub returns : goal.returns
returns c =
    text_written _ _ (sym (isolated_last _ _ c.in_ok-check_request.ensures c.in_ok-check_isolated.ensures)) c.count-n.ensures c.if-text-needed.false
    c.write_heading.ensures c.write_body.ensures
