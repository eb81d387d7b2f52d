-- The request's causes come first, and then those of the two vertices.
use mathlib.Core.Path.{sym, ◌∙◌}
use Rattle.judging.specs.CallLaws.{handed_on}
use Rattle.search.specs.CallLaws.{accepted_holds}
use Rattle.books.specs.CallLaws.{request_refused, request_accepted}
use Rattle.books.proofs.check.check_change.Goals as goal

pub returns-in_err-check_request : goal.returns-in_err-check_request
returns-in_err-check_request c = rw (handed_on _ c.from_residual.ensures.1) (request_refused _ _ _ _ c.in_err-check_request.ensures)

pub check_pair-requires : goal.check_pair-requires
check_pair-requires c = (accepted_holds _ _ (sym c.in_ok-check_request.ensures)).sized

pub returns : goal.returns
returns c = c.check_pair.ensures ∙ sym (request_accepted _ _ _ c.in_ok-check_request.ensures)
