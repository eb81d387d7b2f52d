-- The checks decide first, then how loose the forced set is, and what the climb finds is what the definition says.
use Rattle.std.proofs.Common.{arith, sym}
use Rattle.judging.proofs.PassedLaws.{set_checked}
use Rattle.judging.specs.CallLaws.{handed_on}
use Rattle.largest.specs.CallLaws.{set_searchable, set_forced, reply_refused}
use Rattle.largest.proofs.ForcedLaws.{reply_forced, reply_found}
use Rattle.largest.proofs.largest.Goals as goal

pub returns-in_err-check_set : goal.returns-in_err-check_set
returns-in_err-check_set c = rw (handed_on _ c.from_residual.ensures.1) (sym (reply_refused _ _ _ _ c.in_err-check_set.ensures))

pub looseness-requires : goal.looseness-requires
looseness-requires c = (set_checked _ _ _ (sym c.in_ok-check_set.ensures)).inside

pub returns-then-slack-looseness : goal.returns-then-slack-looseness
returns-then-slack-looseness c = sym (reply_forced _ _ _ (sym c.in_ok-check_set.ensures) (omega arith))

pub climb-requires : goal.climb-requires
climb-requires c =
    let checked = sym c.in_ok-check_set.ensures in
    (set_searchable _ _ _ checked, set_forced _ _ _ checked (omega (arith, c.looseness.ensures, c.if-slack-looseness.false)))

pub returns : goal.returns
returns c = sym (reply_found (sym c.in_ok-check_set.ensures) c.climb.ensures)
