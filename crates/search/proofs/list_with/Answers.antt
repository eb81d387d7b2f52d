-- A refused request leaves the slots. For any other they are given the list, or cleared where they are too few.
use Rattle.std.specs.Prelude.{◌≡◌, ℕ, length, replicate}
use native.Mathlib.Omega.{arith}
use mathlib.Core.Path.{sym, ap, ◌∙◌}
use Rattle.sets.specs.Words.{masks}
use Rattle.sets.specs.Words.Masks.{count_masks}
use Rattle.judging.specs.Request.{asked}
use Rattle.judging.specs.Refusal.{first_cause}
use Rattle.judging.specs.Calls.{passed, request_check}
use Rattle.judging.specs.CallLaws.{handed_on}
use Rattle.search.specs.CallLaws.{accepted_holds, list_refused, list_fits, list_short}
use Rattle.search.proofs.list_with.Goals as goal

-- ---- the needs
pub returns-in_err-check_request : goal.returns-in_err-check_request
returns-in_err-check_request c = rw (handed_on _ c.from_residual.ensures.1) (list_refused _ _ _ _ (sym c.in_err-check_request.ensures))

pub starting-all-requires : goal.starting-all-requires
starting-all-requires c = accepted_holds _ _ (sym c.in_ok-check_request.ensures)

pub collect-m-requires : goal.collect-m-requires
collect-m-requires c =
    let checks_passed : first_cause (request_check (masks c.args.rows.now) (asked c.args.request)) passed ≡ passed =
    sym c.in_ok-check_request.ensures in
    (accepted_holds _ _ checks_passed, c.starting-all.ensures)

pub returns-then-count-m : goal.returns-then-count-m
returns-then-count-m c =
    let checks_passed : first_cause (request_check (masks c.args.rows.now) (asked c.args.request)) passed ≡ passed =
    sym c.in_ok-check_request.ensures in
    let still_long : length (masks c.collect-m.new.slots) ≡ length (masks c.args.slots.now) =
    omega (arith, count_masks c.collect-m.new.slots, count_masks c.args.slots.now, c.collect-m.auto.slots) in
    list_short _ _ checks_passed c.collect-m.ensures (omega (arith, c.if-count-m.true, c.count.ensures, still_long))
    (c.clear.ensures ∙ ap (λ (n : ℕ). replicate n 0) still_long)

pub returns : goal.returns
returns c =
    let checks_passed : first_cause (request_check (masks c.args.rows.now) (asked c.args.request)) passed ≡ passed =
    sym c.in_ok-check_request.ensures in
    let still_long : length (masks c.collect-m.new.slots) ≡ length (masks c.args.slots.now) =
    omega (arith, count_masks c.collect-m.new.slots, count_masks c.args.slots.now, c.collect-m.auto.slots) in
    list_fits _ _ checks_passed c.collect-m.ensures (omega (arith, c.if-count-m.false, c.count.ensures, still_long))
