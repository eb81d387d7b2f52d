-- A refused change leaves rows and slots. For any other the slots are given the list of the changed graph, or are left where they are too few; only then the
-- rows are changed.
use Rattle.std.proofs.Common.{arith, sym, ap, ◌∙◌}
use Rattle.sets.specs.Words.Masks.{count_masks}
use Rattle.judging.specs.CallLaws.{handed_on}
use Rattle.books.specs.CallLaws.{change_accepted, change_changeable, change_refused, change_short, change_fits}
use Rattle.books.proofs.change.Goals as goal

-- ---- the needs
pub returns-in_err-check_change : goal.returns-in_err-check_change
returns-in_err-check_change c = rw (handed_on _ c.from_residual.ensures.1) (change_refused _ _ _ _ _ (sym c.in_err-check_change.ensures))

pub renew_changed-m-requires : goal.renew_changed-m-requires
renew_changed-m-requires c =
    let checked = sym c.in_ok-check_change.ensures in
    (change_accepted _ _ _ checked, change_changeable _ _ _ checked)

pub returns-then-count-m : goal.returns-then-count-m
returns-then-count-m c =
    change_short _ _ _ (sym c.in_ok-check_change.ensures) c.renew_changed-m.ensures
    (omega (arith, count_masks c.renew_changed-m.new.slots, count_masks c.args.slots.now))

pub set_edge-requires : goal.set_edge-requires
set_edge-requires c =
    let checked = sym c.in_ok-check_change.ensures in
    let able = change_changeable _ _ _ checked in
    ((change_accepted _ _ _ checked).sized, able.one, able.other)

pub returns : goal.returns
returns c =
    change_fits _ _ _ (sym c.in_ok-check_change.ensures) c.renew_changed-m.ensures
    (omega (arith, count_masks c.renew_changed-m.new.slots, count_masks c.args.slots.now)) c.set_edge.ensures
