-- The first wrong line is told; once all lines are right, the silent set and then the rows are judged, and then 14.
use Rattle.judging.specs.CallLaws.{handed_on}
use Rattle.sheets.proofs.JudgedLaws.{lines_told, read_sized, sets_refused, isolated_left}
use Rattle.sheets.proofs.body.read_body.Goals as goal

pub returns-in_err-silent : goal.returns-in_err-silent
returns-in_err-silent c = rw (handed_on _ c.from_residual.ensures.1) (lines_told _ _ _ c.in_err-silent.ensures)

pub check_silent-requires : goal.check_silent-requires
check_silent-requires c = read_sized c.in_ok-silent.ensures.0 (c.requires.some, c.requires.most)

pub returns-in_err-check_silent : goal.returns-in_err-check_silent
returns-in_err-check_silent c =
    let read = c.in_ok-silent.ensures in
    rw (handed_on _ c.from_residual-in_err-check_silent.ensures.1) (sets_refused read.0 read.1 _ c.in_err-check_silent.ensures)

pub returns-in_err-check_isolated : goal.returns-in_err-check_isolated
returns-in_err-check_isolated c =
    let read = c.in_ok-silent.ensures in
    rw (handed_on _ c.from_residual-in_err-check_isolated.ensures.1)
    (isolated_left read.0 read.1 c.in_ok-check_silent.ensures c.in_err-check_isolated.ensures)

pub returns : goal.returns
returns c = let read = c.in_ok-silent.ensures in (read.0, isolated_left read.0 read.1 c.in_ok-check_silent.ensures c.in_ok-check_isolated.ensures)
