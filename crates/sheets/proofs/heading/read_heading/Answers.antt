-- The layout of line 1 decides first; once it is right, the numbers in its fields.
use Rattle.judging.specs.CallLaws.{handed_on}
use Rattle.sheets.specs.HeadingLaws.{heading_refused, heading_judged}
use Rattle.sheets.proofs.heading.read_heading.Goals as goal

pub returns-in_default : goal.returns-in_default
returns-in_default c = heading_refused _ c.in_default.ensures

pub returns-in_err-check_numbers : goal.returns-in_err-check_numbers
returns-in_err-check_numbers c =
    rw (handed_on _ c.from_residual.ensures.1) (heading_judged _ c.in-Some.ensures.0 c.in-Some.ensures.1 c.in_err-check_numbers.ensures)

pub returns : goal.returns
returns c = (c.in-Some.ensures.0, heading_judged _ c.in-Some.ensures.0 c.in-Some.ensures.1 c.in_ok-check_numbers.ensures)
