-- Line 1 is right where byte 10 ends it and its three fields are digits, and wrong where one of these is not so.
use native.Mathlib.Omega.{arith}
use Rattle.sheets.specs.Lines.{field}
use Rattle.sheets.specs.LineLaws.{line_unended}
use Rattle.sheets.specs.HeadingLaws.{field_wrong, fields_right}
use Rattle.sheets.proofs.heading.read_fields.Goals as goal

pub returns-then-not-is_ended : goal.returns-then-not-is_ended
returns-then-not-is_ended c = line_unended _ _ c.is_ended.ensures c.if-not-is_ended.true

pub returns-in_err-vertices : goal.returns-in_err-vertices
returns-in_err-vertices c = rw c.from_residual.ensures (field_wrong _ 0 (omega arith) c.in_err-vertices.ensures)

pub returns-in_err-slack : goal.returns-in_err-slack
returns-in_err-slack c = rw c.from_residual-in_err-slack.ensures (field_wrong _ 2 (omega arith) c.in_err-slack.ensures)

pub returns-in_err-floor : goal.returns-in_err-floor
returns-in_err-floor c = rw c.from_residual-in_err-floor.ensures (field_wrong _ 4 (omega arith) c.in_err-floor.ensures)

pub returns : goal.returns
unfolding field
returns c =
    let n = c.in_ok-vertices.ensures in
    let k = c.in_ok-slack.ensures in
    let q = c.in_ok-floor.ensures in
    (record { vertices = n.0; slack = k.0; floor = q.0 }, fields_right _ c.is_ended.ensures c.if-not-is_ended.false n.1 k.1 q.1)
