-- The silent set's line and those of the rows passed are right (Walking), and these rows hold the numbers of their lines (Storing): each turn reads one line
-- more, and the first wrong one ends the loop. What stands behind the last line is wrong too.
use native.Mathlib.Omega.{arith}
use mathlib.Core.Path.{◌∙◌}
use Rattle.judging.specs.CallLaws.{handed_on}
use Rattle.sets.specs.Words.Masks.{count_masks}
use Rattle.sheets.specs.Sheet.{row_digits}
use Rattle.sheets.specs.LineLaws.{field_below, walking_none, walking_more, storing_none, storing_more, storing_all}
use Rattle.sheets.proofs.JudgedLaws.{line_told, lines_within, after_told, lines_passed}
use Rattle.sheets.proofs.body.read_lines.Goals as goal

pub returns-in_err-silent : goal.returns-in_err-silent
returns-in_err-silent c = rw (handed_on _ c.from_residual.ensures.1) (line_told walking_none (omega arith) c.in_err-silent.ensures)

pub loop-a-init : goal.loop-a-init
loop-a-init c = (walking_more walking_none (omega arith) c.in_ok-silent.ensures.1, storing_none)

pub read_set-requires-in-loop-a : goal.read_set-requires-in-loop-a
read_set-requires-in-loop-a c = (omega (arith, c.requires.most, c.count-n.ensures), lines_within c.loop-a.invariant.0)

pub returns-in_err-row : goal.returns-in_err-row
returns-in_err-row c =
    rw (handed_on _ c.from_residual-in_err-row.ensures.1)
    (line_told c.loop-a.invariant.0 (omega (arith, c.count-n.ensures)) c.in_err-row.ensures)

pub put-requires : goal.put-requires
put-requires c = omega (arith, count_masks c.args.rows.now, count_masks c.loop-a.rows)

pub loop-a-preserved : goal.loop-a-preserved
loop-a-preserved c = (
  walking_more c.loop-a.invariant.0 (omega (arith, c.count-n.ensures)) c.in_ok-row.ensures.1,
  storing_more c.loop-a.invariant.1 (omega (arith, c.count-n.ensures)) (c.in_ok-row.ensures.0 ∙ field_below row_digits _ _) c.put.ensures,
)

pub returns-then-count-text : goal.returns-then-count-text
returns-then-count-text c =
    rw c.count-n.ensures (after_told c.loop-a.invariant.0 (omega (arith, c.count-n.ensures)) (omega (arith, c.count-n.ensures)))

pub returns : goal.returns
returns c = (
  record { silent = c.in_ok-silent.ensures.0; rows = storing_all c.loop-a.invariant.1 (omega (arith, c.count-n.ensures)) },
  lines_passed c.loop-a.invariant.0 (omega (arith, c.count-n.ensures)) (omega (arith, c.count-n.ensures)),
)
