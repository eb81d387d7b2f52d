-- The text is judged before a row is stored: a refusal, or too few rows, leaves them all, and else the rows of the lines are stored.
use native.Mathlib.Omega.{arith}
use mathlib.Core.Path.{refl, sym, ◌∙◌}
use lib.Seq.{length-take-le}
use Rattle.std.proofs.Common.{le_of_eq}
use Rattle.sets.specs.Words.Masks.{offset_fits}
use Rattle.judging.specs.CallLaws.{handed_on}
use Rattle.sheets.specs.BodyLaws.{table_rows}
use Rattle.sheets.specs.ReadLaws.{heading_told, sheet_refused, room_refused, read_end, rows_read}
use Rattle.sheets.proofs.read_sheet.Goals as goal

pub returns-in_err-heading : goal.returns-in_err-heading
returns-in_err-heading c = rw (handed_on _ c.from_residual.ensures.1) (sheet_refused (heading_told _ _ c.in_err-heading.ensures))

pub read_text-requires : goal.read_text-requires
read_text-requires c = (c.in_ok-heading.ensures.0, c.in_ok-heading.ensures.1, le_of_eq (sym (table_rows _ refl)))

pub returns-in_err-sheet : goal.returns-in_err-sheet
returns-in_err-sheet c = rw (handed_on _ c.from_residual-in_err-sheet.ensures.1) (sheet_refused c.in_err-sheet.ensures)

pub returns-then-count-sheet : goal.returns-then-count-sheet
returns-then-count-sheet c = room_refused _ (sym c.in_ok-sheet.ensures.1) c.in_ok-sheet.ensures.0.vertices (omega (arith, c.count.ensures))

pub slice_bounds-copy_from_slice-end : goal.slice_bounds-copy_from_slice-end
slice_bounds-copy_from_slice-end c = offset_fits _ _ _ c.offset-end.ensures (omega (arith, c.count.ensures))

pub slice_bounds-copy_from_slice-end-2 : goal.slice_bounds-copy_from_slice-end-2
slice_bounds-copy_from_slice-end-2 c =
    sym (length-take-le _ _ (offset_fits _ _ _ c.offset-end.ensures (omega (arith, c.count.ensures))))

pub slice_bounds-table-end : goal.slice_bounds-table-end
slice_bounds-table-end c =
    let read = c.in_ok-sheet.ensures in
    read_end _ (sym read.1) _ read.0 c.offset-end.ensures (le_of_eq (sym (table_rows _ c.read_text.auto.table)))

pub slice_bounds-copy_from_slice-end-3 : goal.slice_bounds-copy_from_slice-end-3
slice_bounds-copy_from_slice-end-3 c =
    let read = c.in_ok-sheet.ensures in
    sym (length-take-le _ _ (read_end _ (sym read.1) _ read.0 c.offset-end.ensures (le_of_eq (sym (table_rows _ c.read_text.auto.table)))))

pub copy_from_slice-requires : goal.copy_from_slice-requires
copy_from_slice-requires c =
    let read = c.in_ok-sheet.ensures in
    length-take-le _ _ (offset_fits _ _ _ c.offset-end.ensures (omega (arith, c.count.ensures)))
    ∙ sym (length-take-le _ _ (read_end _ (sym read.1) _ read.0 c.offset-end.ensures (le_of_eq (sym (table_rows _ c.read_text.auto.table)))))

pub returns : goal.returns
returns c =
    let read = c.in_ok-sheet.ensures in
    rows_read _ (sym read.1) _ read.0 c.offset-end.ensures (le_of_eq (sym (table_rows _ c.read_text.auto.table))) _ (omega (arith, c.count.ensures))
    c.copy_from_slice.ensures.after
