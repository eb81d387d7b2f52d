-- Line 1 has passed: what is below it decides, whose rows are read into the first of the table.
use mathlib.Core.Path.{sym}
use lib.Seq.{length-take-le}
use Rattle.judging.specs.CallLaws.{handed_on}
use Rattle.sheets.proofs.JudgedLaws.{heading_fits}
use Rattle.sheets.specs.ReadLaws.{vertices_fit, table_end, table_sized, body_told, sheet_said}
use Rattle.sheets.proofs.read_text.Goals as goal

pub offset-end-requires : goal.offset-end-requires
offset-end-requires c = vertices_fit _ _ c.requires.0 c.requires.1 c.requires.2

pub slice_bounds-read_body-count : goal.slice_bounds-read_body-count
slice_bounds-read_body-count c = heading_fits _ (sym c.requires.1)

pub slice_bounds-read_body-start : goal.slice_bounds-read_body-start
slice_bounds-read_body-start c = heading_fits _ (sym c.requires.1)

pub slice_bounds-read_body-end-2 : goal.slice_bounds-read_body-end-2
slice_bounds-read_body-end-2 c = table_end _ _ c.requires.0 c.requires.1 c.requires.2 c.offset-end.ensures

pub slice_bounds-read_body-end-3 : goal.slice_bounds-read_body-end-3
slice_bounds-read_body-end-3 c =
    sym (length-take-le _ _ (table_end _ _ c.requires.0 c.requires.1 c.requires.2 c.offset-end.ensures))

pub read_body-requires : goal.read_body-requires
read_body-requires c = table_sized _ _ c.requires.0 c.requires.1 c.requires.2 c.offset-end.ensures

pub returns-in_err-silent : goal.returns-in_err-silent
returns-in_err-silent c =
    rw (handed_on _ c.from_residual.ensures.1)
    (body_told _ _ c.requires.0 c.requires.1 c.requires.2 c.offset-end.ensures c.in_err-silent.ensures)

pub returns : goal.returns
returns c = (
  sheet_said _ _ c.requires.0 c.requires.1 c.requires.2 c.offset-end.ensures _ c.read_body.auto.rows c.in_ok-silent.ensures.0,
  body_told _ _ c.requires.0 c.requires.1 c.requires.2 c.offset-end.ensures c.in_ok-silent.ensures.1,
)
