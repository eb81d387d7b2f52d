-- The graph of a sheet that was read is listed, and a text that is no sheet is refused as reading it is.
use mathlib.Core.Path.{refl, sym}
use lib.Dec.{lit≤}
use lib.Seq.{length-take-le}
use Rattle.sets.specs.Words.Masks.{offset_fits}
use Rattle.sheets.specs.BodyLaws.{table_rows}
use Rattle.answers.specs.AnswerLaws.{read_whole, gave_sheet, rows_fit, room_fits, answer_listed, answer_refused}
use Rattle.answers.proofs.answer.Goals as goal

pub offset-end-requires : goal.offset-end-requires
offset-end-requires c = rows_fit (gave_sheet _ (table_rows _ refl) c.in-Ok.ensures)

pub slice_bounds-rows-end : goal.slice_bounds-rows-end
slice_bounds-rows-end c = offset_fits _ _ _ c.offset-end.ensures (rows_fit (gave_sheet _ (table_rows _ refl) c.in-Ok.ensures))

pub slice_bounds-list_out-end : goal.slice_bounds-list_out-end
slice_bounds-list_out-end c = sym (length-take-le _ _ (offset_fits _ _ _ c.offset-end.ensures (rows_fit (gave_sheet _ (table_rows _ refl) c.in-Ok.ensures))))

pub list_out-requires : goal.list_out-requires
list_out-requires c = room_fits _ 4096 69649 c.told-slots c.told-out (lit≤ tt) (lit≤ tt)

pub returns-in-Ok : goal.returns-in-Ok
returns-in-Ok c = answer_listed (gave_sheet _ (table_rows _ refl) c.in-Ok.ensures) c.offset-end.ensures c.list_out.ensures

pub returns-in-Err : goal.returns-in-Err
returns-in-Err c = answer_refused _ (read_whole (table_rows _ refl) c.in-Err.ensures) c.write_refusal.ensures
