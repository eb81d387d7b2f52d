-- The line of the silent set is put at the front, and those of the rows behind it.
use native.Mathlib.Omega.{arith}
use mathlib.Core.Path.{refl}
use Rattle.sets.specs.Words.{masks}
use Rattle.sheets.specs.Sheet.{row_digits}
use Rattle.sheets.specs.LineLaws.{lines_written}
use Rattle.sheets.proofs.body.write_body.Goals as goal

pub returns : goal.returns
returns c =
    lines_written row_digits (masks c.args.rows.now) c.args.text.now (omega arith) refl c.write_row.ensures refl
    c.write_rows.ensures
