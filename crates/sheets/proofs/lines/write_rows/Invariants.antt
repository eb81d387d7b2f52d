-- The lines of the sets passed stand at the front, and behind them what stood there (Writing): each turn puts one line more.
use Rattle.sets.specs.Words.{masks}
use Rattle.sheets.specs.Sheet.{row_digits}
use Rattle.sheets.specs.LineLaws.{Writing}
use Rattle.sheets.proofs.lines.write_rows.Given as goal

abbrev pub invariant-loop-a : goal.invariant-loop-a
invariant-loop-a l = Writing row_digits (masks l.rows) l.initial.text l.text l.a
