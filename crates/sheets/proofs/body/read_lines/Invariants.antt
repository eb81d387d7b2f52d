-- The silent set's line and those of the rows passed are right (Walking), and these rows hold the numbers of their lines (Storing): each turn reads one line
-- more, and the first wrong one ends the loop.
use Rattle.std.proofs.Common.{◌+◌, length, drop}
use Rattle.sets.specs.Words.{masks}
use Rattle.sheets.specs.Sheet.{row_digits, row_length}
use Rattle.sheets.specs.LineLaws.{Walking, Storing}
use Rattle.sheets.proofs.body.read_lines.Given as goal

abbrev pub invariant-loop-a : goal.invariant-loop-a
invariant-loop-a l = Walking row_digits (length (masks l.initial.rows) + 1) l.text (l.a + 1)
    × Storing row_digits (drop row_length l.text) (masks l.initial.rows) (masks l.rows) l.a
