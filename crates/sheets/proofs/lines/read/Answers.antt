-- A line that does not end where it should is none; and else its bytes decide, as in the definition.
use Rattle.sheets.specs.LineLaws.{line_unended, line_read}
use Rattle.sheets.proofs.lines.read.Goals as goal

pub returns-then-not-is_ended : goal.returns-then-not-is_ended
returns-then-not-is_ended c = line_unended _ _ c.is_ended.ensures c.if-not-is_ended.true

pub returns : goal.returns
returns c = line_read _ _ c.is_ended.ensures c.if-not-is_ended.false _ c.read.ensures
