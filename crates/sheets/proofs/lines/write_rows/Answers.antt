-- The lines of the sets passed stand at the front, and behind them what stood there (Writing): each turn puts one line more.
use native.Mathlib.Omega.{arith}
use Rattle.sets.specs.Graph.{row}
use Rattle.sheets.specs.LineLaws.{writing_none, writing_more, writing_all}
use Rattle.sheets.proofs.lines.write_rows.Goals as goal

pub loop-a-init : goal.loop-a-init
loop-a-init c = writing_none

pub loop-a-preserved : goal.loop-a-preserved
unfolding row
loop-a-preserved c = writing_more c.loop-a.invariant (omega arith) (omega arith) c.get.ensures c.write_row.auto.text c.write_row.ensures

pub returns : goal.returns
returns c = writing_all c.loop-a.invariant (omega arith)
