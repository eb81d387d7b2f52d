-- The line of m is written first, and then the masks behind it: together they are the text of the list.
use native.Mathlib.Omega.{arith}
use mathlib.Core.Path.{refl}
use Rattle.sets.specs.Words.{masks}
use Rattle.answers.specs.OutputLaws.{list_written}
use Rattle.answers.proofs.output.write_list.Goals as goal

pub returns : goal.returns
returns c = list_written (masks c.args.list.now) c.count-m.ensures (omega arith) c.write_line.ensures refl c.write_rows.ensures
