-- The digits fill all but the last place, which takes the byte that ends the line.
use Prim.Native.Nat.{◌-◌}
use native.Mathlib.Omega.{arith}
use lib.ListN.{length}
use Rattle.sheets.specs.LineLaws.{line_filled}
use Rattle.sheets.proofs.lines.write_line.Goals as goal

pub returns : goal.returns
returns c = line_filled (length c.args.text.now - 1) c.args.x c.args.text.now c.write.new.text (omega arith) c.write.ensures
