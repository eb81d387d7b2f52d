-- Three fields are written one behind the other, and then the byte that ends the line: together they are line 1.
use mathlib.Core.Path.{refl}
use Rattle.judging.specs.Request.{asked}
use Rattle.sheets.specs.HeadingLaws.{heading_filled}
use Rattle.sheets.proofs.heading.write_heading.Goals as goal

pub returns : goal.returns
returns c = heading_filled c.args.n (asked c.args.request) c.args.text.now c.requires c.write.ensures refl c.write-2.ensures refl c.write-3.ensures refl
