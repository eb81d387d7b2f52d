-- At each turn the lines before the position gave the state that the progress and the table hold, and what is left is to read the others (Reads).
use Rattle.std.proofs.Common.{◌≡◌}
use Rattle.sets.specs.Words.{masks}
use Rattle.dimacs.specs.ReadLaws.{Reads}
use Rattle.dimacs.proofs.read_lines.Given as goal

abbrev pub invariant-loop-line : goal.invariant-loop-line
invariant-loop-line l = record {
  text : l.line-iterator.text.now ≡ l.text;
  reads : Reads l.text l.line-iterator.at l.scan.number l.scan.progress (masks l.table);
}
