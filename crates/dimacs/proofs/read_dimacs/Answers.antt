-- All lines are judged in a table of the call's own before a row is stored: a refusal leaves the rows, and else the first n of the table are copied.
use Rattle.std.proofs.lemmas.Result.{err_from_is_err_and}
use Rattle.dimacs.specs.RowLaws.{table_blank}
use Rattle.dimacs.specs.ReadLaws.{lines_refused, end_refused, read_room, read_stored}
use Rattle.dimacs.proofs.read_dimacs.Goals as goal

pub read_lines-requires : goal.read_lines-requires
read_lines-requires c = table_blank

pub returns-in_err-scan : goal.returns-in_err-scan
returns-in_err-scan c =
    let p = err_from_is_err_and c.from_residual.result c.from_residual.ensures.1 in
    rw (p.1, p.2) (lines_refused _ _ _ _ c.in_err-scan.ensures)

pub returns-in_err-n : goal.returns-in_err-n
returns-in_err-n c =
    let p = err_from_is_err_and c.from_residual-in_err-n.result c.from_residual-in_err-n.ensures.1 in
    rw (p.1, p.2) (end_refused _ _ c.in_ok-scan.scan _ c.in_ok-scan.ensures c.count.ensures _ c.in_err-n.ensures)

pub copy-requires : goal.copy-requires
copy-requires c = read_room c.args.text.now _ c.in_ok-scan.scan _ c.in_ok-scan.ensures c.count.ensures c.in_ok-n.ensures

pub returns : goal.returns
returns c = read_stored _ _ c.in_ok-scan.scan _ c.in_ok-scan.ensures c.count.ensures c.in_ok-n.ensures _ c.copy.ensures
