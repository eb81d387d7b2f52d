-- The lowest bad row decides; where there is none, no row reaches n or above, and the lowest row with a one-way link decides.
use Rattle.judging.specs.CallLaws.{row_refused, rows_low, edge_refused, edges_accepted}
use Rattle.judging.proofs.check.check_edges.Goals as goal

pub returns-in-Some : goal.returns-in-Some
returns-in-Some c = row_refused _ c.in-Some.ensures

pub lowest_one_way-requires : goal.lowest_one_way-requires
lowest_one_way-requires c = rows_low _ c.in_default.ensures c.requires

pub returns-in-Some-lowest_one_way : goal.returns-in-Some-lowest_one_way
returns-in-Some-lowest_one_way c = edge_refused _ c.in_default.ensures c.in-Some-lowest_one_way.ensures

pub returns : goal.returns
returns c = edges_accepted _ c.in_default.ensures c.in_default-lowest_one_way.ensures
