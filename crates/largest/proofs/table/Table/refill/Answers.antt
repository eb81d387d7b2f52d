-- The table stays as it is, or is filled for a floor at which the reach says something.
use Rattle.std.proofs.Common.{arith, sym}
use Rattle.sets.specs.SubsetLaws.{minus_none}
use Rattle.search.specs.StartLaws.{settled_searchable, start_pairs, filled_settled}
use Rattle.largest.specs.ClimbLaws.{settled_higher}
use Rattle.largest.proofs.table.Table.refill.Goals as goal

pub invariant_of-self-2 : goal.invariant_of-self-2
invariant_of-self-2 c =
    let pairs = start_pairs c.candidates-all.ensures (sym (minus_none _)) in
    let before = c.args.self.now.settled in
    record { settled = filled_settled (settled_searchable (settled_higher (omega arith) (omega arith) before)) before.long (c.fill.ensures 0 pairs) }
