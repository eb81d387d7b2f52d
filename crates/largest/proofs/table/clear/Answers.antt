-- A row with all vertices drops none.
use Rattle.std.proofs.Common.{sym, ap, ◌∙◌}
use Rattle.sets.specs.Set.{full}
use Rattle.sets.specs.SubsetLaws.{minus_none}
use Rattle.search.specs.StartLaws.{all_candidates, start_pairs, filled_settled}
use Rattle.largest.proofs.table.clear.Goals as goal

pub returns : goal.returns
returns c =
    let pairs = start_pairs (all_candidates (c.full-all.ensures ∙ ap full c.count.ensures)) (sym (minus_none _)) in
    filled_settled c.requires.0 c.requires.1.room (c.fill.ensures 0 pairs)
