-- At slack 1 the candidates are those of a clique. At any other a k-plex has at most k members of each colour class.
use Rattle.std.proofs.Common.{refl}
use Rattle.sets.specs.SubsetLaws.{sub_refl}
use Rattle.largest.specs.SeekLaws.{coloured_empty}
use Rattle.largest.proofs.task.Task.one.Goals as goal

pub returns-then-falls_short : goal.returns-then-falls_short
returns-then-falls_short c =
    let few = c.falls_short.ensures c.if-falls_short.true in
    coloured_empty _ (sub_refl _) refl few.1 few.2
