-- The parts of cause 10 are tested one after the other: s with v is looser than k, v is not in c, s and c overlap.
use Rattle.sets.specs.SubsetLaws.{with_below}
use Rattle.bounds.specs.BoundCallLaws.{misplaced_loose, misplaced_vertex, misplaced-overlap}
use Rattle.bounds.proofs.is_misplaced.Goals as goal

pub looseness-requires : goal.looseness-requires
looseness-requires c =
    let below = with_below _ _ _ c.requires.0.below c.requires.1 in
    record { some = c.requires.0.some; most = c.requires.0.most; below = rw c.with.ensures below }

pub returns-then-k-looseness : goal.returns-then-k-looseness
returns-then-k-looseness c = misplaced_loose _ _ _ _ _ c.with.ensures c.looseness.ensures c.if-k-looseness.true

pub returns-then-not-has : goal.returns-then-not-has
returns-then-not-has c =
    misplaced_vertex _ _ _ _ _ c.with.ensures c.looseness.ensures c.if-k-looseness.false
    c.has.ensures c.if-not-has.true

pub returns : goal.returns
returns c =
    misplaced-overlap _ _ _ _ _ c.with.ensures c.looseness.ensures c.if-k-looseness.false
    c.has.ensures c.if-not-has.false c.meet.ensures c.is_empty.ensures
