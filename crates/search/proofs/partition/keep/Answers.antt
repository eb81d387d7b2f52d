-- Either u is added to what was kept or nothing is, and both are parts of what was kept with u.
use Rattle.sets.specs.SubsetLaws.{sub_refl, sub_with}
use Rattle.search.proofs.partition.keep.Goals as goal

pub returns-then-k-m : goal.returns-then-k-m
returns-then-k-m c = rw c.with.ensures (sub_refl _)

pub returns : goal.returns
returns c = sub_with _ _
