-- What is sifted out is not close to v, and so is in no listed plex beside s and v.
use native.Mathlib.Omega.{arith}
use Rattle.search.specs.SiftLaws.{sift_below, sift_pairable, sift_beside}
use Rattle.search.proofs.trim.sift.Goals as goal

pub returns-then-few-eq0 : goal.returns-then-few-eq0
returns-then-few-eq0 c ask same counted beside = beside

pub with-requires : goal.with-requires
with-requires c = omega (arith, c.requires.trimmable.vertex, c.requires.trimmable.most)

pub invariant_of-closeness : goal.invariant_of-closeness
invariant_of-closeness c = record { pairable = sift_pairable c.requires c.with.ensures c.join-core.ensures }

pub row-requires : goal.row-requires
row-requires c = (sift_below c.requires, c.requires.trimmable.vertex)

pub returns : goal.returns
returns c ask same counted beside = sift_beside c.requires c.with.ensures c.join-core.ensures c.row.ensures same counted beside
