-- The clique of s and v has too few members, or enough for any clique to be found.
use native.Mathlib.Omega.{arith}
use Rattle.search.specs.EndLaws.{one_vertex}
use Rattle.search.specs.FloorLaws.{one_few, one_enough}
use Rattle.search.proofs.cliques.end_with.Goals as goal

pub is_short-requires : goal.is_short-requires
is_short-requires g c = omega (arith, one_vertex _ c.requires, c.requires.most)

pub returns-then-is_short-clause-fills : goal.returns-then-is_short-clause-fills
returns-then-is_short-clause-fills g c = one_few _ c.requires _ _ ((c.is_short.ensures _).0 c.if-is_short.true) _ _

pub returns-clause-fills : goal.returns-clause-fills
returns-clause-fills g c = one_enough _ c.requires _ _ ((c.is_short.ensures _).1 c.if-is_short.false) c.end_with.ensures.fills
