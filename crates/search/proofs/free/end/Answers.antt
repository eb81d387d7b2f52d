-- A clique with no common neighbour is maximal; any other could be grown by one, and adds nothing.
use Rattle.std.specs.Prelude.{◌^◌, length}
use Rattle.sets.specs.WalkLaws.{empty_holds, empty_fails}
use Rattle.search.specs.EndLaws.{lonely_adds, end_none}
use Rattle.search.proofs.free.end.Goals as goal

pub returns-then-is_empty-clause-fills : goal.returns-then-is_empty-clause-fills
returns-then-is_empty-clause-fills c g h = lonely_adds h (empty_holds c.is_empty.ensures c.if-is_empty.true) (c.push.ensures.fills (2 ^ length g) h.below)

pub returns-else-is_empty-clause-fills : goal.returns-else-is_empty-clause-fills
returns-else-is_empty-clause-fills c g h = end_none h (empty_fails c.is_empty.ensures c.if-is_empty.false) _ _
