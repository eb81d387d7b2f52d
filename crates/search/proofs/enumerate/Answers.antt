-- From the empty set and the candidates, all that is listed is found.
use Rattle.std.proofs.Common.{rules}
use Rattle.search.specs.StartLaws.{whole_startable, start_adds}
use Rattle.search.proofs.enumerate.Goals as goal

pub enumerate_from-requires : goal.enumerate_from-requires
enumerate_from-requires c = whole_startable c.empty.ensures c.requires.1 c.requires.0

pub returns : goal.returns
returns c = let h = start_adds c.empty.ensures c.requires.1 c.enumerate_from.ensures.fills in search rules
