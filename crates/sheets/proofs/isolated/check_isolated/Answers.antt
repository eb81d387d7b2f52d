-- The one test is that of the cause: the lowest row that is 0 is told, where there is one.
use Rattle.sheets.specs.IsolatedLaws.{isolated_refused, isolated_accepted}
use Rattle.sheets.proofs.isolated.check_isolated.Goals as goal

pub returns-in-Some : goal.returns-in-Some
returns-in-Some c = isolated_refused _ c.in-Some.ensures

pub returns : goal.returns
returns c = isolated_accepted _ c.in_default.ensures
