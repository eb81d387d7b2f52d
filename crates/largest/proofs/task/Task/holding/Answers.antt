-- All listed plexes that hold f are found beside it, and a larger plex that holds f would lie in one of them.
use Rattle.largest.specs.ClimbLaws.{fitted_held}
use Rattle.largest.proofs.task.Task.holding.Goals as goal

pub returns : goal.returns
returns c = fitted_held _ c.fit.ensures c.one.ensures
