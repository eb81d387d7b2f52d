-- It is what the survey of the set promises as its most, whatever the slack.
use Rattle.judging.proofs.plex.looseness.Goals as goal

pub returns : goal.returns
returns c = c.survey-seen.ensures.loose
