-- Each member passed keeps what is known of those before it: the most that one misses, a member that misses it, and what is left free.
use Rattle.sets.specs.Words.{mask, masks}
use Rattle.judging.specs.SurveyLaws.{Finding}
use Rattle.judging.proofs.survey.survey.Given as goal

abbrev pub invariant-loop-a : goal.invariant-loop-a
invariant-loop-a l = Finding (masks l.rows) l.k (mask l.a) (mask l.left) l.most l.worst (mask l.free)

abbrev pub decreases-loop-a : goal.decreases-loop-a
decreases-loop-a l = mask l.left
