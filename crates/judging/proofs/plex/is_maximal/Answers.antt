-- What is looser than k is not maximal, and a plex is maximal exactly if it is not extendable.
use native.Mathlib.Omega.{arith}
use mathlib.Core.Path.{ap, ◌∙◌}
use mathlib.Core.Bool.{not}
use Rattle.judging.specs.SurveyLaws.{finds_plex}
use Rattle.judging.proofs.TestLaws.{loose_maximal, maximal_by_extension}
use Rattle.judging.proofs.plex.is_maximal.Goals as goal

pub returns-then-k-seen : goal.returns-then-k-seen
returns-then-k-seen c = loose_maximal _ _ _ (omega (arith, c.survey-seen.ensures.loose, c.if-k-seen.true))

pub is_extendable-requires : goal.is_extendable-requires
is_extendable-requires c = c.survey-seen.ensures.opened

pub returns : goal.returns
returns c =
    ap not c.is_extendable.ensures
    ∙ maximal_by_extension _ _ _ c.requires.valid c.requires.inside.below (finds_plex c.survey-seen.ensures c.if-k-seen.false)
