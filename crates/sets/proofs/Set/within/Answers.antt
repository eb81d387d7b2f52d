-- The set is within t where it is what the two share.
use Rattle.std.proofs.Common.{ℕ, ap, ◌∙◌}
use lib.Dec.{eqb}
use Rattle.sets.specs.Set.{subset}
use Rattle.sets.specs.Words.{mask}
use Rattle.sets.specs.Words.Operations.{same_mask}
use Rattle.sets.proofs.Set.within.Goals as goal

pub returns : goal.returns
unfolding subset
returns c = c.eq.ensures ∙ same_mask _ _ ∙ ap (λ (x : ℕ). eqb x (mask c.args.self)) c.meet.ensures
