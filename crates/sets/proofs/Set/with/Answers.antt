-- v is joined to s as the set of v alone.
use mathlib.Core.Path.{ap, ◌∙◌}
use lib.Bits.{bit_or}
use Rattle.sets.specs.Set.{with}
use Rattle.sets.specs.Words.{mask}
use Rattle.sets.proofs.Set.with.Goals as goal

pub returns : goal.returns
unfolding with
returns c = c.join.ensures ∙ ap (bit_or (mask c.args.self)) c.single.ensures
