-- The members that s shares with the row of v are those that v is adjacent to.
use Rattle.std.proofs.Common.{ap, ◌∙◌, bit_and}
use Rattle.sets.specs.Set.{size}
use Rattle.sets.specs.Words.{mask}
use Rattle.judging.specs.Graph.{degree}
use Rattle.bounds.proofs.cores.degree.Goals as goal

pub returns : goal.returns
unfolding degree
returns c = (
  c.size.ensures.0 ∙ ap size (c.meet.ensures ∙ ap (bit_and (mask c.args.s)) c.get.ensures),
  c.size.ensures.1,
)
