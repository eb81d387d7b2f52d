-- Where w is a candidate it is chosen alone; else what is given are the candidates that w is not adjacent to.
use mathlib.Core.Path.{sym, ap, ◌∙◌}
use Rattle.sets.specs.Set.{minus}
use Rattle.search.specs.ChoiceLaws.{among_itself, among_far}
use Rattle.search.proofs.choice.among.Goals as goal

pub returns-then-has : goal.returns-then-has
returns-then-has c = among_itself c.single.ensures (sym c.has.ensures ∙ c.if-has.true)

pub returns : goal.returns
returns c = among_far (c.minus.ensures ∙ ap (minus _) c.get.ensures) (sym c.has.ensures ∙ c.if-has.false)
