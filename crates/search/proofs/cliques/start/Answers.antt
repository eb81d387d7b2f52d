-- What is not settled at once a sweep over the candidates of a pivot adds.
use mathlib.Core.Path.{refl}
use Rattle.sets.specs.Words.{mask}
use Rattle.judging.specs.Request.{request}
use Rattle.search.specs.TakeLaws.{take_pickable, cover_sweeping, cover_adds}
use Rattle.search.specs.FloorLaws.{some_candidate}
use Rattle.search.proofs.cliques.start.Goals as goal

pub pivot-next-requires : goal.pivot-next-requires
pivot-next-requires g c = take_pickable c.requires (some_candidate (c.settle.ensures.left c.if-settle.false).2)

pub sweep-requires : goal.sweep-requires
sweep-requires g c =
    (cover_sweeping c.requires c.pivot-next.ensures c.minus-others.ensures, (c.settle.ensures.left c.if-settle.false).1)

pub returns-clause-fills : goal.returns-clause-fills
returns-clause-fills g c =
    cover_adds c.requires c.pivot-next.ensures c.minus-others.ensures
    (request 1 (g.W.Wanted.least c.args.want (mask c.args.s)) (g.W.Wanted.silent c.args.want)) refl
    (rw (c.settle.ensures.left c.if-settle.false).0 at c.sweep.ensures.fills)
