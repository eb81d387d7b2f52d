-- Without silent vertices it is the core; with some the core of the others, and what is attached to it; or all vertices.
use Rattle.std.specs.Prelude.{◌≡◌}
use mathlib.Core.Path.{ap, ◌∙◌}
use Rattle.sets.specs.Set.{full}
use Rattle.sets.specs.WalkLaws.{empty_holds}
use Rattle.sets.specs.Words.{mask}
use Rattle.search.specs.StartLaws.{all_candidates}
use Rattle.search.proofs.starting.Goals as goal

pub returns-then-core : goal.returns-then-core
returns-then-core c =
    let none : mask c.args.request.silent ≡ 0 =
    empty_holds c.is_empty.ensures c.if-not-is_empty.false in
    rw none c.candidates.ensures

pub returns : goal.returns
returns c = all_candidates (c.full.ensures ∙ ap full c.count.ensures)
