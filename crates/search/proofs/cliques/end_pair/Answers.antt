-- Where u and v are adjacent every clique to be found has both, which are enough; where they are not, those with u are found first and those with v after
-- them, and none has both.
use Rattle.std.specs.Prelude.{◌≡◌}
use mathlib.Core.Path.{refl}
use native.Mathlib.Omega.{arith}
use Rattle.sets.specs.Set.{bit, In}
use Rattle.sets.specs.Graph.{row}
use Rattle.sets.specs.Words.{mask, masks}
use Rattle.judging.specs.Request.{request}
use Rattle.search.specs.TakeLaws.{joined}
use Rattle.search.specs.EndLaws.{pair_vertices, pair_first, pair_second, row_has, row-lacks, both_taking, each_adds}
use Rattle.search.specs.FloorLaws.{both_enough}
use Rattle.search.proofs.cliques.end_pair.Goals as goal

pub get-row-requires : goal.get-row-requires
get-row-requires g c = (pair_vertices c.requires.1 c.requires.0).0

pub has-requires : goal.has-requires
has-requires g c = omega (arith, (pair_vertices c.requires.1 c.requires.0).1, c.requires.0.most)

pub with-requires : goal.with-requires
with-requires g c = omega (arith, (pair_vertices c.requires.1 c.requires.0).0, c.requires.0.most)

pub end_with-requires : goal.end_with-requires
end_with-requires g c =
    let near : In c.args.v (row (masks c.args.rows.now) c.args.u) = row_has _ c.get-row.ensures c.has.ensures c.if-has.true in
    both_taking c.requires.1 c.requires.0 near (joined c.with.ensures c.get-row.ensures c.meet-beside.ensures)

pub returns-then-has-clause-fills : goal.returns-then-has-clause-fills
returns-then-has-clause-fills g c =
    let near : In c.args.v (row (masks c.args.rows.now) c.args.u) = row_has _ c.get-row.ensures c.has.ensures c.if-has.true in
    both_enough c.requires.1 c.requires.0 near (joined c.with.ensures c.get-row.ensures c.meet-beside.ensures) _ _ c.requires.2 c.end_with.ensures.fills

pub end_with-requires-2 : goal.end_with-requires-2
end_with-requires-2 g c = pair_first c.requires.1 c.requires.0

pub end_with-requires-3 : goal.end_with-requires-3
end_with-requires-3 g c = pair_second c.requires.1 c.requires.0

pub returns-clause-fills : goal.returns-clause-fills
returns-clause-fills g c =
    let away : bit (row (masks c.args.rows.now) c.args.u) c.args.v ≡ 0 = row-lacks _ c.get-row.ensures c.has.ensures c.if-has.false in
    each_adds c.requires.1 c.requires.0 away (request 1 (g.W.Wanted.least c.args.want (mask c.args.s)) (g.W.Wanted.silent c.args.want)) refl
    c.end_with-2.ensures.fills c.end_with-3.ensures.fills
