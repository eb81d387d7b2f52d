-- A sweep adds what each vertex to take adds in turn. A clique adds what its end adds where at most two candidates are left or no more is wanted, and else
-- what a sweep over the candidates of a pivot adds. The measure is the candidates, which fall when a vertex is taken.
use Rattle.std.specs.Prelude.{◌≡◌, ℕ, ◌^◌, ◌≢◌}
use mathlib.Core.Path.{refl, ◌∙◌}
use native.Mathlib.Omega.{arith}
use Rattle.sets.specs.Set.{bit, with}
use Rattle.sets.specs.Words.{mask, masks}
use Rattle.sets.specs.WalkLaws.{walk_falls, empty_holds}
use Rattle.judging.specs.Request.{request}
use Rattle.search.specs.CliqueLaws.{common_out}
use Rattle.search.specs.SweepLaws.{sweep_near, sweep_vertex, Step, step, step_taking, swept_falls, swept_more, swept_all}
use Rattle.search.specs.TakeLaws.{take_pickable, take_same, cover_candidates, cover_sweeping, cover_adds}
use Rattle.search.specs.EndLaws.{two_left}
use Rattle.search.specs.FloorLaws.{some_candidate, second_candidate}
use Rattle.search.proofs.cliques.+sweep_take.Goals as goal
use Rattle.search.proofs.cliques.+sweep_take.Goals.{sweep-After-with-waiting, take-Then-is_empty}

-- ---- the sweep

-- the step to the vertex that is taken
moved : (g : _) (t : ℕ) (c : sweep-After-with-waiting g t) → Step (masks c.args.rows.now) (mask c.args.s) (mask c.loop-want.waiting) (mask c.args.m)
    (mask c.loop-want.left) c.lowest-v.result (mask c.with-joined.result) (mask c.meet-inside.result) (mask c.meet-beside.result)
    (mask c.with-waiting.result) (mask c.rest-left.result)
moved g t c =
    step c.lowest-v.ensures c.get-row.ensures c.with-joined.ensures c.meet-inside.ensures c.meet-beside.ensures c.rest-left.ensures c.with-waiting.ensures

pub sweep-get-row-requires : goal.sweep-get-row-requires
sweep-get-row-requires g t c = sweep_vertex c.loop-want.invariant.swept.sweeping _ c.lowest-v.ensures.member

pub sweep-take-requires : goal.sweep-take-requires
sweep-take-requires g t c =
    let ask = request 1 (g.W.Wanted.least c.args.want (mask c.args.s)) (g.W.Wanted.silent c.args.want) in
    let way = moved g t (goal.at.sweep-take-requires g t c).After-with-waiting in
    λ κs h. (omega (arith, swept_falls {ask = ask} c.loop-want.invariant.swept way, c.decreases), (h, step_taking c.loop-want.invariant.swept.sweeping way))

pub sweep-loop-want-smaller : goal.sweep-loop-want-smaller
sweep-loop-want-smaller g t c = walk_falls c.lowest-v.ensures c.rest-left.ensures

pub sweep-loop-want-preserved : goal.sweep-loop-want-preserved
sweep-loop-want-preserved g t c =
    let way = moved g t (goal.at.sweep-loop-want-preserved g t c).After-with-waiting in
    let out : bit (mask c.args.s) c.lowest-v.result ≡ 0 =
    common_out c.requires.0.taking.valid c.requires.0.taking.common _ (sweep_near c.loop-want.invariant.swept.sweeping _ c.lowest-v.ensures.member) in
    let least : g.W.Wanted.least c.after.result (mask c.with-joined.result) ≡ g.W.Wanted.least c.args.want (mask c.args.s) =
    rw c.with-joined.ensures (c.after.ensures.1 (mask c.args.s) out) in
    record {
      swept = swept_more c.loop-want.invariant.swept way (rw (least, c.after.ensures.0) at c.take.ensures.fills);
      same = c.take.ensures.same ∙ c.loop-want.invariant.same;
    }

pub sweep-returns-clause-fills : goal.sweep-returns-clause-fills
sweep-returns-clause-fills g t c = swept_all c.loop-want.invariant.swept (empty_holds c.is_empty.ensures c.loop-want-test.false)

-- ---- a clique

pub take-lowest-v-requires : goal.take-lowest-v-requires
take-lowest-v-requires g t c = second_candidate (c.settle.ensures.left c.if-settle.false).2 c.lowest-u.ensures c.rest-second.ensures

two : (g : _) (t : ℕ) (c : take-Then-is_empty g t) → (mask c.args.c ≡ with (2 ^ c.lowest-u.result) c.lowest-v.result) × (c.lowest-u.result ≢ c.lowest-v.result)
two g t c =
    two_left c.lowest-u.ensures c.rest-second.ensures c.lowest-v.ensures c.rest.ensures (empty_holds c.is_empty.ensures c.if-is_empty.true)

pub take-end_pair-requires : goal.take-end_pair-requires
take-end_pair-requires g t c =
    let pair = two g t (goal.at.take-end_pair-requires g t c).Then-is_empty in
    (take_same c.requires pair.0, pair.1, rw pair.0 at (c.settle.ensures.left c.if-settle.false).3)

pub take-returns-then-is_empty-clause-fills : goal.take-returns-then-is_empty-clause-fills
take-returns-then-is_empty-clause-fills g t c =
    let pair = two g t (goal.at.take-returns-then-is_empty-clause-fills g t c).Then-is_empty in
    rw pair.0 (rw (c.settle.ensures.left c.if-settle.false).0 at c.end_pair.ensures.fills)

-- more than two are left
pub take-agenda-next-requires : goal.take-agenda-next-requires
take-agenda-next-requires g t c = take_pickable c.requires (some_candidate (c.settle.ensures.left c.if-settle.false).2)

pub take-sweep-requires : goal.take-sweep-requires
take-sweep-requires g t c κs h = (
  omega (arith, cover_candidates c.requires c.agenda-next.ensures c.minus-others.ensures, c.decreases),
  (h, (cover_sweeping c.requires c.agenda-next.ensures c.minus-others.ensures, (c.settle.ensures.left c.if-settle.false).1)),
)

pub take-returns-clause-fills : goal.take-returns-clause-fills
take-returns-clause-fills g t c =
    cover_adds c.requires c.agenda-next.ensures c.minus-others.ensures
    (request 1 (g.W.Wanted.least c.args.want (mask c.args.s)) (g.W.Wanted.silent c.args.want)) refl
    (rw (c.settle.ensures.left c.if-settle.false).0 at c.sweep.ensures.fills)
