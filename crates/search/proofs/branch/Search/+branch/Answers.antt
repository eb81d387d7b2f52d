-- Each cut adds nothing, a leaf adds itself, and the branches with and without a vertex share the rest.
-- The measure is the number c, which falls when a candidate leaves it.
use Rattle.std.specs.Prelude.{◌≡◌, ℕ, ◌+◌, ◌<◌}
use mathlib.Core.Path.{refl, sym, ap, ◌∙◌}
use native.Mathlib.Omega.{arith}
use borrow.Author.Tests.{eqb-true, eqb-false}
use Rattle.sets.specs.Set as sets
use Rattle.sets.specs.Words.{width, mask, masks}
use Rattle.sets.specs.SubsetLaws.{in_below, in_of_sub, sub_below, minus-sub, positive_of}
use Rattle.judging.specs.SurveyLaws.{finds_plex}
use Rattle.search.specs.Trim.{Beside}
use Rattle.search.specs.Ready.{lowered, Whole, Split}
use Rattle.search.specs.SiftLaws.{counted_all}
use Rattle.search.specs.ReadyLaws.{next_floor, next_fits, next_empty, next_branching, next_adds}
use Rattle.search.specs.ReadyLaws.{ready_vertex, ready_joinable, ready_siftable, whole_inside, whole_between}
use Rattle.search.specs.ReadyLaws.{lacks_adds, extendable_adds, stuck_adds, leaf_adds}
use Rattle.search.specs.ReadyLaws.{split_vertex, with_boundable, with_ready, with_falls, without_falls, without_ready, without_adds, branches_adds}
use Rattle.search.proofs.branch.Search.+branch.Goals as goal
use Rattle.search.proofs.branch.Search.+branch.Goals.{After-join-a, After-pick-v, After-indicator, After-beside-close, After-sift-kept}

-- ---- what is known on the way

-- s and c together
whole : {t : ℕ} (c : After-join-a t) → Whole (masks c.args.self.now.rows.now) (masks c.args.self.now.near.now)
    (lowered c.args.self.now.k c.args.q (mask c.args.self.now.silent) (mask c.args.s)) (mask c.args.s) (mask c.args.c) (mask c.join-a.result)
whole c = record { ready = c.requires.ready; whole = c.join-a.ensures }

-- the vertex to split by is a candidate
member : {t : ℕ} (c : After-pick-v t) → sets.In c.pick-v.result (mask c.args.c)
member c = in_of_sub _ _ _ c.among-from.ensures.part c.pick-v.ensures

vertex : {t : ℕ} (c : After-pick-v t) → c.pick-v.result < width
vertex c = omega (arith, ready_vertex c.requires.ready _ (member c), c.requires.ready.settled.sized.most)

-- it raises the floor where it is silent
next : {t : ℕ} (c : After-indicator t) → c.args.q + c.indicator.result ≡ c.args.q + sets.bit (mask c.args.self.now.silent) c.pick-v.result
next c = ap (λ (n : ℕ). c.args.q + n) c.indicator.ensures

beside : {t : ℕ} (c : After-beside-close t) → Beside (masks c.args.self.now.rows.now)
    (lowered c.args.self.now.k c.args.q (mask c.args.self.now.silent) (mask c.args.s)) (mask c.args.s) (mask c.args.c) c.pick-v.result (mask c.beside-close.result)
beside c = c.beside-close.ensures _ refl c.requires.ready.settled.near

split : {t : ℕ} (c : After-sift-kept t) → Split (masks c.args.self.now.rows.now) (masks c.args.self.now.near.now)
    (lowered c.args.self.now.k c.args.q (mask c.args.self.now.silent) (mask c.args.s)) (mask c.args.s) (mask c.args.c)
    c.pick-v.result (mask c.sift-kept.result) (mask c.without-rest.result)
split c =
    let chosen : sets.In c.pick-v.result (mask c.args.c) = in_of_sub _ _ _ c.among-from.ensures.part c.pick-v.ensures in
    let floor = next_floor c.requires _ chosen (ap (λ (n : ℕ). c.args.q + n) c.indicator.ensures) in
    let close = c.beside-close.ensures _ refl c.requires.ready.settled.near in
    record {
      ready = c.requires.ready;
      member = chosen;
      beside = c.sift-kept.ensures _ refl (counted_all _ c.minus-counted.ensures floor) close;
      others = c.without-rest.ensures;
    }

-- ---- the needs

pub is_low-requires : goal.is_low-requires
is_low-requires t c = (whole_between (whole c), c.requires.raised)

pub returns-then-is_low-clause-fills : goal.returns-then-is_low-clause-fills
returns-then-is_low-clause-fills t c = lacks_adds (whole (goal.at.returns-then-is_low-clause-fills t c).After-join-a) (c.is_low.ensures.0 c.if-is_low.true)

pub survey-seen-requires : goal.survey-seen-requires
survey-seen-requires t c = whole_inside (whole (goal.at.survey-seen-requires t c).After-join-a)

pub leaf-requires : goal.leaf-requires
leaf-requires t c = record {
  below = (whole_inside (whole (goal.at.leaf-requires t c).After-join-a)).below;
  unblocking = c.survey-seen.ensures.opened;
}

pub returns-then-seen-k-clause-fills : goal.returns-then-seen-k-clause-fills
returns-then-seen-k-clause-fills t c =
    let large = c.is_low.ensures.1 c.if-is_low.false in
    let plex = finds_plex c.survey-seen.ensures c.if-seen-k.true in
    leaf_adds (whole (goal.at.returns-then-seen-k-clause-fills t c).After-join-a) plex large c.leaf.ensures.fills

pub returns-then-is_extendable-clause-fills : goal.returns-then-is_extendable-clause-fills
returns-then-is_extendable-clause-fills t c =
    extendable_adds (whole (goal.at.returns-then-is_extendable-clause-fills t c).After-join-a) (c.is_extendable.ensures c.if-is_extendable.true)

pub among-from-requires : goal.among-from-requires
among-from-requires t c =
    let inside = whole_inside (whole (goal.at.among-from-requires t c).After-join-a) in
    record {
      vertex = in_below _ _ _ inside.below (c.survey-seen.ensures.reached (omega (arith, c.if-seen-k.false))).0;
      most = inside.most;
    }

pub returns-then-is_empty-clause-fills : goal.returns-then-is_empty-clause-fills
returns-then-is_empty-clause-fills t c =
    let worst = c.survey-seen.ensures.reached (omega (arith, c.if-seen-k.false)) in
    stuck_adds (whole (goal.at.returns-then-is_empty-clause-fills t c).After-join-a) _ worst.0 (omega (arith, worst.1, c.if-seen-k.false))
    (c.among-from.ensures.none (eqb-true _ _ (sym c.is_empty.ensures ∙ c.if-is_empty.true)))

pub pick-v-requires : goal.pick-v-requires
pick-v-requires t c = record {
  some = positive_of _ (eqb-false _ _ (sym c.is_empty.ensures ∙ c.if-is_empty.false));
  below = sub_below _ _ _ c.among-from.ensures.part c.requires.ready.fine.candidates;
}

pub indicator-requires : goal.indicator-requires
indicator-requires t c = vertex (goal.at.indicator-requires t c).After-pick-v

pub overflow_add-next : goal.overflow_add-next
overflow_add-next t c = omega (arith, next_fits c.requires _ (member (goal.at.overflow_add-next t c).After-pick-v) (next c))

pub without-rest-requires : goal.without-rest-requires
without-rest-requires t c = vertex (goal.at.without-rest-requires t c).After-pick-v

pub beside-close-requires : goal.beside-close-requires
beside-close-requires t c = ready_joinable c.requires.ready _ (member (goal.at.beside-close-requires t c).After-pick-v)

pub sift-kept-requires : goal.sift-kept-requires
sift-kept-requires t c =
    let at = goal.at.sift-kept-requires t c in
    let chosen = member at.After-pick-v in
    ready_siftable c.requires.ready _ chosen (next_fits c.requires _ chosen (next at.After-indicator)) (beside at.After-beside-close)
    (rw c.minus-counted.ensures (minus-sub _ _))

pub branch-self-requires : goal.branch-self-requires
branch-self-requires t c =
    let parts = split (goal.at.branch-self-requires t c).After-sift-kept in
    (omega (arith, without_falls parts, c.decreases), record { ready = without_ready parts; raised = c.requires.raised })

pub is_bounded-requires : goal.is_bounded-requires
is_bounded-requires t c =
    let at = goal.at.is_bounded-requires t c in
    (with_boundable (split at.After-sift-kept), omega (arith, next_floor c.requires _ (member at.After-pick-v) (next at.After-indicator)))

pub returns-then-is_bounded-clause-fills : goal.returns-then-is_bounded-clause-fills
returns-then-is_bounded-clause-fills t c =
    let at = goal.at.returns-then-is_bounded-clause-fills t c in
    without_adds (split at.After-sift-kept) c.branch-self.ensures.fills
    (next_empty c.requires _ (member at.After-pick-v) (next at.After-indicator) (c.is_bounded.ensures c.if-is_bounded.true))

pub with-joined-requires : goal.with-joined-requires
with-joined-requires t c =
    let parts = split (goal.at.with-joined-requires t c).After-sift-kept in
    omega (arith, split_vertex parts, parts.ready.settled.sized.most)

pub branch-self-requires-2 : goal.branch-self-requires-2
branch-self-requires-2 t c =
    let at = goal.at.branch-self-requires-2 t c in
    let parts = split at.After-sift-kept in (
      omega (arith, with_falls parts, c.decreases),
      next_branching c.requires _ (member at.After-pick-v) (next at.After-indicator) _ c.with-joined.ensures (with_ready parts c.with-joined.ensures),
    )

pub returns-clause-fills : goal.returns-clause-fills
returns-clause-fills t c =
    let at = goal.at.returns-clause-fills t c in
    branches_adds (split at.After-sift-kept) c.branch-self.ensures.fills c.with-joined.ensures
    (next_adds c.requires _ (member at.After-pick-v) (next at.After-indicator) _ c.with-joined.ensures c.branch-self-2.ensures.fills)
