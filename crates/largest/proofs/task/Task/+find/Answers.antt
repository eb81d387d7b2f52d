-- A branch is cut where nothing listed is left in it; at a leaf all of it is a plex; and where the branch without a vertex gave nothing, the branch with it
-- decides. Each call has fewer candidates, as a number, than the one before.
use Rattle.std.specs.Prelude.{ℕ, ◌≡◌, List, bit_or}
use Rattle.std.proofs.Common.{arith}
use Rattle.sets.specs.Set.{In}
use Rattle.sets.specs.SubsetLaws.{in_of_sub, in_below, sub_below}
use Rattle.sets.specs.WalkLaws.{without_less, empty_holds, empty_fails}
use Rattle.judging.specs.Request.{Request}
use Rattle.judging.specs.SurveyLaws.{finds_plex}
use Rattle.search.specs.Choice.{Among}
use Rattle.search.specs.Found.{Compatible}
use Rattle.search.specs.Ready.{Settled, Ready, Whole}
use Rattle.search.specs.ReadyLaws.{whole_inside, whole_between}
use Rattle.largest.specs.SoughtLaws.{sought_short, sought_stuck, sought_leaf, without_ready, sought_without, sought_branches}
use Rattle.largest.specs.FitLaws.{join_ready, join_falls}
use Rattle.largest.proofs.task.Task.+find.Goals as goal

-- what the search relies on
ready : {g t : List ℕ} {ask : Request} {s c : ℕ} → Settled g t ask → Compatible g ask.slack s c → Ready g t ask s c
ready h f = record { settled = h; fine = f }

together : {g t : List ℕ} {ask : Request} {s c a : ℕ} → Settled g t ask → Compatible g ask.slack s c → a ≡ bit_or s c → Whole g t ask s c a
together h f e = record { ready = ready h f; whole = e }

-- the vertex that is picked is a candidate
picked : {g : List ℕ} {c w s : ℕ} (v : ℕ) → Among g c w s → In v s → In v c
picked {c = c} {s = s} v among i = in_of_sub s c v among.part i

pub is_short-requires : goal.is_short-requires
is_short-requires t c = whole_between (together c.args.self.now.settled c.requires c.join-a.ensures)

pub returns-then-is_short : goal.returns-then-is_short
returns-then-is_short t c =
    sought_short (together c.args.self.now.settled c.requires c.join-a.ensures) (c.is_short.ensures.0 c.if-is_short.true)

pub survey-seen-requires : goal.survey-seen-requires
survey-seen-requires t c = whole_inside (together c.args.self.now.settled c.requires c.join-a.ensures)

pub returns-then-seen-self : goal.returns-then-seen-self
returns-then-seen-self t c =
    sought_leaf (together c.args.self.now.settled c.requires c.join-a.ensures) (finds_plex c.survey-seen.ensures c.if-seen-self.true)
    (c.is_short.ensures.1 c.if-is_short.false)

pub among-from-requires : goal.among-from-requires
among-from-requires t c =
    let inside = whole_inside (together c.args.self.now.settled c.requires c.join-a.ensures) in
    record {
      vertex = in_below _ _ _ inside.below (c.survey-seen.ensures.reached (omega (arith, c.if-seen-self.false))).0;
      most = inside.most;
    }

pub returns-then-is_empty : goal.returns-then-is_empty
returns-then-is_empty t c =
    let worst = c.survey-seen.ensures.reached (omega (arith, c.if-seen-self.false)) in
    sought_stuck (together c.args.self.now.settled c.requires c.join-a.ensures) _ worst.0 (omega (arith, worst.1, c.if-seen-self.false))
    (c.among-from.ensures.none (empty_holds c.is_empty.ensures c.if-is_empty.true))

pub pick-v-requires : goal.pick-v-requires
pick-v-requires t c =
    record {
      some = empty_fails c.is_empty.ensures c.if-is_empty.false;
      below = sub_below _ _ _ c.among-from.ensures.part c.requires.candidates;
    }

pub without-requires : goal.without-requires
without-requires t c =
    omega (arith, in_below _ _ _ c.requires.candidates (picked _ c.among-from.ensures c.pick-v.ensures), c.args.self.now.settled.sized.most)

pub find-requires : goal.find-requires
find-requires t c = (
  omega (arith, c.decreases, without_less _ _ (picked _ c.among-from.ensures c.pick-v.ensures), c.without.ensures),
  (without_ready _ c.without.ensures (ready c.args.self.now.settled c.requires)).fine,
)

pub returns-in-Some : goal.returns-in-Some
returns-in-Some t c = sought_without _ c.without.ensures c.in-Some.ensures

pub beside-kept-requires : goal.beside-kept-requires
beside-kept-requires t c = (c.requires, picked _ c.among-from.ensures c.pick-v.ensures)

pub with-requires : goal.with-requires
with-requires t c =
    omega (arith, in_below _ _ _ c.requires.candidates (picked _ c.among-from.ensures c.pick-v.ensures), c.args.self.now.settled.sized.most)

pub find-requires-2 : goal.find-requires-2
find-requires-2 t c =
    let member = picked _ c.among-from.ensures c.pick-v.ensures in (
      omega (arith, c.decreases, join_falls member c.beside-kept.ensures),
      (join_ready (ready c.args.self.now.settled c.requires) member c.beside-kept.ensures c.with.ensures).fine,
    )

pub returns : goal.returns
returns t c =
    sought_branches _ c.without.ensures _ c.in_default.ensures (picked _ c.among-from.ensures c.pick-v.ensures) c.beside-kept.ensures
    c.with.ensures c.find-2.ensures
