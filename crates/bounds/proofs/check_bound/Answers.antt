-- The causes are tested in their order: those of the table, the slack and s, then c, then v, then their places. The first that holds is the reply.
use native.Mathlib.Omega.{arith}
use mathlib.Core.Path.{sym}
use Rattle.judging.proofs.PassedLaws.{set_checked}
use Rattle.judging.specs.CallLaws.{handed_on}
use Rattle.bounds.specs.BoundCallLaws.{set_refused, candidates_refused, vertex_refused, bound_refused, bound_accepted}
use Rattle.bounds.proofs.check_bound.Goals as goal

pub returns-in_err-check_set : goal.returns-in_err-check_set
returns-in_err-check_set c = rw (handed_on _ c.from_residual.ensures.1) (set_refused _ _ _ _ _ _ c.in_err-check_set.ensures)

pub below-requires : goal.below-requires
below-requires c =
    let z = (set_checked _ _ _ (sym c.in_ok-check_set.ensures)).inside in
    (omega (arith, c.count-n.ensures, z.some), omega (arith, c.count-n.ensures, z.most))

pub returns-then-not-below : goal.returns-then-not-below
returns-then-not-below c =
    candidates_refused _ _ _ _ _ c.in_ok-check_set.ensures
    c.count-n.ensures c.below.ensures c.if-not-below.true

pub returns-then-n-v : goal.returns-then-n-v
returns-then-n-v c =
    vertex_refused _ _ _ _ _ c.in_ok-check_set.ensures
    c.count-n.ensures c.below.ensures c.if-not-below.false c.if-n-v.true

pub is_misplaced-requires : goal.is_misplaced-requires
is_misplaced-requires c =
    let known = set_checked _ _ _ (sym c.in_ok-check_set.ensures) in
    (known.inside, omega (arith, c.if-n-v.false, c.count-n.ensures))

pub returns-then-is_misplaced : goal.returns-then-is_misplaced
returns-then-is_misplaced c =
    bound_refused _ _ _ _ _ c.in_ok-check_set.ensures
    c.count-n.ensures c.below.ensures c.if-not-below.false c.if-n-v.false
    c.is_misplaced.ensures c.if-is_misplaced.true

pub returns : goal.returns
returns c =
    bound_accepted _ _ _ _ _ c.in_ok-check_set.ensures
    c.count-n.ensures c.below.ensures c.if-not-below.false c.if-n-v.false
    c.is_misplaced.ensures c.if-is_misplaced.false
