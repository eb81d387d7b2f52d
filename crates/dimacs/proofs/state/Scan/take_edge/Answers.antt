-- An e line before the p line, or one that is not right, is refused; of one that is right both vertices, counted from 0, are below n, and its edge is set.
use Rattle.std.proofs.Common.{sym}
use native.Mathlib.Omega.{arith}
use Rattle.std.proofs.lemmas.Bool.{not-true, not-false}
use Rattle.dimacs.specs.StateLaws.{right, edge_early, edge_refused, edge_comes}
use Rattle.dimacs.proofs.state.Scan.take_edge.Goals as goal

pub returns-in_default : goal.returns-in_default
returns-in_default c s h = edge_early c.in_default.is _ _ _ _ s h

pub returns-then-not-is_right : goal.returns-then-not-is_right
returns-then-not-is_right c s h = edge_refused c.in-Some.is _ _ _ _ _ s h (not-false _ (sym c.if-not-is_right.ensures))

pub overflow_sub-u : goal.overflow_sub-u
overflow_sub-u c = omega (arith, (right _ _ _ (not-true _ (sym c.if-not-is_right.ensures))).first)

pub overflow_sub-v : goal.overflow_sub-v
overflow_sub-v c = omega (arith, (right _ _ _ (not-true _ (sym c.if-not-is_right.ensures))).second)

pub link-requires : goal.link-requires
link-requires c =
    let r = right _ _ _ (not-true _ (sym c.if-not-is_right.ensures)) in
    let t = c.requires _ c.in-Some.is in
    (omega (arith, r.first, t.most), omega (arith, r.second, t.most), t.wide)

pub returns : goal.returns
returns c s h = edge_comes c.in-Some.is _ _ _ _ s h (not-true _ (sym c.if-not-is_right.ensures)) c.link.ensures
