-- A p line is taken before any other and with an accepted n only; what stood in the table stays.
use Rattle.std.proofs.Common.{sym}
use Rattle.std.proofs.lemmas.Bool.{not-true, not-false}
use Rattle.dimacs.specs.StateLaws.{problem_again, problem_outside, problem_comes}
use Rattle.dimacs.proofs.state.Scan.take_problem.Goals as goal

pub returns-then-is_some : goal.returns-then-is_some
returns-then-is_some c s ms h = problem_again _ _ _ ms _ c.if-is_some.ensures s h

pub returns-then-not-vertices_accepted : goal.returns-then-not-vertices_accepted
returns-then-not-vertices_accepted c s ms h =
    problem_outside _ _ _ ms _ c.if-is_some.ensures (not-false _ (sym c.if-not-vertices_accepted.ensures)) s h

pub returns : goal.returns
returns c s ms h = problem_comes _ _ _ ms _ c.if-is_some.ensures (not-true _ (sym c.if-not-vertices_accepted.ensures)) s h
