-- A second bound below q leaves nothing to add; where the bound is switched off nothing is said.
use native.Mathlib.Omega.{arith}
use Rattle.std.specs.Prelude.{◌≡◌, ℕ}
use mathlib.Core.Path.{ap, ◌∙◌}
use borrow.Author.Tests.{ltb-true}
use Rattle.sets.specs.Set.{with}
use Rattle.sets.specs.Words.{mask}
use Rattle.judging.specs.Request.{Request, recorded}
use Rattle.search.specs.FoundLaws.{bounded_boundable, bounded_empty}
use Rattle.search.specs.Ready.{lowered}
use Rattle.search.proofs.branch.Search.is_bounded.Goals as goal
use Rattle.search.proofs.branch.Search.is_bounded.Goals.{After-with-counted}

-- the request for what holds s and v
abbrev ask : After-with-counted → Request
ask c = lowered c.args.self.now.k c.args.q (mask c.args.self.now.silent) (with (mask c.args.s) c.args.v)

-- the candidates that count at it, and v
counts : (c : After-with-counted) → mask c.with-counted.result ≡ with (recorded (ask c) (mask c.args.c)) c.args.v
counts c = c.with-counted.ensures ∙ ap (λ (d : ℕ). with d c.args.v) c.minus.ensures

pub second_bound-requires : goal.second_bound-requires
second_bound-requires c =
    let at = (goal.at.second_bound-requires c).After-with-counted in
    bounded_boundable (ask at) _ c.requires.0 (counts at)

pub returns-then-self : goal.returns-then-self
returns-then-self c e =
    let at = (goal.at.returns-then-self c).After-with-counted in
    bounded_empty (ask at) _ c.requires.0 (counts at) c.second_bound.ensures (omega (arith, c.requires.1)) (ltb-true _ _ e)
