-- At slack 1 the candidates are common neighbours of s, from which the search for cliques starts.
-- At any other the table of near rows is made, and the branch does the rest.
use native.Mathlib.Omega.{arith}
use Rattle.std.specs.Prelude.{◌≡◌, ℕ, ◌+◌}
use mathlib.Core.Path.{refl, ap, ◌∙◌}
use lib.Bits.{bit_and}
use Rattle.sets.specs.Set.{size}
use Rattle.sets.specs.Words.{mask}
use Rattle.search.specs.FloorLaws.{start_lacking}
use Rattle.search.specs.StartLaws.{table_fits, accepted_searchable, start_pairing, start_pairs, start_branching, start_lowered, start_taking}
use Rattle.search.proofs.enumerate_from.Goals as goal
use Rattle.search.proofs.enumerate_from.Goals.{After-size}

-- the floor with the silent members of s
raised : (c : After-size) → c.args.request.floor + c.size.result ≡
    c.args.request.floor + size (bit_and (mask c.args.s) (mask c.args.request.silent))
raised c = ap (λ (n : ℕ). c.args.request.floor + n) (c.size.ensures.0 ∙ ap size c.meet.ensures)

pub start-requires : goal.start-requires
start-requires c = start_taking c.requires (omega arith) c.common-shared.ensures

pub returns-then-k-eq1-clause-fills : goal.returns-then-k-eq1-clause-fills
returns-then-k-eq1-clause-fills c =
    let one : c.args.request.slack ≡ 1 = omega arith in
    rw one (start_lacking (start_taking c.requires one c.common-shared.ensures) _ _ c.beside-want.ensures.0
    (rw c.beside-want.ensures.1 at c.start.ensures.fills))

pub fill-requires : goal.fill-requires
fill-requires c = (
  record { sized = c.requires.accepted.sized; room = table_fits _ c.requires.accepted.sized refl },
  start_pairing c.requires.candidates c.minus.ensures (accepted_searchable c.requires.accepted),
  (λ e. c.requires.accepted.floor.0),
)

pub branch-search-requires : goal.branch-search-requires
branch-search-requires c =
    let pairs = start_pairs c.requires.candidates c.minus.ensures in
    let table = c.fill.ensures _ pairs in
    start_branching c.requires (raised (goal.at.branch-search-requires c).After-size) (rw table.long (table_fits _ c.requires.accepted.sized refl)) table.near

pub returns-clause-fills : goal.returns-clause-fills
returns-clause-fills c = start_lowered c.requires (raised (goal.at.returns-clause-fills c).After-size) c.branch-search.ensures.fills
