-- With no candidate, or with one, the clique is at its end; else a second one is left.
use Rattle.std.specs.Prelude.{◌≡◌, ◌^◌, refl}
use native.Mathlib.Omega.{arith}
use Rattle.judging.specs.Request.{request}
use Rattle.sets.specs.Words.{mask}
use Rattle.sets.specs.WalkLaws.{empty_holds, empty_fails}
use Rattle.search.specs.TakeLaws.{take_same, take_adds}
use Rattle.search.specs.EndLaws.{one_left}
use Rattle.search.specs.FloorLaws.{two_more}
use Rattle.search.proofs.free.FreeWanted.settle.Goals as goal
use Rattle.search.proofs.free.FreeWanted.settle.Goals.{Then-is_empty-2}

-- the only candidate
one : (c : Then-is_empty-2) → mask c.args.c ≡ 2 ^ c.lowest-v.result
one c = one_left c.lowest-v.ensures c.rest.ensures (empty_holds c.is_empty-2.ensures c.if-is_empty-2.true)

pub end_with-requires : goal.end_with-requires
end_with-requires c = take_same c.requires (one (goal.at.end_with-requires c).Then-is_empty-2)

pub returns-then-is_empty-2-clause-done : goal.returns-then-is_empty-2-clause-done
returns-then-is_empty-2-clause-done c _ =
    take_adds c.requires (request 1 0 0) (one (goal.at.returns-then-is_empty-2-clause-done c).Then-is_empty-2) c.end_with.ensures.fills

pub returns-clause-left : goal.returns-clause-left
returns-clause-left c _ =
    (refl, tt, two_more c.lowest-v.ensures c.rest.ensures (empty_fails c.is_empty-2.ensures c.if-is_empty-2.false), omega arith)
