-- Too few candidates add nothing, and enough with any of them what the search without a floor adds. Else there are two at least.
use Rattle.std.specs.Prelude.{refl}
use native.Mathlib.Omega.{arith}
use Rattle.search.specs.FloorLaws.{need_few, need_enough, two_candidates}
use Rattle.search.proofs.floor.FloorWanted.settle.Goals as goal

pub returns-then-is_few-clause-done : goal.returns-then-is_few-clause-done
returns-then-is_few-clause-done c _ = need_few c.requires _ _ (c.is_few.ensures.0 c.if-is_few.true) _ _

pub start-requires : goal.start-requires
start-requires c = c.requires

pub returns-then-is_enough-clause-done : goal.returns-then-is_enough-clause-done
returns-then-is_enough-clause-done c _ =
    need_enough c.requires _ _ (c.is_few.ensures.1 c.if-is_few.false) (c.is_enough.ensures.0 c.if-is_enough.true) c.start.ensures.fills

pub returns-clause-left : goal.returns-clause-left
returns-clause-left c _ =
    let left = c.is_few.ensures.1 c.if-is_few.false in
    let wanting = c.is_enough.ensures.1 c.if-is_enough.false in
    (refl, wanting.0, two_candidates _ _ _ left wanting.1, omega (arith, left))
