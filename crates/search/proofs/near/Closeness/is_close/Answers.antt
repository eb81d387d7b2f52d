-- The test by its parts: the common neighbours in the core are counted, and the adjacency of u and v is looked up.
use Rattle.std.specs.Prelude.{◌≤◌}
use native.Mathlib.Omega.{arith}
use Rattle.sets.specs.BitLaws.{bit_le}
use Rattle.sets.specs.Words.{mask}
use Rattle.search.specs.NearRowsLaws.{close_test}
use Rattle.search.proofs.near.Closeness.is_close.Goals as goal

pub overflow_mul-result-2 : goal.overflow_mul-result-2
overflow_mul-result-2 c =
    let one : c.indicator.result ≤ 1 = omega (arith, c.indicator.ensures, bit_le (mask c.get-beside.result) c.args.u) in
    omega (arith, one)

pub overflow_add-result-3 : goal.overflow_add-result-3
overflow_add-result-3 c =
    let one : c.indicator.result ≤ 1 = omega (arith, c.indicator.ensures, bit_le (mask c.get-beside.result) c.args.u) in
    omega (arith, one, c.size-shared.ensures.1, c.args.self.now.pairable.slack)

pub returns : goal.returns
returns c =
    close_test _ _ _ _ _ _ c.get-beside.ensures c.get.ensures c.meet.ensures c.meet-2.ensures
    c.size-shared.ensures.0 c.indicator.ensures
