-- The candidates outside the near row of v go first, and then the two drops take out what is blocked and what misses too much.
use native.Mathlib.Omega.{arith}
use Rattle.sets.specs.Words.{mask, masks}
use Rattle.search.specs.Trim.{Trimmable}
use Rattle.search.specs.TrimLaws.{near_trimmable, still_trimmable, beside_all}
use Rattle.search.proofs.trim.beside.Goals as goal

pub with-joined-requires : goal.with-joined-requires
with-joined-requires c = omega (arith, c.requires.trimmable.vertex)

pub without-requires : goal.without-requires
without-requires c = omega (arith, c.requires.trimmable.vertex)

pub get-requires : goal.get-requires
get-requires c = omega (arith, c.requires.trimmable.vertex)

pub drop_blocked-requires : goal.drop_blocked-requires
drop_blocked-requires c =
    let trimmable : Trimmable (masks c.args.rows.now) (mask c.with-joined.result) (mask c.meet-close.result) c.args.v =
    near_trimmable c.requires c.with-joined.ensures c.without.ensures c.get.ensures c.meet-close.ensures in
    trimmable

pub drop_missing-requires : goal.drop_missing-requires
drop_missing-requires c =
    let trimmable : Trimmable (masks c.args.rows.now) (mask c.with-joined.result) (mask c.meet-close.result) c.args.v =
    near_trimmable c.requires c.with-joined.ensures c.without.ensures c.get.ensures c.meet-close.ensures in
    still_trimmable trimmable c.drop_blocked.ensures

pub returns : goal.returns
returns c =
    beside_all c.requires c.with-joined.ensures c.without.ensures c.get.ensures
    c.meet-close.ensures c.drop_blocked.ensures c.drop_missing.ensures
