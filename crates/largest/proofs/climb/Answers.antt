-- The best so far holds the forced vertices at every turn, and the table serves its size; where no larger one is held, none is larger, and the lowest of the
-- size is sought.
use Rattle.std.specs.Prelude.{◌≡◌}
use Rattle.std.proofs.Common.{arith, refl}
use Rattle.sets.specs.Words.{mask, masks}
use Rattle.search.specs.StartLaws.{table_fits}
use Rattle.largest.specs.Climb.{Top}
use Rattle.largest.specs.ClimbLaws.{held_top, all_top}
use Rattle.largest.proofs.climb.Goals as goal
use Rattle.largest.proofs.climb.Goals.{else-loop-size-test, then-loop-size-test+in_default}

pub new-table-requires : goal.new-table-requires
new-table-requires c = (c.requires.0, record { sized = c.requires.0.sized; room = table_fits _ c.requires.0.sized refl })

pub lowest-requires : goal.lowest-requires
lowest-requires c =
    let same : (masks c.task-2.result.rows.now ≡ masks c.args.rows.now) × (c.task-2.result.k ≡ c.args.k) =
    elim c.loop-size-test.branch [ else-loop-size-test w ↦ (cc, cc) | then-loop-size-test+in_default w ↦ (cc, cc) ]
    in
    let top : Top (masks c.args.rows.now) c.args.k (mask c.args.forced) (mask c.loop-size.best) =
    elim c.loop-size-test.branch [
      | else-loop-size-test w ↦ all_top c.loop-size.invariant.holds (omega arith)
      | then-loop-size-test+in_default w ↦
          let rows : masks w.task-in-loop-size.result.rows.now ≡ masks c.args.rows.now = cc in
          let slack : w.task-in-loop-size.result.k ≡ c.args.k = cc in
          let made = w.task-in-loop-size.ensures in
          held_top c.loop-size.invariant.holds (omega (arith, made.2)) (λ t y. w.in_default.ensures t (rw (rows, slack, made.3) y))
    ]
    in
    let made = c.task-2.ensures in (rw (same.0, same.1, made.3) top, omega (arith, made.2))
