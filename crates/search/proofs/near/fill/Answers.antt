-- After v turns the first v rows are those of the cuts that are switched on, each of which is near.
use mathlib.Core.Path.{refl, ◌∙◌}
use native.Mathlib.Omega.{arith}
use Rattle.search.specs.NearRowsLaws.{written_none, written_more, written_filled}
use Rattle.search.proofs.near.fill.Goals as goal

pub loop-v-init : goal.loop-v-init
loop-v-init c = (written_none, refl)

pub near_row-requires : goal.near_row-requires
near_row-requires c = (c.requires.1, omega arith)

pub put-requires : goal.put-requires
put-requires c = omega (arith, c.loop-v.invariant.0.long)

pub loop-v-preserved : goal.loop-v-preserved
loop-v-preserved c = (
  written_more c.loop-v.invariant.0 (omega (arith, c.loop-v.invariant.0.long, c.requires.0.room)) c.near_row.ensures c.put.ensures,
  c.put.auto.words ∙ c.loop-v.invariant.1,
)

pub shape_of-near : goal.shape_of-near
shape_of-near c = c.loop-v.invariant.1

pub returns : goal.returns
returns c z pairs = written_filled c.requires.1.valid pairs _ _ c.requires.2 (omega arith) c.loop-v.invariant.0
