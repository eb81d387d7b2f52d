-- The vertices below v have been looked at (`FirstPass`): at a look v stays or goes, as the definition has it, and where it goes those beside it come into
-- doubt.
use Rattle.std.proofs.Common.{arith, ◌<◌, length}
use Rattle.sets.specs.Words.{masks}
use Rattle.bounds.specs.DoubtLaws.{first_pass_none, first_pass_stays, first_pass_goes, first_pass_all}
use Rattle.bounds.proofs.cores.first_pass.Goals as goal
use Rattle.bounds.proofs.cores.first_pass.Goals.{then-degree-m, else-degree-m}

pub loop-v-init : goal.loop-v-init
loop-v-init c = first_pass_none

pub loop-v-preserved : goal.loop-v-preserved
loop-v-preserved c =
    let vertex : c.loop-v.v < length (masks c.args.rows.now) = omega (arith, c.loop-v-test.true, c.count-v-end.ensures) in
    elim c.if-degree-m.branch [
      | then-degree-m w ↦
          rw (w.kept-is, w.doubt-is, w.join-doubt.ensures, w.meet.ensures, w.get.ensures, w.without-kept.ensures)
          (first_pass_goes c.loop-v.invariant vertex c.degree.ensures.0 c.requires.valid w.if-degree-m.true)
      | else-degree-m w ↦
          rw (w.kept-is, w.doubt-is) (first_pass_stays c.loop-v.invariant vertex c.degree.ensures.0 w.if-degree-m.false)
    ]

pub returns : goal.returns
returns c =
    rw c.meet-left.ensures
    (first_pass_all c.loop-v.invariant (omega (arith, c.loop-v-test.false, c.count-v-end.ensures)))
