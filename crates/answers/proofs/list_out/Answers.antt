-- Where the call that lists gave m, the first m slots are the list, and they are written; and else its refusal is.
use native.Mathlib.Omega.{arith}
use mathlib.Core.Path.{sym}
use lib.Seq.{length-take-le}
use Rattle.sets.specs.Words.Masks.{offset_fits}
use Rattle.answers.specs.AnswerLaws.{listed_fits, listed_few, listed_out}
use Rattle.answers.proofs.list_out.Goals as goal

pub offset-end-requires : goal.offset-end-requires
offset-end-requires c = listed_fits _ c.in-Ok.ensures

pub slice_bounds-write_list-end : goal.slice_bounds-write_list-end
slice_bounds-write_list-end c = offset_fits _ _ _ c.offset-end.ensures (listed_fits _ c.in-Ok.ensures)

pub slice_bounds-write_list-end-in-Ok : goal.slice_bounds-write_list-end-in-Ok
slice_bounds-write_list-end-in-Ok c = sym (length-take-le _ _ (offset_fits _ _ _ c.offset-end.ensures (listed_fits _ c.in-Ok.ensures)))

pub write_list-requires : goal.write_list-requires
write_list-requires c = omega (arith, c.requires.list, listed_few _ c.in-Ok.ensures c.offset-end.ensures)

pub returns-in-Ok : goal.returns-in-Ok
returns-in-Ok c = listed_out _ c.in-Ok.ensures c.offset-end.ensures c.write_list.ensures
