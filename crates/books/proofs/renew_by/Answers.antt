-- The list is made in memory of its own and copied; where it does not fit there, it is made again in the slots.
use Rattle.std.proofs.Common.{arith}
use Rattle.sets.specs.Words.Masks.{count_masks}
use Rattle.books.specs.CallLaws.{renews_short, renews_copied, renews_again}
use Rattle.books.proofs.renew_by.Goals as goal

-- slots that are too few are not touched
pub returns-then-count-m : goal.returns-then-count-m
returns-then-count-m c = renews_short c.collect-m.ensures (omega arith)

pub returns-then-count-m-2 : goal.returns-then-count-m-2
returns-then-count-m-2 c = renews_again c.collect-m.ensures (omega arith) c.collect.ensures

pub returns : goal.returns
returns c = renews_copied c.collect-m.ensures (omega arith) (omega (arith, count_masks c.collect-m.new.slots, count_masks c.args.held.now)) c.copy.ensures
