-- The words are cut into groups of one set each, and these are the sets that they hold.
use Rattle.sets.specs.Words.Masks.{count_masks}
use Rattle.sets.proofs.count.Goals as goal

pub returns : goal.returns
returns c = count_masks c.args.words.now
