-- A set of one word has the word as its mask.
use Rattle.sets.specs.Words.Operations.{of_word_mask}
use Rattle.sets.proofs.SetFromU64.from.Goals as goal

pub returns : goal.returns
returns c = of_word_mask c.args.word
