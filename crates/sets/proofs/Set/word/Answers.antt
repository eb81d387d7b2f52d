-- A set has one word, so the one asked for is the lowest.
use Rattle.sets.specs.Words.Operations.{word_of_lem}
use Rattle.sets.proofs.Set.word.Goals as goal

pub returns : goal.returns
returns c = word_of_lem c.args.self c.args.j c.requires
