-- What `offset` gives lies within the words.
use Rattle.std.proofs.Common.{arith}
use Rattle.sets.specs.Words.Masks.{offset_fits}
use Rattle.trials.proofs.words.end.Goals as goal

pub returns : goal.returns
returns c = offset_fits c.args.n c.offset.result c.args.words.now c.offset.ensures (omega arith)
