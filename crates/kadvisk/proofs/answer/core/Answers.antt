-- Each arm gives the outcome of the answer that it matched; at one word per set the word of the core is its mask.
use Rattle.sets.specs.Words.Operations.{word_mask}
use Rattle.kadvisk.proofs.answer.core.Goals as goal

pub returns-in-Ok : goal.returns-in-Ok
returns-in-Ok c = rw (c.in-Ok.is, ← word_mask c.in-Ok.peeled.core, ← c.word.ensures)

pub returns-in-Err : goal.returns-in-Err
returns-in-Err c = rw c.in-Err.is c.from.ensures
