-- Each arm gives the outcome of the answer that it matched: the answer is rewritten to what it is there. At one word per set the word of the silent set is its
-- mask.
use Rattle.sets.specs.Words.Operations.{word_mask}
use Rattle.kadvisk.proofs.answer.read.Goals as goal

pub returns-in-Ok : goal.returns-in-Ok
returns-in-Ok c = rw (c.in-Ok.is, c.word.ensures, word_mask c.in-Ok.sheet.request.silent)

pub returns-in-Err : goal.returns-in-Err
returns-in-Err c = rw c.in-Err.is c.from.ensures
