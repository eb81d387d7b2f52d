-- A word and the word less 1 have all members in common but the lowest.
use native.Mathlib.Omega.{arith}
use Rattle.sets.specs.SubsetLaws.{positive}
use Rattle.sets.specs.Words.{mask}
use Rattle.sets.specs.Words.Operations.{nonzero_word, rest_mask}
use Rattle.sets.proofs.Set.rest.Goals as goal

pub overflow_sub-word : goal.overflow_sub-word
overflow_sub-word c = nonzero_word c.args.self (positive (mask c.args.self) c.args.v c.requires.member)

pub returns : goal.returns
returns c = rest_mask c.args.self c.args.v (omega arith, tt) c.requires
