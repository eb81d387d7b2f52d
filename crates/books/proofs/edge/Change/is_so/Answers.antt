-- What is asked for is compared with the bit of b in the row of a.
use Rattle.std.specs.Prelude.{◌≡◌, Bool, true, false, cond, not, refl}
use mathlib.Core.Bool.{beq}
use Rattle.judging.specs.Graph.{adjacent}
use Rattle.books.specs.Book.{already_so}
use Rattle.books.proofs.edge.Change.is_so.Goals as goal

compared : (t on : Bool) → beq t on ≡ cond on t (not t)
compared true true = refl
compared true false = refl
compared false true = refl
compared false false = refl

pub returns : goal.returns
unfolding already_so adjacent
returns c = cc (compared c.has.result c.args.self.adjacent)
