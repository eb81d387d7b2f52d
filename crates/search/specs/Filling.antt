-- What a step of the search does to the lent slots, which it fills.
--
--   Fills n p a b          the step from the slots a to the slots b adds the masks below n that p tests
--   FillsFound g ask s c   the step adds what is found with s and the candidates c
use Rattle.std.specs.Prelude.{ℕ, ◌^◌, Bool, List, length}
use Rattle.sets.specs.Words.{masks}
use Rattle.judging.specs.Request.{Request}
use Rattle.lists.specs.Placing.{Adds}
use Rattle.search.specs.Found.{found}
use Rattle.search.specs.declared.slots.Slots.{Slots}

abbrev pub Fills : ℕ → (ℕ → Bool) → Slots → Slots → Type 0
Fills n p a b = Adds n p (masks a.lent.now) a.count (masks b.lent.now) b.count

abbrev pub FillsFound : List ℕ → Request → ℕ → ℕ → Slots → Slots → Type 0
FillsFound g ask s c a b = Fills (2 ^ length g) (found g ask s c) a b
