-- Placing: what it is for slots to hold the masks below a bound that pass a test, in any order, and to be given more of them.
--
--   passing N P      the masks below N that pass P, in rising order: the list is passing (2 ^ n) (listed g ask)
--   number N P       how many they are
--   union P Q        the masks that pass P and those that pass Q;  only x, the mask x alone;  unless b x, the same, and nothing where b is true
--   Apart N P Q      no mask below N passes both
--   capped n         n, or 2 ^ 64 - 1 where n is greater: the count stops there
--   Held first xs slots              while they fit, slots hold the masks xs, in any order, and after them what first held there
--   Holds N first P slots count      count is how many masks pass P, capped, and the slots hold them
--   Adds N Q before count after r    the step from (before, count) to (after, r) adds the masks that pass Q
use Rattle.std.specs.Prelude.{ℕ, ◌-◌, ◌^◌, ◌≤◌, ◌<◌, min, ◌≡◌, Bool, not, ◌&&◌, ◌||◌, List, T, eqb, length, take, drop}
use Rattle.sets.specs.Ranges.{range, keep}
use Rattle.lists.specs.Order.{Shuffled}

abbrev pub passing : ℕ → (ℕ → Bool) → List ℕ
passing N P = keep P (range N)

abbrev pub number : ℕ → (ℕ → Bool) → ℕ
number N P = length (passing N P)

abbrev pub union : (ℕ → Bool) → (ℕ → Bool) → ℕ → Bool
union P Q x = P x || Q x

abbrev pub only : ℕ → ℕ → Bool
only x y = eqb y x

abbrev pub unless : Bool → ℕ → ℕ → Bool
unless b x y = not b && eqb y x

abbrev pub Apart : ℕ → (ℕ → Bool) → (ℕ → Bool) → Type 0
Apart N P Q = (x : ℕ) → x < N → T (P x) → T (Q x) → ⊥

abbrev pub most_count : ℕ
most_count = 2 ^ 64 - 1

abbrev pub capped : ℕ → ℕ
capped n = min n most_count

abbrev pub Held : List ℕ → List ℕ → List ℕ → Type 0
Held first xs slots = length xs ≤ length first → Shuffled (take (length xs) slots) xs × (drop (length xs) slots ≡ drop (length xs) first)

pub record Holds (N : ℕ) (first : List ℕ) (P : ℕ → Bool) (slots : List ℕ) (count : ℕ) : Type 0 where
  pub counted : count ≡ capped (number N P)
  pub long : length slots ≡ length first
  pub kept : Held first (passing N P) slots

-- where the masks of a P apart from Q were counted and held, those of P and Q are
pub record Adds (N : ℕ) (Q : ℕ → Bool) (before : List ℕ) (count : ℕ) (after : List ℕ) (r : ℕ) : Type 0 where
  pub holds : (first : List ℕ) (P : ℕ → Bool) → Apart N P Q → Holds N first P before count → Holds N first (union P Q) after r
