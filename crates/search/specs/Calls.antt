-- What the call that lists answers, and what it leaves in the slots, for every input.
--
--   slots_cause room m        number 6: fewer slots than m
--   room_reply cs m room      the answer of a call that m slots are needed for, once its other causes cs have passed: m
--   list_reply g ask room     the answer to the request ask: refused, or m, the number of maximal k-plexes of at least q members
--   placed l slots           the slots that are given the list l: l and behind it what they held, or all 0 where it does not fit
--   slots_after g ask slots   the slots at exit: as they were where the request is refused, else given the list
--   Lists                    both, as the call's promise
--   Collects                 the promise of the function below it: m, and where the list fits, the slots given it
use Rattle.std.specs.Prelude.{◌≡◌, ℕ, ◌≤◌, cond, List, [], ◌∷◌, ◌++◌, length, drop, replicate, nat_le, nat_lt, Result}
use Rattle.judging.specs.Request.{Request}
use Rattle.judging.specs.Refusal.{Reply, refused, answered, Cause, cause, first_cause}
use Rattle.judging.specs.Calls.{valued_reply, passed, request_check}
use Rattle.judging.specs.declared.Refusal.{Refusal}
use Rattle.lists.specs.Listing.{listing}

unfoldable pub slots_cause : ℕ → ℕ → Cause
slots_cause room m = cause (nat_lt room m) 6 m

abbrev pub room_reply : List Cause → ℕ → ℕ → Reply (Unit {0})
room_reply cs m room = first_cause (cs ++ slots_cause room m ∷ []) (answered m tt)

-- 1, 2, 3, 4, 5, 6
unfoldable pub list_reply : List ℕ → Request → ℕ → Reply (Unit {0})
list_reply g ask room = room_reply (request_check g ask) (length (listing g ask)) room

unfoldable pub placed : List ℕ → List ℕ → List ℕ
placed l slots = cond (nat_le (length l) (length slots)) (l ++ drop (length l) slots) (replicate (length slots) 0)

abbrev pub after_check : Reply (Unit {0}) → List ℕ → List ℕ → List ℕ
after_check (refused n v) l slots = slots
after_check (answered v u) l slots = placed l slots

unfoldable pub slots_after : List ℕ → Request → List ℕ → List ℕ
slots_after g ask slots = after_check (first_cause (request_check g ask) passed) (listing g ask) slots

pub record Lists (g : List ℕ) (ask : Request) (before after : List ℕ) (r : Result ℕ Refusal) : Type 0 where
  pub reply : valued_reply r ≡ list_reply g ask (length before)
  pub slots : after ≡ slots_after g ask before

-- what slots that are too few then hold is left open
pub record Collects (g : List ℕ) (ask : Request) (before after : List ℕ) (m : ℕ) : Type 0 where
  pub counted : m ≡ length (listing g ask)
  pub fits : m ≤ length before → after ≡ listing g ask ++ drop m before
