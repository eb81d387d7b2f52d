-- What the call for the largest k-plex answers, for every input.
--
--   forced_cause g k f     number 11: the forced set is looser than k
--   largest_reply g k f    the answer: refused, or the size of the largest k-plex that holds f with the lowest mask of one of that size
use Rattle.std.specs.Prelude.{ℕ, List, [], ◌∷◌, ◌++◌, ltb, Result, Ok, Err}
use Rattle.sets.specs.Set.{size}
use Rattle.sets.specs.Words.{mask}
use Rattle.sets.specs.declared.Set.{Set}
use Rattle.judging.specs.Plex.{looseness}
use Rattle.judging.specs.Refusal.{Reply, answered, Cause, cause, first_cause}
use Rattle.judging.specs.Calls.{refusal, set_check}
use Rattle.judging.specs.declared.Refusal.{Refusal}
use Rattle.largest.specs.Largest.{largest_size, largest_mask}

unfoldable pub forced_cause : List ℕ → ℕ → ℕ → Cause
forced_cause g k f = cause (ltb k (looseness g f)) 11 0

-- 1, 2, 4, 5, 7, 11
unfoldable pub forced_check : List ℕ → ℕ → ℕ → List Cause
forced_check g k f = set_check g k f ++ forced_cause g k f ∷ []

unfoldable pub largest_reply : List ℕ → ℕ → ℕ → Reply ℕ
largest_reply g k f = first_cause (forced_check g k f) (answered (largest_size g k f) (largest_mask g k f))

abbrev pub largest_found_reply : Result Set Refusal → Reply ℕ
largest_found_reply (Ok s) = answered (size (mask s)) (mask s)
largest_found_reply (Err f) = refusal f
