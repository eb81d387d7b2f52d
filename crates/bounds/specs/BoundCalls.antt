-- What the calls that give a bound answer, for every input: their causes in document 01's order, and the bound.
--
--   misplaced g k s c v          s with v is looser than k, v is not in c, or s and c overlap
--   bound_cause g k s c v         the same as a cause, number 10
--   bound_check g k s c v         the causes 1, 2, 4, 5, 7 and 10
--   first_bound_reply g k s c v    the answer to: what is the first bound?
--   second_bound_reply g k s c v   the answer to: what is the second bound?
use Rattle.std.specs.Prelude.{ℕ, Bool, not, ◌||◌, List, [], ◌∷◌, ◌++◌, ◌==◌, bit_and, nat_lt}
use Rattle.sets.specs.Set.{has, with}
use Rattle.judging.specs.Plex.{looseness}
use Rattle.judging.specs.Refusal.{Reply, answered, Cause, cause, first_cause, set_cause, vertex_out_cause}
use Rattle.judging.specs.Calls.{slack_check}
use Rattle.bounds.specs.Bound.{first_bound, second_bound}

unfoldable pub overlap : ℕ → ℕ → Bool
overlap s c = not (bit_and s c == 0)

unfoldable pub misplaced : List ℕ → ℕ → ℕ → ℕ → ℕ → Bool
misplaced g k s c v = nat_lt k (looseness g (with s v)) || not (has c v) || overlap s c

unfoldable pub bound_cause : List ℕ → ℕ → ℕ → ℕ → ℕ → Cause
bound_cause g k s c v = cause (misplaced g k s c v) 10 0

unfoldable pub bound_check : List ℕ → ℕ → ℕ → ℕ → ℕ → List Cause
bound_check g k s c v = slack_check g k ++ set_cause g s ∷ set_cause g c ∷ vertex_out_cause g v ∷ bound_cause g k s c v ∷ []

unfoldable pub first_bound_reply : List ℕ → ℕ → ℕ → ℕ → ℕ → Reply ℕ
first_bound_reply g k s c v = first_cause (bound_check g k s c v) (answered 0 (first_bound g k s c v))

unfoldable pub second_bound_reply : List ℕ → ℕ → ℕ → ℕ → ℕ → Reply ℕ
second_bound_reply g k s c v = first_cause (bound_check g k s c v) (answered 0 (second_bound g k s c v))
