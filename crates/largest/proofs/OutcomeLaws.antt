-- What an accepted answer of the call means: the set is the largest k-plex that holds the forced vertices, the value its size, and of those of that size it
-- has the lowest mask. A call that succeeds passed its checks, so the forced set is a k-plex of the graph, and what is answered is found by definition.
use Rattle.std.specs.Prelude.{ℕ, ◌^◌, ◌≤◌, ◌<◌, min, ◌≡◌, length}
use Rattle.std.proofs.Common.{arith, sym, ◌∙◌, ltb-false}
use Rattle.std.proofs.Math.Path.{subst}
use mathlib.Core.List.{List, [], ◌∷◌}
use Rattle.sets.specs.Set.{size}
use Rattle.sets.specs.RangeLaws.{Mem}
use Rattle.judging.specs.Request.{request}
use Rattle.judging.specs.Plex.{looseness, Plex, Maximal}
use Rattle.judging.specs.LoosenessLaws.{loose_plex}
use Rattle.judging.specs.Refusal.{answered, first_cause}
use Rattle.judging.specs.Calls.{passed, set_check}
use Rattle.judging.specs.RefusalLaws.{answered_passed, answered_value, answered_found, passed_front, passed_back, passed_head}
use Rattle.judging.proofs.PassedLaws.{set_checked}
use Rattle.lists.specs.Listing.{listing}
use Rattle.lists.specs.ListingLaws.{listing_complete}
use Rattle.largest.specs.Largest.{largest_size, largest_mask, Holding, Largest}
use Rattle.largest.specs.Calls.{forced_cause, forced_check, largest_reply}
use Rattle.largest.specs.LargestLaws.{largest_exists, largest_size_lem, largest-maximal, largest_listed, largest_any, largest_least}

module _ (g : List ℕ) (k f : ℕ) {m s : ℕ} (e : largest_reply g k f ≡ answered m s) where
  none_holds : first_cause (forced_check g k f) passed ≡ passed
  unfolding largest_reply
  none_holds = answered_passed (forced_check g k f) _ _ _ _ e

  -- ---- the forced set

  pub largest_accepted : first_cause (set_check g k f) passed ≡ passed
  unfolding forced_check
  largest_accepted = passed_front (set_check g k f) (forced_cause g k f ∷ []) none_holds

  pub forced_below : f < 2 ^ length g
  forced_below = (set_checked g k f largest_accepted).inside.below

  pub forced_plex : Plex g k f
  unfolding forced_check forced_cause
  forced_plex =
      let last = passed_head (forced_cause g k f) [] (passed_back (set_check g k f) (forced_cause g k f ∷ []) none_holds) in
      loose_plex g k f (ltb-false k (looseness g f) last)

  -- ---- what is answered

  pub largest-answer : Largest g k f s
  unfolding largest_reply
  largest-answer =
      subst (Largest g k f) (sym (answered_found (forced_check g k f) (largest_size g k f) (largest_mask g k f) e)) (largest_exists forced_below forced_plex)

  pub answer-size : m ≡ size s
  unfolding largest_reply
  answer-size = answered_value (forced_check g k f) (largest_size g k f) (largest_mask g k f) e ∙ largest_size_lem largest-answer

  pub answer_holds : Holding g k f s
  answer_holds = largest-answer.holds

  pub answer_top : (t : ℕ) → Holding g k f t → size t ≤ m
  answer_top t h = omega (arith, largest-answer.top t h, answer-size)

  pub answer_lowest : (t : ℕ) → Holding g k f t → size t ≡ m → s ≤ t
  answer_lowest t h l = largest-answer.lowest t h (l ∙ answer-size)

  -- no other k-plex of the graph contains it, so it stands in the list for the slack k and any floor up to its size
  pub answer-maximal : Maximal g k s
  answer-maximal = largest-maximal largest-answer

  pub answer_listed : {q : ℕ} → q ≤ m → Mem s (listing g (request k q 0))
  answer_listed {q} l = listing_complete g (request k q 0) s (largest_listed largest-answer (omega (arith, l, answer-size)))

-- ---- nothing is forced

module _ (g : List ℕ) (k : ℕ) {m s : ℕ} (e : largest_reply g k 0 ≡ answered m s) where
  -- no k-plex of the graph has more members
  pub answer_any : (x : ℕ) → x < 2 ^ length g → Plex g k x → size x ≤ m
  answer_any x l p = omega (arith, largest_any (largest-answer g k 0 e) x l p, answer-size g k 0 e)

  -- it has at least k members, or all vertices where those are fewer
  pub answer_least : min (length g) k ≤ m
  answer_least = omega (arith, largest_least (largest-answer g k 0 e), answer-size g k 0 e)
