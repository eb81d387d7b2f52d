-- Laws of the call for the largest k-plex once its checks have passed: from what the search found to what the call answers. The forced set is looked at last:
-- how loose it is.
use Rattle.std.specs.Prelude.{ℕ, ◌<◌, ◌≡◌}
use Rattle.std.proofs.Common.{ap₂, ◌∙◌, lt-ltb, le-ltb}
use mathlib.Core.List.{List, [], ◌∷◌}
use Rattle.sets.specs.Set.{size}
use Rattle.judging.specs.Plex.{looseness}
use Rattle.judging.specs.PlexLaws.{hereditary}
use Rattle.judging.specs.LoosenessLaws.{plex_loose}
use Rattle.judging.specs.Refusal.{refused, answered, first_cause}
use Rattle.judging.specs.Calls.{passed, set_check}
use Rattle.judging.specs.RefusalLaws.{first_append, first_holds, first_skips, first_passed}
use Rattle.largest.specs.Largest.{largest_size, largest_mask, Largest}
use Rattle.largest.specs.Calls.{forced_cause, forced_check, largest_reply}
use Rattle.largest.specs.LargestLaws.{largest_size_lem, largest_mask_lem}

module _ (g : List ℕ) (k f : ℕ) where
  only_forced : first_cause (set_check g k f) passed ≡ passed
      → largest_reply g k f ≡ first_cause (forced_cause g k f ∷ []) (answered (largest_size g k f) (largest_mask g k f))
  unfolding largest_reply forced_check
  only_forced e = first_append (set_check g k f) _ _ ∙ first_passed (set_check g k f) _ e

  pub reply_forced : first_cause (set_check g k f) passed ≡ passed → k < looseness g f → largest_reply g k f ≡ refused 11 0
  unfolding forced_cause
  reply_forced e h = only_forced e ∙ first_holds (forced_cause g k f) [] _ (lt-ltb k (looseness g f) h)

pub reply_found : {g : List ℕ} {k f s : ℕ} → first_cause (set_check g k f) passed ≡ passed → Largest g k f s → largest_reply g k f ≡ answered (size s) s
unfolding forced_cause first_cause
reply_found {g} {k} {f} {s} e h =
    let few = plex_loose g k f (hereditary g k f s h.holds.lower h.holds.plexed) in
    only_forced g k f e ∙ first_skips (forced_cause g k f) [] _ (le-ltb k (looseness g f) few) ∙ ap₂ answered (largest_size_lem h) (largest_mask_lem h)
