-- Laws of the call for the largest k-plex: from the outcome of the checks to what the search starts from, and to what a refused call answers. What a call
-- whose checks passed answers is in proofs/ForcedLaws.antt.
use Rattle.std.specs.Prelude.{ℕ, ◌≤◌, ◌≡◌}
use Rattle.std.proofs.Common.{arith}
use Rattle.std.proofs.Math.Path.{sym}
use mathlib.Core.List.{List, [], ◌∷◌}
use Rattle.judging.specs.Plex.{looseness}
use Rattle.judging.specs.LoosenessLaws.{loose_plex}
use Rattle.judging.specs.Request.{request}
use Rattle.judging.specs.Refusal.{first_cause, set_cause}
use Rattle.judging.specs.Calls.{refusal, passed, slack_check, set_check}
use Rattle.judging.specs.RefusalLaws.{passed_front, slack_accepted}
use Rattle.judging.proofs.PassedLaws.{set_checked}
use Rattle.judging.specs.CallLaws.{front_refused}
use Rattle.judging.specs.declared.Refusal.{Refusal}
use Rattle.search.specs.Start.{Searchable}
use Rattle.largest.specs.Fit.{Forced}
use Rattle.largest.specs.Calls.{forced_cause, forced_check, largest_reply}

-- what the search starts from
pub set_searchable : (g : List ℕ) (k f : ℕ) → first_cause (set_check g k f) passed ≡ passed → Searchable g (request k 0 0)
unfolding set_check
set_searchable g k f e =
    let judged = set_checked g k f e in
    record {
      sized = record { some = judged.inside.some; most = judged.inside.most };
      valid = judged.valid;
      slack = slack_accepted g k (passed_front (slack_check g k) (set_cause g f ∷ []) e);
      floor = omega arith;
    }

pub set_forced : (g : List ℕ) (k f : ℕ) → first_cause (set_check g k f) passed ≡ passed → looseness g f ≤ k → Forced g k f
set_forced g k f e h = record { below = (set_checked g k f e).inside.below; plexed = loose_plex g k f h }

module _ (g : List ℕ) (k f : ℕ) where
  pub reply_refused : (x : Refusal) → refusal x ≡ first_cause (set_check g k f) passed → largest_reply g k f ≡ refusal x
  unfolding largest_reply forced_check
  reply_refused x h = sym (front_refused (set_check g k f) (forced_cause g k f ∷ []) _ x h)
