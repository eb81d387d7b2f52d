-- What an accepted answer of this crate's calls means: the number is the least slack that makes the set a k-plex, and yes is given to maximal k-plexes and
-- to nothing else. A call that succeeds passed its checks and answers what the definition says.
use Rattle.std.specs.Prelude.{ℕ, ◌≤◌, ◌≡◌, Bool, true, List}
use Rattle.std.proofs.Common.{arith, sym, ap, ◌∙◌}
use Rattle.sets.specs.Set.{Sub, size}
use Rattle.sets.specs.RangeLaws.{is_true, true_holds}
use Rattle.judging.specs.Plex.{maximal, looseness, Plex, Maximal}
use Rattle.judging.specs.Refusal.{answered}
use Rattle.judging.specs.Setting.{Judgeable}
use Rattle.judging.specs.Calls.{inside_check, set_check, looseness_reply, maximal_reply}
use Rattle.judging.specs.LoosenessLaws.{plex_loose, loose_plex, looseness-size, looseness_mono, looseness_none, none_loose}
use Rattle.judging.specs.RefusalLaws.{answered_value, answered_found, answered_passed}
use Rattle.judging.proofs.TestLaws.{maximal_holds, maximal_test}
use Rattle.judging.proofs.PassedLaws.{inside_checked}

-- ---- how loose is s?

module _ (g : List ℕ) (s : ℕ) {v m : ℕ} (e : looseness_reply g s ≡ answered v m) where
  pub looseness_value : v ≡ 0
  unfolding looseness_reply
  looseness_value = answered_value (inside_check g s) 0 (looseness g s) e

  pub looseness-answer : m ≡ looseness g s
  unfolding looseness_reply
  looseness-answer = answered_found (inside_check g s) 0 (looseness g s) e

  looseness_accepted : Judgeable g s
  unfolding looseness_reply
  looseness_accepted = inside_checked g s (answered_passed (inside_check g s) 0 v (looseness g s) m e)

  -- the least slack that makes it a k-plex, also beyond the limit of slack
  pub answer-plex : (k : ℕ) → m ≤ k → Plex g k s
  answer-plex k h = loose_plex g k s (omega (arith, looseness-answer))

  pub plex-answer : (k : ℕ) → Plex g k s → m ≤ k
  plex-answer k p = omega (arith, looseness-answer, plex_loose g k s p)

  pub answer-size : m ≤ size s
  answer-size = omega (arith, looseness-answer, looseness-size g s)

  pub answer_none : s ≡ 0 → m ≡ 0
  answer_none z = looseness-answer ∙ ap (looseness g) z ∙ looseness_none g

  pub none_answer : m ≡ 0 → s ≡ 0
  none_answer z = none_loose s looseness_accepted.valid looseness_accepted.inside.below (sym looseness-answer ∙ z)

-- a larger set is no less loose
pub answer_mono : (g : List ℕ) (s t : ℕ) {v m w n : ℕ} → looseness_reply g s ≡ answered v m → looseness_reply g t ≡ answered w n → Sub s t → m ≤ n
answer_mono g s t e f h = omega (arith, looseness-answer g s e, looseness-answer g t f, looseness_mono g s t h)

-- ---- is s a maximal k-plex?

module _ (g : List ℕ) (k s : ℕ) {v : ℕ} {b : Bool} (e : maximal_reply g k s ≡ answered v b) where
  pub maximal_value : v ≡ 0
  unfolding maximal_reply
  maximal_value = answered_value (set_check g k s) 0 (maximal g k s) e

  pub maximal-answer : b ≡ maximal g k s
  unfolding maximal_reply
  maximal-answer = answered_found (set_check g k s) 0 (maximal g k s) e

  pub maximal_yes : b ≡ true → Maximal g k s
  maximal_yes y = maximal_holds g k s (true_holds (maximal g k s) (sym maximal-answer ∙ y))

  pub yes_maximal : Maximal g k s → b ≡ true
  yes_maximal m = maximal-answer ∙ sym (is_true (maximal g k s) (maximal_test g k s m))
