-- What an accepted answer of this crate's calls means: which sets lie in a core or a reach, and which plexes a bound is not below. A call that succeeds
-- passed its checks, so that the laws of what it answers hold of its input.
use Rattle.std.specs.Prelude.{◌≡◌, ℕ, suc, ◌+◌, ◌-◌, ◌*◌, ◌^◌, ◌<◌, ◌≤◌, List, [], ◌∷◌, length, ◌≢◌, bit_or}
use Rattle.std.proofs.Common.{arith, sym, subst, ◌∙◌}
use Rattle.std.proofs.Math.Path.{ap}
use Rattle.std.specs.Int.Count.{ones-ones}
use Rattle.std.proofs.Math.Pow.{ones_lt}
use Rattle.sets.specs.Set.{In, Sub, size, with, full}
use Rattle.sets.specs.SubsetLaws.{sub_with, sub_trans, in_of_sub, with_same}
use Rattle.judging.specs.Graph.{Valid}
use Rattle.judging.specs.Plex.{Plex}
use Rattle.judging.specs.Refusal.{answered, first_cause, vertex_out_cause}
use Rattle.judging.specs.Calls.{graph_check, floor_check}
use Rattle.judging.specs.RefusalLaws.{answered_passed, answered_value, answered_found, passed_front, graph_checked}
use Rattle.bounds.specs.Core.{Dense, core, core_within, pass, leave, passes, Peeling, peeling}
use Rattle.bounds.specs.Reach.{reach}
use Rattle.bounds.specs.Bound.{first_bound, second_bound, largest}
use Rattle.bounds.specs.Calls.{core_reply, reach_check, reach_reply}
use Rattle.bounds.specs.BoundCalls.{bound_check, first_bound_reply, second_bound_reply}
use Rattle.bounds.specs.BoundSetting.{Boundable}
use Rattle.bounds.specs.CoreLaws.{core_below, core_complete, core-dense, core_within-full, plex-core}
use Rattle.bounds.specs.PassLaws.{passes-leave, passes_some, passes_most, one_pass-core, core_one_pass}
use Rattle.bounds.specs.PassLaws.{last_takes_none, others_take_some}
use Rattle.bounds.specs.ReachLaws.{plex-reach}
use Rattle.bounds.specs.BoundLaws.{second_first}
use Rattle.bounds.proofs.BoundSound.{second_sound, second_largest}
use Rattle.bounds.specs.BoundCallLaws.{bound_checked}

-- ---- the core

module _ (g : List ℕ) (k q : ℕ) {v : ℕ} {p : Peeling} (e : core_reply g k q ≡ answered v p) where
  pub core_value : v ≡ 0
  unfolding core_reply
  core_value = answered_value (floor_check g k q) 0 (peeling g (q - k)) e

  found : p ≡ peeling g (q - k)
  unfolding core_reply
  found = answered_found (floor_check g k q) 0 (peeling g (q - k)) e

  pub core-answer : p.core ≡ core g (q - k)
  unfolding peeling
  core-answer = ap (λ (x : Peeling). x.core) found

  -- it is a set of vertices in which each is adjacent to at least q - k members
  pub core_in_graph : p.core < 2 ^ length g
  core_in_graph = subst (λ (x : ℕ). x < 2 ^ length g) (sym core-answer) (core_below g (q - k))

  pub core_is_dense : Dense g (q - k) p.core
  core_is_dense = subst (Dense g (q - k)) (sym core-answer) (core-dense g (q - k))

  -- the largest one
  pub core_holds_dense : (s : ℕ) → s < 2 ^ length g → Dense g (q - k) s → Sub s p.core
  core_holds_dense s b d = subst (Sub s) (sym core-answer) (core_complete g (q - k) s b d)

  -- so no k-plex of q or more members has a vertex outside it
  pub core_holds_plexes : (s : ℕ) → s < 2 ^ length g → Plex g k s → q ≤ size s → Sub s p.core
  core_holds_plexes s b w l = subst (Sub s) (sym core-answer) (plex-core g k q s b w l)

  -- it is what that many passes leave of all vertices
  pub core-passes : p.passes ≡ passes g (q - k) (full (length g))
  unfolding peeling
  core-passes = ap (λ (x : Peeling). x.passes) found

  within_all : p.core ≡ core_within g (q - k) (full (length g))
  within_all = core-answer ∙ sym (core_within-full g (q - k))

  left : leave (passes g (q - k) (full (length g))) g (q - k) (full (length g)) ≡ p.core
  left = passes-leave g (q - k) (full (length g)) (ones_lt (length g)) ∙ sym within_all

  pub core_by_passes : leave p.passes g (q - k) (full (length g)) ≡ p.core
  core_by_passes = rw core-passes left

  -- there is at least one pass, and one alone exactly where nothing is taken out
  pub core_some_pass : 1 ≤ p.passes
  core_some_pass = rw core-passes (passes_some g (q - k) (full (length g)))

  pub core_one_pass_whole : p.passes ≡ 1 → p.core ≡ full (length g)
  core_one_pass_whole one = within_all ∙ one_pass-core g (q - k) (full (length g)) (ones_lt (length g)) (sym core-passes ∙ one)

  pub core_whole_one_pass : p.core ≡ full (length g) → p.passes ≡ 1
  core_whole_one_pass whole = core-passes ∙ core_one_pass g (q - k) (full (length g)) (sym within_all ∙ whole)

  -- the last takes none, and each before it takes some
  pub core_last_pass : (i : ℕ) → p.passes ≡ suc i → pass g (q - k) (leave i g (q - k) (full (length g))) ≡ leave i g (q - k) (full (length g))
  core_last_pass i e = last_takes_none g (q - k) (full (length g)) i (sym core-passes ∙ e)

  pub core_other_passes : (i : ℕ) → suc i < p.passes
      → pass g (q - k) (leave i g (q - k) (full (length g))) ≢ leave i g (q - k) (full (length g))
  core_other_passes i l = others_take_some g (q - k) (full (length g)) i (rw (← core-passes) l)

  -- the passes are at most one more than the vertices taken out
  pub core-passes_most : p.passes ≤ 1 + (length g - size p.core)
  core-passes_most = omega (arith, core-passes, passes_most g (q - k) (full (length g)), ap size left, ones-ones (length g), core_some_pass)

-- ---- the reach

module _ (g : List ℕ) (v : ℕ) {x r : ℕ} (e : reach_reply g v ≡ answered x r) where
  pub reach_value : x ≡ 0
  unfolding reach_reply
  reach_value = answered_value (reach_check g v) 0 (reach g v) e

  pub reach-answer : r ≡ reach g v
  unfolding reach_reply
  reach-answer = answered_found (reach_check g v) 0 (reach g v) e

  valid : Valid g
  unfolding reach_reply reach_check
  valid = graph_checked g (passed_front (graph_check g) (vertex_out_cause g v ∷ []) (answered_passed (reach_check g v) 0 x (reach g v) r e))

  -- no k-plex of 2k - 1 or more members that holds the vertex has one outside its reach
  pub reach_holds_plexes : (k s : ℕ) → s < 2 ^ length g → Plex g k s → 2 * k ≤ size s + 1 → In v s → Sub s r
  reach_holds_plexes k s b p l i = subst (Sub s) (sym reach-answer) (plex-reach g k s v valid b p l i)

-- ---- the bounds

module _ (g : List ℕ) (k s c v : ℕ) where
  -- an input of which a bound n is answered
  module _ (n : ℕ) {x b : ℕ} (e : first_cause (bound_check g k s c v) (answered 0 n) ≡ answered x b) where
    bound_value : x ≡ 0
    bound_value = answered_value (bound_check g k s c v) 0 n e

    bound_answer : b ≡ n
    bound_answer = answered_found (bound_check g k s c v) 0 n e

    bounded : Boundable g k s c v
    bounded = bound_checked g k s c v (answered_passed (bound_check g k s c v) 0 x n b e)

    -- no plex that holds s and v and has no vertex outside s and c is larger than the second bound
    second_most : (m : ℕ) → m < 2 ^ length g → Plex g k m → Sub (with s v) m → Sub m (bit_or s c) → size m ≤ second_bound g k s c v
    second_most m l p w u =
        second_sound g k s c v m bounded.valid bounded.supported.inside.below l p (sub_trans s (with s v) m (sub_with s v) w)
        (in_of_sub (with s v) m v w (with_same s v)) u bounded.apart

    second_over_largest : largest g k s c v ≤ second_bound g k s c v
    second_over_largest = second_largest g k s c v bounded.valid bounded.supported.inside.below bounded.apart

  module _ {x b : ℕ} (e : second_bound_reply g k s c v ≡ answered x b) where
    pub second_value : x ≡ 0
    unfolding second_bound_reply
    second_value = bound_value (second_bound g k s c v) e

    pub second_answer : b ≡ second_bound g k s c v
    unfolding second_bound_reply
    second_answer = bound_answer (second_bound g k s c v) e

    pub second_above_plexes : (m : ℕ) → m < 2 ^ length g → Plex g k m → Sub (with s v) m → Sub m (bit_or s c) → size m ≤ b
    unfolding second_bound_reply
    second_above_plexes m l p w u = omega (arith, second_answer, second_most (second_bound g k s c v) e m l p w u)

    pub second_above_largest : largest g k s c v ≤ b
    unfolding second_bound_reply
    second_above_largest = omega (arith, second_answer, second_over_largest (second_bound g k s c v) e)

  module _ {x b : ℕ} (e : first_bound_reply g k s c v ≡ answered x b) where
    pub first_value : x ≡ 0
    unfolding first_bound_reply
    first_value = bound_value (first_bound g k s c v) e

    pub first_answer : b ≡ first_bound g k s c v
    unfolding first_bound_reply
    first_answer = bound_answer (first_bound g k s c v) e

    pub first_above_plexes : (m : ℕ) → m < 2 ^ length g → Plex g k m → Sub (with s v) m → Sub m (bit_or s c) → size m ≤ b
    unfolding first_bound_reply
    first_above_plexes m l p w u = omega (arith, first_answer, second_most (first_bound g k s c v) e m l p w u, second_first g k s c v)

    pub first_above_largest : largest g k s c v ≤ b
    unfolding first_bound_reply
    first_above_largest = omega (arith, first_answer, second_over_largest (first_bound g k s c v) e, second_first g k s c v)

    -- the second bound never exceeds the first
    pub second_within_first : {y d : ℕ} → second_bound_reply g k s c v ≡ answered y d → d ≤ b
    second_within_first f = omega (arith, first_answer, second_answer f, second_first g k s c v)
