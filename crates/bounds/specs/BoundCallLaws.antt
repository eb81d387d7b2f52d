-- From the checks of the code to the replies: the causes in their order, and what is known of an input that passes.
use Rattle.std.specs.Prelude.{◌≡◌, ℕ, ◌^◌, ◌<◌, ◌≤◌, Bool, true, false, not, ◌||◌, ltb, List, [], ◌∷◌, ◌++◌, length, ◌==◌, nat_eq, nat_lt}
use Rattle.std.proofs.Common.{arith, ◌∙◌, append_assoc, le-leb, le-ltb, lt-ltb, ltb-false, eqb-true}
use Rattle.std.specs.Prelude.{refl}
use Rattle.std.proofs.Math.Path.{sym, ap, ap₂}
use Rattle.std.specs.Int.Bits.{bit_and}
use Rattle.std.proofs.lemmas.Bool.{lt-leb, not-false}
use Rattle.sets.specs.Set.{bit, has, with}
use Rattle.sets.specs.BitLaws.{bit_le, bit-bit_and}
use Rattle.sets.specs.PointLaws.{bit_none}
use Rattle.sets.specs.SubsetLaws.{sub_with}
use Rattle.judging.specs.Plex.{looseness}
use Rattle.judging.specs.Refusal.{refused, Cause, first_cause, most_slack, set_cause, vertex_out_cause}
use Rattle.judging.specs.Setting.{Judgeable}
use Rattle.judging.specs.Calls.{refusal, passed, slack_check, set_check}
use Rattle.judging.specs.PlexLaws.{hereditary}
use Rattle.judging.specs.LoosenessLaws.{loose_plex}
use Rattle.judging.specs.RefusalLaws.{first_holds, first_skips, passed_head, passed_tail, passed_front, passed_back}
use Rattle.judging.specs.RefusalLaws.{slack_accepted, set_below, vertex_below}
use Rattle.judging.proofs.PassedLaws.{set_checked}
use Rattle.judging.specs.CallLaws.{set-outside, set_inside, front_refused, front_accepted}
use Rattle.judging.specs.declared.Refusal.{Refusal}
use Rattle.bounds.specs.BoundCalls.{overlap, misplaced, bound_cause, bound_check}
use Rattle.bounds.specs.BoundSetting.{Boundable}

module _ (g : List ℕ) (k s c v : ℕ) where
  -- ---- number 10, as the code tests it

  module _ {x : ℕ} (w : x ≡ with s v) {l : ℕ} (e : l ≡ looseness g x) where
    loose : l ≡ looseness g (with s v)
    loose = e ∙ ap (looseness g) w

    pub misplaced_loose : k < l → true ≡ misplaced g k s c v
    unfolding misplaced
    misplaced_loose n = ap (λ (b : Bool). b || not (has c v) || overlap s c) (sym (lt-ltb k (looseness g (with s v)) (omega (arith, loose))))

    module _ (y : l ≤ k) {h : Bool} (i : h ≡ has c v) where
      tight : false ≡ nat_lt k (looseness g (with s v))
      tight = sym (le-ltb k (looseness g (with s v)) (omega (arith, loose)))

      pub misplaced_vertex : h ≡ false → true ≡ misplaced g k s c v
      unfolding misplaced
      misplaced_vertex n = ap₂ (λ (a b : Bool). a || not b || overlap s c) tight (sym n ∙ i)

      pub misplaced-overlap : h ≡ true → {m : ℕ} → m ≡ bit_and s c → {o : Bool} → o ≡ (m == 0) → not o ≡ misplaced g k s c v
      unfolding misplaced overlap
      misplaced-overlap z {m} q {o} d =
          ap not (d ∙ ap (λ (x : ℕ). nat_eq x 0) q) ∙ ap₂ (λ (a b : Bool). a || not b || overlap s c) tight (sym z ∙ i)

  -- what is not misplaced
  well_placed : (a b o : Bool) → (a || not b || o) ≡ false → (a ≡ false) × (b ≡ true) × (o ≡ false)
  well_placed false true false e = (refl, refl, refl)
  well_placed false true true e = absurd (let z : ◌≡◌ {A = ℕ} 0 1 = cc in omega arith)
  well_placed false false o e = absurd (let z : ◌≡◌ {A = ℕ} 0 1 = cc in omega arith)
  well_placed true b o e = absurd (let z : ◌≡◌ {A = ℕ} 0 1 = cc in omega arith)

  -- ---- the causes in their order

  places : List Cause
  places = vertex_out_cause g v ∷ bound_cause g k s c v ∷ []

  set_first : bound_check g k s c v ≡ set_check g k s ++ set_cause g c ∷ places
  unfolding bound_check set_check places
  set_first = sym (append_assoc (slack_check g k) (set_cause g s ∷ []) (set_cause g c ∷ places))

  pub set_refused : (f : Refusal) → refusal f ≡ first_cause (set_check g k s) passed → refusal f ≡ first_cause (bound_check g k s c v) passed
  set_refused f h = rw set_first (front_refused (set_check g k s) (set_cause g c ∷ places) passed f h)

  -- s has passed; n is the number of vertices, and b whether c is below it
  module _ (h : passed ≡ first_cause (set_check g k s) passed) where
    module _ {n : ℕ} (count : n ≡ length g) {b : Bool} (below : b ≡ nat_lt c (2 ^ n)) where
      rest : first_cause (bound_check g k s c v) passed ≡ first_cause (set_cause g c ∷ places) passed
      rest = ap (λ (cs : List Cause). first_cause cs passed) set_first ∙ front_accepted (set_check g k s) (set_cause g c ∷ places) passed h

      tested : b ≡ nat_lt c (2 ^ length g)
      tested = below ∙ ap (λ (m : ℕ). ltb c (2 ^ m)) count

      pub candidates_refused : b ≡ false → refused 7 0 ≡ first_cause (bound_check g k s c v) passed
      unfolding set_cause
      candidates_refused t = sym (rest ∙ first_holds (set_cause g c) places passed (set-outside g c b tested t))

      module _ (inside : b ≡ true) where
        after : first_cause (bound_check g k s c v) passed ≡ first_cause places passed
        after = rest ∙ first_skips (set_cause g c) places passed (set_inside g c b tested inside)

        pub vertex_refused : n ≤ v → refused 7 0 ≡ first_cause (bound_check g k s c v) passed
        unfolding vertex_out_cause places
        vertex_refused l = sym (after ∙ first_holds (vertex_out_cause g v) (bound_cause g k s c v ∷ []) passed (le-leb (length g) v (omega arith)))

        module _ (l : v < n) {a : Bool} (placed : a ≡ misplaced g k s c v) where
          last : first_cause (bound_check g k s c v) passed ≡ first_cause (bound_cause g k s c v ∷ []) passed
          unfolding vertex_out_cause places
          last = after ∙ first_skips (vertex_out_cause g v) (bound_cause g k s c v ∷ []) passed (lt-leb (length g) v (omega arith))

          pub bound_refused : a ≡ true → refused 10 0 ≡ first_cause (bound_check g k s c v) passed
          unfolding bound_cause
          bound_refused t = sym (last ∙ first_holds (bound_cause g k s c v) [] passed (sym placed ∙ t))

          pub bound_accepted : a ≡ false → passed ≡ first_cause (bound_check g k s c v) passed
          unfolding bound_cause first_cause
          bound_accepted t = sym (last ∙ first_skips (bound_cause g k s c v) [] passed (sym placed ∙ t))

  -- ---- what is known of an input that passes

  pub bound_checked : first_cause (bound_check g k s c v) passed ≡ passed → Boundable g k s c v
  unfolding set_check bound_cause misplaced overlap places
  bound_checked e =
      record {
        supported =
            record {
              inside = judged.inside;
              slack = slack.1;
              plex =
                  hereditary g k s (with s v) (sub_with s v)
                  (loose_plex g k (with s v) (ltb-false k (looseness g (with s v)) placed.0));
            };
        valid = judged.valid;
        some = slack.0;
        vertex = vertex_below g v (passed_head (vertex_out_cause g v) (bound_cause g k s c v ∷ []) last);
        below = set_below g c (passed_head (set_cause g c) places later);
        apart = λ u i. omega (arith, i, bit-bit_and s c u, ap (λ (x : ℕ). bit x u) meet, bit_none u, bit_le s u);
      }
    where
      front : first_cause (set_check g k s) passed ≡ passed
      front = passed_front (set_check g k s) (set_cause g c ∷ places) (rw set_first at e)

      judged : Judgeable g s
      judged = set_checked g k s front

      slack : (1 ≤ k) × (k ≤ most_slack)
      slack = slack_accepted g k (passed_front (slack_check g k) (set_cause g s ∷ []) front)

      later : first_cause (set_cause g c ∷ places) passed ≡ passed
      later = passed_back (set_check g k s) (set_cause g c ∷ places) (rw set_first at e)

      last : first_cause places passed ≡ passed
      last = passed_tail (set_cause g c) places later

      placed : (nat_lt k (looseness g (with s v)) ≡ false) × (has c v ≡ true) × (not (bit_and s c == 0) ≡ false)
      placed =
          well_placed (nat_lt k (looseness g (with s v))) (has c v) (not (bit_and s c == 0))
          (passed_head (bound_cause g k s c v) [] (passed_tail (vertex_out_cause g v) (bound_cause g k s c v ∷ []) last))

      meet : bit_and s c ≡ 0
      meet = eqb-true (bit_and s c) 0 (not-false (bit_and s c == 0) placed.2)
