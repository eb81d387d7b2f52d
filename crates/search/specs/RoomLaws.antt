-- Laws of the answer of a call that m slots are needed for. It is settled by whether its other causes pass and by whether m slots are there; and from the
-- answer both are known. Number 6 is told from those of the other causes where none of these has it.
--
--   lacks n cs   no cause of cs has the number n
use Rattle.std.specs.Prelude.{◌≡◌, ℕ, ◌<◌, ◌≤◌, Bool, true, false, cond, not, ◌&&◌, T, List, [], ◌∷◌, ◌++◌, ◌==◌}
use Rattle.std.proofs.Common.{arith, sym, ◌∙◌, subst, T_not}
use Rattle.std.proofs.Math.Decide.{dec_lt}
use Rattle.std.specs.Prelude.{refl}
use Rattle.std.proofs.Math.Dec.{eqb_refl}
use borrow.Author.Tests.{lt-ltb, le-ltb, ltb-false}
use Rattle.sets.specs.RangeLaws.{and_left, and_right, both}
use Rattle.judging.specs.Refusal.{Reply, refused, answered, Cause, first_cause}
use Rattle.judging.specs.Calls.{passed}
use Rattle.judging.specs.RefusalLaws.{first_append, first_holds, first_skips, first_refused, first_passed}
use Rattle.judging.specs.RefusalLaws.{answered_passed, answered_value, passed_front, passed_back, passed_head}
use Rattle.search.specs.Calls.{slots_cause, room_reply}

unfoldable pub lacks : ℕ → List Cause → Bool
lacks n [] = true
lacks n (c ∷ cs) = not (c.number == n) && lacks n cs

pub lacks-append : (n : ℕ) (xs ys : List Cause) → T (lacks n xs) → T (lacks n ys) → T (lacks n (xs ++ ys))
unfolding lacks
lacks-append n [] ys a b = b
lacks-append n (c ∷ xs) ys a b =
    let other = not (c.number == n) in
    both other (lacks n (xs ++ ys)) (and_left other (lacks n xs) a) (lacks-append n xs ys (and_right other (lacks n xs) a) b)

-- a refusal whose number is none of theirs comes from behind them
other_number : {A : Type 0} (cs : List Cause) (r : Reply A) {n v : ℕ} → T (lacks n cs) → first_cause cs r ≡ refused n v → first_cause cs passed ≡ passed
unfolding first_cause lacks
other_number [] r o e = refl
other_number (c ∷ cs) r {n} {v} o e = go c.holds e (other_number cs r (and_right (not (c.number == n)) (lacks n cs) o))
  where
    go : (h : Bool) → cond h (refused c.number c.value) (first_cause cs r) ≡ refused n v → (first_cause cs r ≡ refused n v → first_cause cs passed ≡ passed)
        → cond h (refused c.number c.value) (first_cause cs passed) ≡ passed
    go true q ih =
        let same : c.number ≡ n = cc in
        absurd (T_not (c.number == n) (and_left (not (c.number == n)) (lacks n cs) o)
        (subst (λ (x : ℕ). T (c.number == x)) same (eqb_refl c.number)))
    go false q ih = ih q

module _ (cs : List Cause) (m room : ℕ) where
  -- ---- what is answered

  pub room_refused : {n v : ℕ} → first_cause cs passed ≡ refused n v → room_reply cs m room ≡ refused n v
  room_refused {n} {v} e = first_append cs _ _ ∙ first_refused cs n v _ e

  -- the slots are looked at last
  past : first_cause cs passed ≡ passed → room_reply cs m room ≡ first_cause (slots_cause room m ∷ []) (answered m tt)
  past e = first_append cs _ _ ∙ first_passed cs _ e

  pub room_fits : first_cause cs passed ≡ passed → m ≤ room → room_reply cs m room ≡ answered m tt
  unfolding slots_cause first_cause
  room_fits e l = past e ∙ first_skips (slots_cause room m) [] _ (le-ltb room m l)

  pub room_short : first_cause cs passed ≡ passed → room < m → room_reply cs m room ≡ refused 6 m
  unfolding slots_cause
  room_short e l = past e ∙ first_holds (slots_cause room m) [] _ (lt-ltb room m l)

  -- ---- what the answer says

  module _ {x : ℕ} (e : room_reply cs m room ≡ answered x tt) where
    none_holds : first_cause (cs ++ slots_cause room m ∷ []) passed ≡ passed
    none_holds = answered_passed (cs ++ slots_cause room m ∷ []) m x tt tt e

    pub room_accepted : first_cause cs passed ≡ passed
    room_accepted = passed_front cs (slots_cause room m ∷ []) none_holds

    pub room_value : x ≡ m
    room_value = answered_value (cs ++ slots_cause room m ∷ []) m tt e

    pub room_enough : x ≤ room
    unfolding slots_cause
    room_enough =
        let last = passed_back cs (slots_cause room m ∷ []) none_holds in
        omega (arith, room_value, ltb-false room m (passed_head (slots_cause room m) [] last))

  module _ (o : T (lacks 6 cs)) {x : ℕ} (e : room_reply cs m room ≡ refused 6 x) where
    pub six_accepted : first_cause cs passed ≡ passed
    six_accepted =
        let last = slots_cause room m ∷ [] in
        other_number cs (first_cause last (answered m tt)) o (sym (first_append cs last (answered m tt)) ∙ e)

    short : (x ≡ m) × (room < x)
    short = go (dec_lt room m)
      where
        go : Dec (room < m) → (x ≡ m) × (room < x)
        go (yes l) = let n : x ≡ m = cc (room_short six_accepted l) in (n, omega arith)
        go (no l) = let z : ◌≡◌ {A = ℕ} 0 1 = cc (room_fits six_accepted (omega arith)) in absurd (omega arith)

    pub six_value : x ≡ m
    six_value = short.0

    pub six_room : room < x
    six_room = short.1
