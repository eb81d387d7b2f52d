-- From the checks of the code to the replies of the definitions: a check that failed is the call's refusal, and one that passed leaves what the call finds.
use Rattle.std.specs.Prelude.{ℕ, ◌^◌, ◌≤◌, ◌<◌, ◌≡◌, refl, Bool, true, false, not, ltb, Option, Some, None, Result, Ok, Err}
use Rattle.std.specs.Result.{IsErrAnd}
use Rattle.std.proofs.lemmas.Result.{err_from_is_err_and}
use Rattle.std.proofs.Common.{arith, le_of_eq, ◌∙◌}
use Rattle.sets.specs.RangeLaws.{first_at}
use Rattle.std.proofs.Math.Path.{sym, ap}
use mathlib.Core.List.{List, [], ◌∷◌, ◌++◌}
use Rattle.std.proofs.Math.ListN.{length}
use borrow.Author.Tests.{lt-ltb, le-ltb, ltb-true, ltb-false, le-leb, lt-leb}
use Rattle.judging.specs.Refusal.{Reply, refused, answered, Cause, first_cause, bad_row, one_way, lowest_row, row_cause, edge_cause, graph_causes, set_cause}
use Rattle.judging.specs.Calls.{refusal, number_of, value_of, passed, checked_reply}
use Rattle.judging.specs.Setting.{Sized, LowRows, FindsRow}
use Rattle.judging.specs.RefusalLaws.{first_holds, first_skips, first_append, first_refused, first_passed, rows_below}
use Rattle.judging.specs.declared.Refusal.{Refusal}
use Rattle.judging.specs.declared.Refusal.TheVariants.{Vertices, Slack, Floor, Row, OneWay, Slots, Outside, Line, Room, Bound}
use Rattle.judging.specs.declared.Refusal.TheVariants.{Forced, Loop, Unchanged, Isolated, DimacsLine, EdgeCount}

-- ---- number 0 tells a success: no refusal has it

pub refusal-number : (f : Refusal) → 1 ≤ number_of f
refusal-number Vertices = omega arith
refusal-number Slack = omega arith
refusal-number Floor = omega arith
refusal-number (Row a) = omega arith
refusal-number (OneWay a) = omega arith
refusal-number (Slots m) = omega arith
refusal-number Outside = omega arith
refusal-number (Line l) = omega arith
refusal-number (Room n) = omega arith
refusal-number Bound = omega arith
refusal-number Forced = omega arith
refusal-number Loop = omega arith
refusal-number Unchanged = omega arith
refusal-number (Isolated a) = omega arith
refusal-number (DimacsLine l) = omega arith
refusal-number EdgeCount = omega arith

-- ---- the outcome of a check, whatever the call then answers: h is what the check says of it

-- what `?` hands on is the refusal
pub handed_on : {B : Type 0} (r : Result B Refusal) {f : Refusal} → IsErrAnd r (λ e. e ≡ f) → r ≡ Err f
handed_on r h = let p = err_from_is_err_and r h in p.1 ∙ ap Err p.2

module _ {A : Type 0} (xs : List Cause) where
  pub check_failed : (f : Refusal) (o : Reply A) → refusal f ≡ first_cause xs passed → refusal f ≡ first_cause xs o
  check_failed f o h = sym (first_refused xs (number_of f) (value_of f) o (sym h))

  pub check_passed : (o : Reply A) → passed ≡ first_cause xs passed → first_cause xs o ≡ o
  check_passed o h = first_passed xs o (sym h)

-- what is found once the checks have passed is the call's answer
pub check_answers : {A : Type 0} (xs : List Cause) {a b : A} → passed ≡ first_cause xs passed → a ≡ b → answered 0 a ≡ first_cause xs (answered 0 b)
check_answers xs h f = ap (answered 0) f ∙ sym (check_passed xs _ h)

-- the check was of the first causes alone, and others follow
module _ {A : Type 0} (xs ys : List Cause) (o : Reply A) where
  pub front_refused : (f : Refusal) → refusal f ≡ first_cause xs passed → refusal f ≡ first_cause (xs ++ ys) o
  front_refused f h = check_failed xs f (first_cause ys o) h ∙ sym (first_append xs ys o)

  pub front_accepted : passed ≡ first_cause xs passed → first_cause (xs ++ ys) o ≡ first_cause ys o
  front_accepted h = first_append xs ys o ∙ check_passed xs (first_cause ys o) h

-- ---- one cause, as the code tests it: b says that the input is accepted

pub not_accepted : (b o : Bool) → b ≡ not o → b ≡ false → o ≡ true
not_accepted b true h e = refl
not_accepted b false h e = sym e ∙ h

pub accepted : (b o : Bool) → b ≡ not o → b ≡ true → o ≡ false
accepted b true h e = sym e ∙ h
accepted b false h e = refl

-- no cause is left
pub no_cause : passed ≡ first_cause [] passed
unfolding first_cause
no_cause = refl

module _ (c : Cause) (cs : List Cause) {b : Bool} (h : b ≡ not c.holds) where
  pub test_refused : b ≡ false → refused c.number c.value ≡ first_cause (c ∷ cs) passed
  test_refused e = sym (first_holds c cs passed (not_accepted b c.holds h e))

  pub test_accepted : {r : Reply (Unit {0})} → b ≡ true → r ≡ first_cause cs passed → r ≡ first_cause (c ∷ cs) passed
  test_accepted e k = k ∙ sym (first_skips c cs passed (accepted b c.holds h e))

-- ---- the table: a is the lowest bad row, or there is none; and then the lowest row with a one-way link

module _ (p : ℕ → Bool) (n : ℕ) where
  pub row_found : {a : ℕ} → a < n → ((w : ℕ) → w < a → p w ≡ false) → p a ≡ true → FindsRow p n (Some a)
  unfolding lowest_row
  row_found {a} l none t = (sym (first_at p n a (omega (arith, l)) none (λ _. t)), l)

  pub no_row_found : ((w : ℕ) → w < n → p w ≡ false) → FindsRow p n None
  unfolding lowest_row
  no_row_found none = le_of_eq (sym (first_at p n n (omega arith) none (λ l. absurd (omega (arith, l)))))

  pub lowest_holds : {a : ℕ} → FindsRow p n (Some a) → ltb (lowest_row p n) n ≡ true
  lowest_holds h = lt-ltb (lowest_row p n) n (omega (arith, h))

  pub lowest_none : FindsRow p n None → ltb (lowest_row p n) n ≡ false
  lowest_none h = le-ltb (lowest_row p n) n h

module _ (g : List ℕ) where
  pub row_refused : {a : ℕ} → FindsRow (bad_row g) (length g) (Some a) → refused 4 a ≡ first_cause (graph_causes g) passed
  unfolding graph_causes row_cause
  row_refused h = ap (refused 4) h.0 ∙ sym (first_holds _ _ passed (lowest_holds (bad_row g) (length g) h))

  module _ (h : FindsRow (bad_row g) (length g) None) where
    row_none : (row_cause g).holds ≡ false
    unfolding row_cause
    row_none = lowest_none (bad_row g) (length g) h

    pub rows_low : Sized g → LowRows g
    rows_low z = record { some = z.some; most = z.most; low = rows_below g row_none }

    past_rows : first_cause (graph_causes g) passed ≡ first_cause (edge_cause g ∷ []) passed
    unfolding graph_causes
    past_rows = first_skips _ _ passed row_none

    pub edge_refused : {a : ℕ} → FindsRow (one_way g) (length g) (Some a) → refused 5 a ≡ first_cause (graph_causes g) passed
    unfolding edge_cause
    edge_refused f = ap (refused 5) f.0 ∙ sym (past_rows ∙ first_holds _ _ passed (lowest_holds (one_way g) (length g) f))

    pub edges_accepted : FindsRow (one_way g) (length g) None → passed ≡ first_cause (graph_causes g) passed
    unfolding edge_cause first_cause
    edges_accepted f = sym (past_rows ∙ first_skips _ [] passed (lowest_none (one_way g) (length g) f))

-- ---- a set within the graph

module _ (g : List ℕ) (s : ℕ) (b : Bool) (h : b ≡ ltb s (2 ^ length g)) where
  pub set-outside : b ≡ false → (set_cause g s).holds ≡ true
  unfolding set_cause
  set-outside t = le-leb (2 ^ length g) s (ltb-false s (2 ^ length g) (sym h ∙ t))

  pub set_inside : b ≡ true → (set_cause g s).holds ≡ false
  unfolding set_cause
  set_inside t = lt-leb (2 ^ length g) s (ltb-true s (2 ^ length g) (sym h ∙ t))
