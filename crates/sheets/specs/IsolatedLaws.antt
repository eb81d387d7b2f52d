-- Isolated vertices: a valid graph has none exactly where every vertex has a neighbour, which takes two vertices or more; and 14 tells the lowest.
use Rattle.std.specs.Prelude.{ℕ, ◌≤◌, ◌<◌, ◌≡◌, Bool, true, false, List, [], ◌∷◌, eqb, length, Some, None}
use Rattle.std.proofs.Common.{lt_of_not-le, arith, sym, ap, ◌∙◌}
use borrow.Author.Tests.{eq-eqb, ne_eqb}
use Rattle.sets.specs.Set.{bit}
use Rattle.sets.specs.Graph.{row}
use Rattle.sets.specs.RangeLaws.{first_at, true_holds}
use Rattle.sets.specs.PointLaws.{by_bit, none_by}
use Rattle.sets.specs.SubsetLaws.{in_below, has_in, in_has, positive, positive_of}
use Rattle.sets.specs.SizeLaws.{some_member, positive_size}
use Rattle.judging.specs.Graph.{adjacent, Valid}
use Rattle.judging.specs.Refusal.{refused, first_cause, lowest_row}
use Rattle.judging.specs.Calls.{passed}
use Rattle.judging.specs.Setting.{FindsRow}
use Rattle.judging.specs.RefusalLaws.{no_row, first_holds, first_skips}
use Rattle.judging.specs.CallLaws.{no_row_found, lowest_holds, lowest_none}
use Rattle.sheets.specs.Sheet.{isolated, Linked, isolated_cause}

module _ (g : List ℕ) where
  -- ---- the cause

  pub isolated_lowest : (a : ℕ) → a < length g → row g a ≡ 0 → ((b : ℕ) → b < a → row g b ≡ 0 → ⊥) → lowest_row (isolated g) (length g) ≡ a
  unfolding lowest_row isolated
  isolated_lowest a l e f = first_at (isolated g) (length g) a (omega arith) (λ w h. ne_eqb (row g w) 0 (f w h)) (λ _. eq-eqb (row g a) 0 e)

  pub isolated_holds : (a : ℕ) → a < length g → lowest_row (isolated g) (length g) ≡ a → (isolated_cause g).holds ≡ true
  unfolding isolated_cause
  isolated_holds a l e = lowest_holds (isolated g) (length g) (sym e, l)

  clear_row : (isolated_cause g).holds ≡ false → (a : ℕ) → a < length g → row g a ≡ 0 → ⊥
  unfolding isolated_cause isolated
  clear_row h a l e = no_row g (isolated g) h a l (true_holds (isolated g a) (eq-eqb (row g a) 0 e))

  row_clear : ((a : ℕ) → a < length g → row g a ≡ 0 → ⊥) → (isolated_cause g).holds ≡ false
  unfolding isolated_cause lowest_row isolated
  row_clear f =
      lowest_none (isolated g) (length g) (no_row_found (isolated g) (length g) (λ w h. ne_eqb (row g w) 0 (f w h)))

  -- ---- as the code looks for it

  pub row_looked : (a : ℕ) {m : ℕ} {b : Bool} → m ≡ row g a → b ≡ eqb m 0 → isolated g a ≡ b
  unfolding isolated
  row_looked a e h = sym (h ∙ ap (λ (m : ℕ). eqb m 0) e)

  pub isolated_refused : {a : ℕ} → FindsRow (isolated g) (length g) (Some a) → refused 14 a ≡ first_cause (isolated_cause g ∷ []) passed
  unfolding isolated_cause
  isolated_refused h = ap (refused 14) h.0 ∙ sym (first_holds (isolated_cause g) [] passed (lowest_holds (isolated g) (length g) h))

  pub isolated_accepted : FindsRow (isolated g) (length g) None → passed ≡ first_cause (isolated_cause g ∷ []) passed
  unfolding isolated_cause first_cause
  isolated_accepted h = sym (first_skips (isolated_cause g) [] passed (lowest_none (isolated g) (length g) h))

  -- ---- neighbours

  pub linked_clear : Linked g → (isolated_cause g).holds ≡ false
  unfolding adjacent
  linked_clear h =
      row_clear (λ a l e.
      let near = h a l in
      omega (arith, positive (row g a) near.0 (has_in (row g a) near.0 near.2)))

  module _ (v : Valid g) where
    pub clear_linked : (isolated_cause g).holds ≡ false → Linked g
    unfolding adjacent
    clear_linked h a l =
        let near = some_member (row g a) (positive_size (row g a) (positive_of (row g a) (clear_row h a l))) in
        (near.0, in_below (length g) (row g a) near.0 (v.low a l) near.1, in_has (row g a) near.0 near.1)

    -- the only vertex of a graph has no neighbour
    pub one_isolated : length g ≡ 1 → row g 0 ≡ 0
    one_isolated e =
        none_by (row g 0) (λ u.
        by_bit (row g 0) u (λ i.
        let low = in_below (length g) (row g 0) u (v.low 0 (omega arith)) i in
        let same : u ≡ 0 = omega arith in
        ap (bit (row g 0)) same ∙ v.loopless 0 (omega arith)) (λ z. z))

    pub linked_two : Linked g → 1 ≤ length g → 2 ≤ length g
    linked_two h l = lt_of_not-le (λ less. clear_row (linked_clear h) 0 l (one_isolated (omega arith)))
