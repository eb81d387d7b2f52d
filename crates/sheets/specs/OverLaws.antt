-- Laws of what is written over the front of a lent buffer: its length, its front, and that one part written behind another is both as one.
use Rattle.std.specs.Prelude.{ℕ, ◌+◌, ◌-◌, ◌≤◌, ◌≡◌, List, [], ◌++◌, length, take, drop}
use Rattle.std.proofs.Common.{le_of_eq, arith, sym, ap, ap₂, ◌∙◌, append_assoc, append-nil, drop_of_length-le, drop_at, drop-drop}
use borrow.Author.Rules.{part_to_end}
use Rattle.std.proofs.Math.ListN.{length-append, length-drop}
use Rattle.std.proofs.Math.Seq.{take_at}
use Rattle.sheets.specs.Sheet.{over}

module _ (new old : List ℕ) where
  pub over_fits : length new ≤ length (over new old)
  unfolding over
  over_fits = omega (arith, length-append new (drop (length new) old))

  pub over_front : {n : ℕ} → length new ≡ n → take n (over new old) ≡ new
  unfolding over
  over_front {n} e = take_at new (drop (length new) old) n e

  -- what fits is written in place
  pub over_length : length new ≤ length old → length (over new old) ≡ length old
  unfolding over
  over_length l = omega (arith, length-append new (drop (length new) old), length-drop (length new) old)

-- a, of n bytes, first, which leaves u, and then b behind it
pub over_both : (a b t : List ℕ) {n : ℕ} {u p : List ℕ} → length a ≡ n → u ≡ a ++ drop n t → p ≡ over b (take (length u - n) (drop n u))
    → take n u ++ (p ++ drop (length u - n) (drop n u)) ≡ over (a ++ b) t
unfolding over
over_both a b t {n} {u} {p} l e f =
    let rest = drop (length b) (drop n t) in
    let under : drop n u ≡ drop n t = ap (drop n) e ∙ drop_at a (drop n t) n l in
    let none : drop (length u - n) (drop n u) ≡ [] = drop_of_length-le (drop n u) (le_of_eq (length-drop n u)) in
    let second : p ≡ b ++ drop (length b) (drop n t) = f ∙ ap (λ (v : List ℕ). b ++ drop (length b) v) (part_to_end u n ∙ under) in
    let long : n + length b ≡ length (a ++ b) = ap (λ (m : ℕ). m + length b) (sym l) ∙ sym (length-append a b) in
    ap₂ ◌++◌ (ap (take n) e ∙ take_at a (drop n t) n l) (ap₂ ◌++◌ second none ∙ append-nil (b ++ rest))
    ∙ sym (append_assoc a b rest)
    ∙ ap (λ (v : List ℕ). (a ++ b) ++ v) (drop-drop (length b) n t ∙ ap (λ (m : ℕ). drop m t) long)
