-- A pool narrowed member by member. A member of s that misses k or more of s is saturated: a walk through some members meets the pool with the row of each
-- saturated one, so that in the end the pool has the vertices that are adjacent to all of these.
--
--   ClearOf g k s w x              x is adjacent to each saturated member of s in w
--   Narrowed g k s w pool left r   r is what is left of the pool after the members of w that are not in left
use Rattle.std.specs.Prelude.{ℕ, ◌^◌, ◌≤◌, ◌<◌, ◌≡◌, List, length}
use Rattle.std.proofs.Common.{arith, sym, ap, ◌∙◌, subst}
use Rattle.std.proofs.Math.Decide.{dec_lt}
use Rattle.std.specs.Int.Bits.{bit_and}
use Rattle.std.proofs.Math.Pow.{ones_lt}
use Rattle.sets.specs.Set.{In, Sub, minus, without, full}
use Rattle.sets.specs.Graph.{row}
use Rattle.sets.specs.Words.{Lowest}
use Rattle.sets.specs.BitLaws.{bit_le, bit-bit_and, bit-minus}
use Rattle.sets.specs.WordLaws.{bit-full}
use Rattle.sets.specs.SubsetLaws.{sub_of_in, sub_refl, sub_antisym, in_of_sub, in_below}
use Rattle.sets.specs.SizeLaws.{minus_below}
use Rattle.sets.specs.WalkLaws.{Walked, walk_none, walk_next, walk_map, walk_all, walk_member, walk_below}
use Rattle.judging.specs.Graph.{missing}
use Rattle.judging.specs.Plex.{unblocked}
use Rattle.judging.specs.ExtensionLaws.{unblocked_below, unblocked_holds, unblocked_test}

abbrev pub ClearOf : List ℕ → ℕ → ℕ → ℕ → ℕ → Type 0
ClearOf g k s w x = (u : ℕ) → In u w → k ≤ missing g s u → In x (row g u)

pub record Narrowed (g : List ℕ) (k s w pool left r : ℕ) : Type 0 where
  pub within : w < 2 ^ length g
  pub part : Sub r pool
  pub walked : Walked (λ u. k ≤ missing g s u → Sub r (row g u)) w left
  pub stays : (x : ℕ) → In x pool → ClearOf g k s w x → In x r

pub narrowed_none : {g : List ℕ} {k s w pool : ℕ} → w < 2 ^ length g → Narrowed g k s w pool w pool
narrowed_none {pool = pool} b = record { within = b; part = sub_refl pool; walked = walk_none; stays = λ x i q. i }

-- ---- one step: v is the lowest member to come, and rest is what is to come after it

module _ {g : List ℕ} {k s w pool left r v : ℕ} (h : Narrowed g k s w pool left r) (l : Lowest left v) where
  pub narrowed_vertex : v < length g
  narrowed_vertex = walk_below h.within h.walked.part l

  module _ {rest : ℕ} (e : rest ≡ without left v) where
    pub narrowed_same : missing g s v < k → Narrowed g k s w pool rest r
    narrowed_same few =
        record { within = h.within; part = h.part; walked = walk_next v e h.walked (λ m. absurd (omega arith)); stays = h.stays }

    pub narrowed_more : {p : ℕ} → p ≡ bit_and r (row g v) → k ≤ missing g s v → Narrowed g k s w pool rest p
    narrowed_more f m =
        subst (Narrowed g k s w pool rest) (sym f)
        (record {
          within = h.within;
          part = λ x. omega (arith, bit-bit_and r (row g v) x, h.part x);
          walked =
              walk_next v e (walk_map (λ u b q x. omega (arith, bit-bit_and r (row g v) x, b q x)) h.walked)
              (λ _ x. omega (arith, bit-bit_and r (row g v) x));
          stays = λ x i q. omega (arith, bit-bit_and r (row g v) x, h.stays x i q, q v (walk_member _ h.walked.part l) m);
        })

    pub narrowed_next : {n b p : ℕ} → n ≡ missing g s v → b ≡ row g v → (k ≤ n → p ≡ bit_and r b) × (n < k → p ≡ r)
        → Narrowed g k s w pool rest p
    narrowed_next {n} {b} {p} z y f = go (dec_lt n k)
      where
        go : Dec (n < k) → Narrowed g k s w pool rest p
        go (yes few) = subst (Narrowed g k s w pool rest) (sym (f.1 few)) (narrowed_same (omega arith))
        go (no many) = narrowed_more (f.0 (omega arith) ∙ ap (bit_and r) y) (omega arith)

-- ---- the whole walk

module _ {g : List ℕ} {k s w pool left r : ℕ} (z : left ≡ 0) (h : Narrowed g k s w pool left r) where
  pub narrowed_all : (u : ℕ) → In u w → k ≤ missing g s u → Sub r (row g u)
  narrowed_all = walk_all z h.walked

-- the vertices outside s, narrowed by all its members, are those that no member blocks
pub narrowed_unblocked : {g : List ℕ} {k s left r : ℕ} → left ≡ 0 → Narrowed g k s s (minus (full (length g)) s) left r → r ≡ unblocked g k s
narrowed_unblocked {g} {k} {s} {left} {r} z h = sub_antisym r (unblocked g k s) (sub_of_in r (unblocked g k s) into) (sub_of_in (unblocked g k s) r back)
  where
    n : ℕ
    n = length g

    into : (x : ℕ) → In x r → In x (unblocked g k s)
    into x i =
        let free : In x (minus (full n) s) = in_of_sub r (minus (full n) s) x h.part i in
        unblocked_test g k s x (in_below n _ x (minus_below n (full n) s (ones_lt n)) free) (
          omega (arith, bit-minus (full n) s x, bit_le (full n) x),
          λ v l j m. in_of_sub r (row g v) x (narrowed_all z h v j m) i,
        )

    back : (x : ℕ) → In x (unblocked g k s) → In x r
    back x i =
        let l = in_below n (unblocked g k s) x (unblocked_below g k s) i in
        let u = unblocked_holds g k s x i in
        h.stays x (omega (arith, bit-minus (full n) s x, bit-full n x l, u.0)) (λ v j m. u.1 v (in_below n s v h.within j) j m)
