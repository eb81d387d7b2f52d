-- A survey of a set, member by member: after the last one the most that was missed is the looseness, since a member misses it and none misses more.
--
--   Finding g k a left most worst free   what is found so far, with the members of left still to come
use Rattle.std.specs.Prelude.{ℕ, ◌^◌, ◌<◌, ◌≤◌, ◌≡◌, List, length}
use Rattle.std.proofs.Common.{arith, sym}
use Rattle.std.proofs.Math.Decide.{dec_le}
use Rattle.std.specs.Int.Bits.{bit_and}
use Rattle.sets.specs.Set.{In, minus, without, full}
use Rattle.sets.specs.Words.{Lowest}
use Rattle.sets.specs.Graph.{row}
use Rattle.sets.specs.SubsetLaws.{in_below}
use Rattle.sets.specs.WalkLaws.{Walked, walk_none, walk_next, walk_map, walk_all, walk_member}
use Rattle.judging.specs.Graph.{missing}
use Rattle.judging.specs.Plex.{looseness, Plex}
use Rattle.judging.specs.LoosenessLaws.{plex_loose, loose_plex, looseness_holds}
use Rattle.judging.specs.NarrowLaws.{Narrowed, narrowed_none, narrowed_next, narrowed_unblocked}
use Rattle.judging.specs.Survey.{Finds}

pub record Finding (g : List ℕ) (k a left most worst free : ℕ) : Type 0 where
  pub narrowed : Narrowed g k a a (minus (full (length g)) a) left free
  pub bounded : Walked (λ v. missing g a v ≤ most) a left
  pub reached : 0 < most → In worst a × (missing g a worst ≡ most)

pub finding_none : {g : List ℕ} {k a worst : ℕ} → a < 2 ^ length g → Finding g k a a 0 worst (minus (full (length g)) a)
finding_none b = record { narrowed = narrowed_none b; bounded = walk_none; reached = λ l. absurd (omega arith) }

-- one member more: v misses n, and what is free is narrowed to p by its row b
module _ {g : List ℕ} {k a left most worst free v rest n b p : ℕ} (h : Finding g k a left most worst free) (l : Lowest left v)
    (e : rest ≡ without left v) (z : n ≡ missing g a v) (y : b ≡ row g v) (f : (k ≤ n → p ≡ bit_and free b) × (n < k → p ≡ free)) where
  pub finding_same : n ≤ most → Finding g k a rest most worst p
  finding_same few =
      record {
        narrowed = narrowed_next h.narrowed l e z y f;
        bounded = walk_next v e h.bounded (omega arith);
        reached = h.reached;
      }

  pub finding_more : most < n → Finding g k a rest n v p
  finding_more many =
      record {
        narrowed = narrowed_next h.narrowed l e z y f;
        bounded = walk_next v e (walk_map (λ u d. omega arith) h.bounded) (omega arith);
        reached = λ _. (walk_member a h.bounded.part l, sym z);
      }

pub finding_all : {g : List ℕ} {k a left most worst free : ℕ} → left ≡ 0 → Finding g k a left most worst free → Finds g k a most worst free
finding_all {g} {k} {a} {left} {most} {worst} z h = record { loose = go (dec_le most 0); reached = h.reached; opened = narrowed_unblocked z h.narrowed }
  where
    above : looseness g a ≤ most
    above = plex_loose g most a (λ v l i. walk_all z h.bounded v i)

    go : Dec (most ≤ 0) → most ≡ looseness g a
    go (yes d) = omega (arith, above)
    go (no nd) =
        let r = h.reached (omega arith) in
        omega (arith, above, r.1, looseness_holds g a worst (in_below (length g) a worst h.narrowed.within r.0) r.0)

-- where it is no looser than k the set is a plex
pub finds_plex : {g : List ℕ} {k a most worst free : ℕ} → Finds g k a most worst free → most ≤ k → Plex g k a
finds_plex {g} {k} {a} h l = loose_plex g k a (omega (arith, h.loose))
