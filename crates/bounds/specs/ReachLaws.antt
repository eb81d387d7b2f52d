-- Laws of the two-hop reach: which vertices it holds; a large plex lies in the reach of each member, as two members have a common neighbour.
--
--   Reaching g a left s   a walk through the neighbours of a in progress: those in left are still to come, and s is what was found so far
use Rattle.std.specs.Prelude.{◌≡◌, ℕ, ◌+◌, ◌*◌, ◌^◌, ◌<◌, ◌≤◌, Bool, ◌||◌, T, ◌⊎◌, List, length, ◌==◌}
use Rattle.std.proofs.Common.{arith, inl, inr, eqb→eq}
use Rattle.std.proofs.Math.Decide.{ℕ_discrete}
use Rattle.std.proofs.Math.Path.{subst}
use Rattle.std.specs.Int.Bits.{bit_or}
use Rattle.std.proofs.Math.Dec.{eqb_refl}
use Rattle.sets.specs.Ranges.{any}
use Rattle.sets.specs.Set.{In, Sub, size, with, without, members}
use Rattle.sets.specs.Words.{Lowest}
use Rattle.sets.specs.Graph.{row}
use Rattle.sets.specs.RangeLaws.{or_cases, or_left, or_right}
use Rattle.sets.specs.BitLaws.{bit_le, bit-bit_or}
use Rattle.sets.specs.PointLaws.{by_bit}
use Rattle.sets.specs.SubsetLaws.{sub_of_in, in_of_sub, in_below, sub_with, sub_antisym, with_sub, with_same}
use Rattle.sets.specs.MemberLaws.{set_of_in, set_of_holds, set_of_below, any_members, members_any}
use Rattle.sets.specs.WalkLaws.{Walked, walk_none, walk_more, walk_map, walk_all, walk_member}
use Rattle.judging.specs.Graph.{adjacent, Valid}
use Rattle.judging.specs.Plex.{Plex}
use Rattle.judging.specs.Setting.{LowRows}
use Rattle.judging.specs.GraphLaws.{adjacent_in, in_adjacent}
use Rattle.bounds.specs.Reach.{reach}
use Rattle.bounds.specs.PairLaws.{common_neighbour}

-- ---- what the reach of a holds: a, its neighbours, and theirs

close : List ℕ → ℕ → ℕ → Bool
close g a b = a == b || adjacent g a b

far : List ℕ → ℕ → ℕ → Bool
far g a b = any (λ w. adjacent g w b) (members (length g) (row g a))

near : List ℕ → ℕ → ℕ → Bool
near g a b = close g a b || far g a b

module _ (g : List ℕ) (a : ℕ) where
  pub reach_below : reach g a < 2 ^ length g
  unfolding reach near close far
  reach_below = set_of_below (near g a) (length g)

  reach_near : (b : ℕ) → b < length g → T (near g a b) → In b (reach g a)
  unfolding reach near close far
  reach_near b l t = set_of_in (near g a) (length g) b l t

  reach_self : a < length g → In a (reach g a)
  unfolding near close
  reach_self l = reach_near a l (or_left (close g a a) (far g a a) (or_left (a == a) (adjacent g a a) (eqb_refl a)))

  reach_one : (b : ℕ) → b < length g → In b (row g a) → In b (reach g a)
  unfolding near close
  reach_one b l e = reach_near b l (or_left (close g a b) (far g a b) (or_right (a == b) (adjacent g a b) (in_adjacent g a b e)))

  reach_two : (b w : ℕ) → b < length g → w < length g → In w (row g a) → In b (row g w) → In b (reach g a)
  unfolding near far
  reach_two b w l lw e h =
      reach_near b l (or_right (close g a b) (far g a b) (members_any (λ w. adjacent g w b) (length g) (row g a) w lw e (in_adjacent g w b h)))

  -- and nothing else
  reach_only : (s : ℕ) → In a s → Sub (row g a) s → ((w : ℕ) → In w (row g a) → Sub (row g w) s) → Sub (reach g a) s
  unfolding reach near close far
  reach_only s self one two =
      sub_of_in (reach g a) s (λ b e. either b (or_cases (close g a b) (far g a b) (set_of_holds (near g a) (length g) b e).1))
    where
      next : (b : ℕ) → T (a == b) ⊎ T (adjacent g a b) → In b s
      next b (inl q) = subst (λ (y : ℕ). In y s) (eqb→eq a b q) self
      next b (inr q) = in_of_sub (row g a) s b one (adjacent_in g a b q)

      either : (b : ℕ) → T (close g a b) ⊎ T (far g a b) → In b s
      either b (inl q) = next b (or_cases (a == b) (adjacent g a b) q)
      either b (inr q) =
          let r = any_members (λ w. adjacent g w b) (length g) (row g a) q in
          in_of_sub (row g r.0) s b (two r.0 r.2) (adjacent_in g r.0 b r.3)

-- ---- large plexes

-- a plex of 2k - 1 or more members lies in the reach of each member
pub plex-reach : (g : List ℕ) (k s a : ℕ) → Valid g → s < 2 ^ length g → Plex g k s → 2 * k ≤ size s + 1 → In a s → Sub s (reach g a)
plex-reach g k s a ok b p big ha =
    sub_of_in s (reach g a) (λ v e. go v (below v e) e (ℕ_discrete a v))
  where
    below : (v : ℕ) → In v s → v < length g
    below v e = in_below (length g) s v b e

    go : (v : ℕ) → v < length g → In v s → Dec (a ≡ v) → In v (reach g a)
    go v l e (yes q) = subst (λ (y : ℕ). In y (reach g a)) q (reach_self g a (below a ha))
    go v l e (no nq) =
        by_bit (row g a) v (reach_one g a v l) (λ o.
        let r = common_neighbour g k ok s a v b p big ha e nq o in
        reach_two g a v r.0 l (below r.0 r.1) r.2 (omega (arith, ok.mutually v r.0 l (below r.0 r.1), r.3)))

-- ---- a walk through the neighbours of a that joins their rows

pub record Reaching (g : List ℕ) (a left s : ℕ) : Type 0 where
  pub self : In a s
  pub one : Sub (row g a) s
  pub two : Walked (λ w. Sub (row g w) s) (row g a) left
  pub only : Sub s (reach g a)

pub reaching_none : {g : List ℕ} {a : ℕ} → LowRows g → a < length g → Reaching g a (row g a) (with (row g a) a)
reaching_none {g} {a} low l =
    record {
      self = with_same (row g a) a;
      one = sub_with (row g a) a;
      two = walk_none;
      only = with_sub (row g a) a (reach g a) (sub_of_in _ _ (λ v e. reach_one g a v (in_below _ _ v (low.low a l) e) e)) (reach_self g a l);
    }

-- w is next, and is a vertex: its neighbours are joined
pub reaching_next : {g : List ℕ} {a left s w : ℕ} → LowRows g → w < length g → Reaching g a left s → Lowest left w
    → Reaching g a (without left w) (bit_or s (row g w))
reaching_next {g} {a} {left} {s} {w} low l r here =
    record {
      self = omega (arith, bit-bit_or s (row g w) a, r.self, bit_le (row g w) a);
      one = λ v. omega (arith, bit-bit_or s (row g w) v, r.one v);
      two = walk_more (walk_map wider r.two) (λ v. omega (arith, bit-bit_or s (row g w) v));
      only = λ v. omega (arith, bit-bit_or s (row g w) v, r.only v, mine v);
    }
  where
    wider : (u : ℕ) → Sub (row g u) s → Sub (row g u) (bit_or s (row g w))
    wider u h v = omega (arith, bit-bit_or s (row g w) v, h v)

    mine : Sub (row g w) (reach g a)
    mine = sub_of_in _ _ (λ v h. reach_two g a v w (in_below _ _ v (low.low w l) h) l (walk_member _ r.two.part here) h)

pub reaching_all : {g : List ℕ} {a left s : ℕ} → Reaching g a left s → left ≡ 0 → s ≡ reach g a
reaching_all {g} {a} {left} {s} r z =
    sub_antisym s (reach g a) r.only (reach_only g a s r.self r.one (λ w h. walk_all z r.two w h))
