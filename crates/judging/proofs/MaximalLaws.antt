-- Every k-plex of the graph lies in a maximal one: going through the vertices once, each is added where the set stays a plex. One that was passed over
-- cannot be added later, because a part of a plex is a plex.
--
--   Closed g k s v   v is a member of s or cannot be added to it
--   Grown g k x i    a plex that holds x, to which no vertex below i can be added
use Rattle.std.specs.Prelude.{ℕ, zero, suc, ◌^◌, ◌≤◌, ◌<◌, ◌≡◌, ◌⊎◌, not, List, T, length}
use Rattle.std.proofs.Common.{arith, inl, inr, T_not, below_none, below_more}
use Rattle.sets.specs.Set.{bit, Sub, with}
use Rattle.sets.specs.RangeLaws.{test}
use Rattle.sets.specs.PointLaws.{bit_with}
use Rattle.sets.specs.SubsetLaws.{sub_refl, sub_trans, sub_with, with_same, with_below}
use Rattle.judging.specs.Plex.{plex, Plex, Maximal}
use Rattle.judging.specs.PlexLaws.{plex_holds, plex_test, hereditary, maximal_by_one}

abbrev Closed : List ℕ → ℕ → ℕ → ℕ → Type 0
Closed g k s v = bit s v ≡ 0 → Plex g k (with s v) → ⊥

record Grown (g : List ℕ) (k x i : ℕ) : Type 0 where
  set : ℕ
  below : set < 2 ^ length g
  lower : Sub x set
  plexed : Plex g k set
  closed : (v : ℕ) → v < i → Closed g k set v

module _ (g : List ℕ) (k x : ℕ) (b : x < 2 ^ length g) (p : Plex g k x) where
  grown_next : (i : ℕ) → i < length g → Grown g k x i → Grown g k x (suc i)
  grown_next i l r = go (test (plex g k (with y i)))
    where
      y : ℕ
      y = r.set

      -- what was passed over stays out: y with it is a part of the larger set with it, so it would be a plex
      out : (v : ℕ) → v < i → Closed g k (with y i) v
      out v m o q =
          r.closed v m (omega (arith, bit_with y i v, o))
          (hereditary g k (with y v) (with (with y i) v) (λ u. omega (arith, bit_with y v u, bit_with (with y i) v u, bit_with y i u)) q)

      go : T (plex g k (with y i)) ⊎ T (not (plex g k (with y i))) → Grown g k x (suc i)
      go (inl t) = record {
        set = with y i;
        below = with_below (length g) y i r.below l;
        lower = sub_trans x y (with y i) r.lower (sub_with y i);
        plexed = plex_holds g k (with y i) t;
        closed = λ v m. below_more (Closed g k (with y i)) i out (λ o q. omega (arith, with_same y i, o)) v (omega arith);
      }
      go (inr t) = record {
        set = y;
        below = r.below;
        lower = r.lower;
        plexed = r.plexed;
        closed = λ v m. below_more (Closed g k y) i r.closed (λ o q. T_not (plex g k (with y i)) t (plex_test g k (with y i) q)) v (omega arith);
      }

  grown_all : (i : ℕ) → i ≤ length g → Grown g k x i
  grown_all zero l = record { set = x; below = b; lower = sub_refl x; plexed = p; closed = below_none (Closed g k x) }
  grown_all (suc i) l = grown_next i l (grown_all i (omega arith))

  pub plex_within_maximal : (y : ℕ) × Maximal g k y × (y < 2 ^ length g) × Sub x y
  plex_within_maximal =
      let r = grown_all (length g) (omega arith) in
      (r.set, maximal_by_one g k r.set r.plexed r.closed, r.below, r.lower)
