-- Laws of cliques: their common neighbours, which a walk through the members finds, and the pivot. Every clique to be found has the pivot or a vertex
-- that the pivot is not adjacent to, so it is touched by the candidates that cover the others.
--
--   Sharing g s l m      the members of s outside l are adjacent to all of m, and m has all common neighbours of s
--   Pivoting g c m l b   b covers c, and the vertices l of m are still to be looked at
use Rattle.std.specs.Prelude.{◌≡◌, ℕ, ◌+◌, ◌^◌, ◌<◌, ◌≤◌, not, T, ◌≢◌, List, length, ◌==◌}
use Rattle.std.proofs.Common.{arith, le_refl, sym, subst, pow_pos}
use Rattle.std.proofs.Math.Decide.{ℕ_discrete}
use Rattle.std.specs.Int.Bits.{bit_and, bit_or}
use Rattle.std.proofs.lemmas.Nat.{ones-le}
use Rattle.std.proofs.Math.Pow.{ones_lt}
use Rattle.std.proofs.Math.Dec.{eqb→eq, eqb_refl, T_not, not_T}
use Rattle.sets.specs.Set.{bit, In, Sub, size, with, without, minus, full}
use Rattle.sets.specs.Graph.{row}
use Rattle.sets.specs.Words.{Lowest}
use Rattle.sets.specs.BitLaws.{bit_le, bit-bit_and, bit-bit_or, bit-minus, bit-pow_same}
use Rattle.sets.specs.PointLaws.{bit_with, in_single, by_bit, none_out, parts_whole}
use Rattle.sets.specs.RangeLaws.{and_left, and_right, both, test_same}
use Rattle.sets.specs.SubsetLaws.{sub_refl, sub_trans, in_of_sub, in_below, with_same, sub_with, minus-sub, positive_of}
use Rattle.sets.specs.SizeLaws.{positive_size, size_mono, some_member, two_members, and_below}
use Rattle.sets.specs.WordLaws.{bit-full}
use Rattle.sets.specs.WalkLaws.{Walked, walk_none, walk_map, walk_next, walk_all, walk_member}
use Rattle.judging.specs.Request.{Request}
use Rattle.judging.specs.Graph.{missing, Valid}
use Rattle.judging.specs.Plex.{Plex}
use Rattle.judging.specs.GraphLaws.{missing_with}
use Rattle.judging.specs.PlexLaws.{one_by_maximal}
use Rattle.search.specs.Found.{found, Found}
use Rattle.search.specs.FoundLaws.{found_holds, found_test}
use Rattle.search.specs.Choice.{Pickable}
use Rattle.search.specs.Cliques.{Common, Covering, touched}

-- ---- cliques

module _ (g : List ℕ) (ok : Valid g) where
  -- two members of a clique are adjacent
  pub clique_adjacent : (x u v : ℕ) → x < 2 ^ length g → Plex g 1 x → In u x → In v x → u ≢ v → In v (row g u)
  unfolding missing
  clique_adjacent x u v b p hu hv ne = by_bit (row g u) v (λ i. i) (λ o. absurd (omega (arith, p u lu hu, two o)))
    where
      lu : u < length g
      lu = in_below (length g) x u b hu

      two : bit (row g u) v ≡ 0 → 2 ≤ size (minus x (row g u))
      two o =
          two_members (minus x (row g u)) u v ne (omega (arith, bit-minus x (row g u) u, ok.loopless u lu))
          (omega (arith, bit-minus x (row g u) v))

  -- the same at a vertex u: in a clique with v it is adjacent to v, or v itself
  pub clique_near : (x v : ℕ) → x < 2 ^ length g → Plex g 1 x → In v x → (u : ℕ) → bit x u ≤ bit (row g v) u + bit (2 ^ v) u
  clique_near x v b p i u = by_bit (2 ^ v) u (λ e. omega (arith, bit_le x u)) (λ o. by_bit x u (λ j. omega (arith, near o j)) (λ n. omega arith))
    where
      near : bit (2 ^ v) u ≡ 0 → In u x → In u (row g v)
      near o j = clique_adjacent x v u b p i j (λ z. omega (arith, bit-pow_same v, subst (λ (y : ℕ). bit (2 ^ v) y ≡ 0) (sym z) o))

  -- a vertex that is adjacent to every member of a plex can be added to it
  pub neighbour_adds : (k x p : ℕ) → 1 ≤ k → x < 2 ^ length g → p < length g → Plex g k x → bit x p ≡ 0
      → ((w : ℕ) → In w x → In p (row g w)) → Plex g k (with x p)
  unfolding missing
  neighbour_adds k x p lk b lp h out near w lw e = by_bit x w (λ i. omega (arith, missing_with g x p w out, near w i, h w lw i)) itself
    where
      none : Sub (minus x (row g p)) 0
      none u =
          by_bit x u (λ i. omega (arith, bit-minus x (row g p) u, near u i, ok.mutually u p (in_below (length g) x u b i) lp))
          (λ o. omega (arith, bit-minus x (row g p) u))

      itself : bit x w ≡ 0 → size (minus (with x p) (row g w)) ≤ k
      itself o =
          subst (λ (y : ℕ). size (minus (with x p) (row g y)) ≤ k) (in_single p w (omega (arith, bit_with x p w)))
          (omega (arith, missing_with g x p p out, ok.loopless p lp, size_mono (minus x (row g p)) 0 none, ones-le 0 0 (pow_pos 0)))

-- ---- common neighbours

module _ {g : List ℕ} {s m : ℕ} (ok : Valid g) (near : Common g s m) where
  -- no member is one
  pub common_apart : (u : ℕ) → bit s u + bit m u ≤ 1
  common_apart u =
      by_bit s u
      (λ i. by_bit m u (λ j. absurd (omega (arith, near.beside u i u, ok.loopless u (in_below (length g) m u near.below j))))
      (λ o. omega (arith, bit_le s u)))
      (λ o. omega (arith, bit_le m u))

  -- a clique grows by one of them
  module _ (v : ℕ) (i : In v m) where
    pub common_vertex : v < length g
    common_vertex = in_below (length g) m v near.below i

    pub common_out : bit s v ≡ 0
    common_out = omega (arith, common_apart v)

    pub common_clique : s < 2 ^ length g → Plex g 1 s → Plex g 1 (with s v)
    common_clique b p = neighbour_adds g ok 1 s v (le_refl 1) b common_vertex p common_out (λ u e. in_of_sub m (row g u) v (near.beside u e) i)

-- those of s and v
pub common_with : {g : List ℕ} {s m : ℕ} → Common g s m → (v : ℕ) → Common g (with s v) (bit_and m (row g v))
common_with {g} {s} {m} near v =
    record {
      below = and_below (length g) m (row g v) near.below;
      beside = λ u i x. by_bit s u (λ j. omega (arith, bit-bit_and m (row g v) x, near.beside u j x)) (λ o. last u i o x);
      every = λ x l f.
          omega (arith, bit-bit_and m (row g v) x, near.every x l (λ u i. f u (in_of_sub s (with s v) u (sub_with s v) i)), f v (with_same s v));
    }
  where
    last : (u : ℕ) → In u (with s v) → bit s u ≡ 0 → Sub (bit_and m (row g v)) (row g u)
    last u i o =
        subst (λ (y : ℕ). Sub (bit_and m (row g v)) (row g y)) (in_single v u (omega (arith, bit_with s v u)))
        (λ x. omega (arith, bit-bit_and m (row g v) x))

-- by a walk through the members
pub record Sharing (g : List ℕ) (s left m : ℕ) : Type 0 where
  pub below : m < 2 ^ length g
  pub beside : Walked (λ u. Sub m (row g u)) s left
  pub every : (x : ℕ) → x < length g → ((u : ℕ) → In u s → In x (row g u)) → In x m

pub sharing_none : {g : List ℕ} {s m : ℕ} → m ≡ full (length g) → Sharing g s s m
sharing_none {g} {s} e = rw e (record { below = ones_lt (length g); beside = walk_none; every = λ x l f. bit-full (length g) x l })

pub sharing_next : {g : List ℕ} {s left m v r w n : ℕ} → Sharing g s left m → Lowest left v → r ≡ without left v → w ≡ row g v → n ≡ bit_and m w
    → Sharing g s r n
sharing_next {g} {s} {left} {m} {v} {r} {w} {n} h low er ew en =
    rw (en, ew) (record {
      below = and_below (length g) m (row g v) h.below;
      beside = walk_next v er (walk_map narrow h.beside) (λ x. omega (arith, bit-bit_and m (row g v) x));
      every = λ x l f. omega (arith, bit-bit_and m (row g v) x, h.every x l f, f v (walk_member s h.beside.part low));
    })
  where
    narrow : (u : ℕ) → Sub m (row g u) → Sub (bit_and m (row g v)) (row g u)
    narrow u k x = omega (arith, bit-bit_and m (row g v) x, k x)

pub sharing_all : {g : List ℕ} {s left m : ℕ} → Sharing g s left m → left ≡ 0 → Common g s m
sharing_all {g} {s} {left} {m} h z = record { below = h.below; beside = walk_all z h.beside; every = h.every }

-- ---- the choice of a pivot

pub record Pivoting (g : List ℕ) (c m left best : ℕ) : Type 0 where
  pub cover : Covering g c m best
  pub part : Sub left m

pub cover_all : {g : List ℕ} {c m : ℕ} → Pickable g m → Covering g c m c
cover_all {g} {c} {m} h =
    let w = some_member m (positive_size m h.some) in
    record { pivot = w.0; member = w.1; covers = minus-sub c (row g w.0); part = sub_refl c }

pub pivoting_none : {g : List ℕ} {c m : ℕ} → Pickable g m → Pivoting g c m m c
pivoting_none {g} {c} {m} h = record { cover = cover_all h; part = sub_refl m }

pub pivoting_next : {g : List ℕ} {c m left best v r next : ℕ} → Pivoting g c m left best → Lowest left v → r ≡ without left v
    → Covering g c m next → Pivoting g c m r next
pivoting_next {m = m} {left = left} {v = v} h low e w = record { cover = w; part = rw e (sub_trans (without left v) left m (minus-sub left (2 ^ v)) h.part) }

-- the candidates that the vertex looked at is not adjacent to
pub pivoting_covers : {g : List ℕ} {c m left best v w r : ℕ} → Pivoting g c m left best → Lowest left v → w ≡ row g v → r ≡ minus c w → Covering g c m r
pivoting_covers {g} {c} {m} {left} {best} {v} h low ew e =
    rw (e, ew) (record { pivot = v; member = walk_member m h.part low; covers = sub_refl (minus c (row g v)); part = minus-sub c (row g v) })

-- ---- what a pivot is for

-- every plex to be found holds the pivot or a vertex that the pivot is not adjacent to: else the pivot could be added to it
module _ {g : List ℕ} {s c m r : ℕ} (ask : Request) (ok : Valid g) (lk : 1 ≤ ask.slack) (near : Common g s m) (cover : Covering g c m r) where
  pub pivot_hits : (x : ℕ) → Found g ask s c x → 0 < bit_and x r
  pivot_hits x f = go (ℕ_discrete (bit_and x r) 0)
    where
      p : ℕ
      p = cover.pivot

      lp : p < length g
      lp = common_vertex ok near p cover.member

      go : Dec (bit_and x r ≡ 0) → 0 < bit_and x r
      go (no n) = positive_of (bit_and x r) n
      go (yes z) =
          absurd (one_by_maximal g ask.slack x f.listed.below f.listed.top p lp out
          (neighbour_adds g ok ask.slack x p lk f.listed.below lp f.listed.top.0 out adjacent))
        where
          -- a member of x outside s is a candidate, and the pivot is adjacent to those outside r
          adjacent : (w : ℕ) → In w x → In p (row g w)
          adjacent w i =
              by_bit s w (λ j. in_of_sub m (row g w) p (near.beside w j) cover.member)
              (λ o.
              let candidate : In w c = omega (arith, f.upper w, bit-bit_or s c w, bit_le c w) in
              let covered : bit r w ≡ 0 = omega (arith, none_out z w, bit-bit_and x r w) in
              let same = ok.mutually p w lp (in_below (length g) x w f.listed.below i) in
              omega (arith, cover.covers w, bit-minus c (row g p) w, bit_le (row g p) w))

          out : bit x p ≡ 0
          out = by_bit x p (λ i. absurd (omega (arith, adjacent p i, ok.loopless p lp))) (λ o. o)

-- ---- what is touched

module _ (g : List ℕ) (ask : Request) (s b t x : ℕ) where
  pub touched_holds : x < 2 ^ length g → T (touched g ask s b t x) → Found g ask s (bit_or b t) x × (0 < bit_and x t)
  unfolding touched
  touched_holds l h = (
    found_holds g ask s (bit_or b t) x l (and_left (found g ask s (bit_or b t) x) (not (bit_and x t == 0)) h),
    positive_of (bit_and x t) (λ e. T_not (bit_and x t == 0) (and_right (found g ask s (bit_or b t) x) (not (bit_and x t == 0)) h) (rw e (eqb_refl 0))),
  )

  pub touched_test : Found g ask s (bit_or b t) x → 0 < bit_and x t → T (touched g ask s b t x)
  unfolding touched
  touched_test f l =
      both (found g ask s (bit_or b t) x) (not (bit_and x t == 0)) (found_test g ask s (bit_or b t) x f)
      (not_T (bit_and x t == 0) (λ z. omega (arith, eqb→eq (bit_and x t) 0 z)))

-- where what is to be found in c meets d, a part of c, it is what is touched by d
pub touched_all : {g : List ℕ} {ask : Request} {s c : ℕ} (d : ℕ) → Sub d c → ((x : ℕ) → Found g ask s c x → 0 < bit_and x d)
    → (x : ℕ) → x < 2 ^ length g → touched g ask s (minus c d) d x ≡ found g ask s c x
touched_all {g} {ask} {s} {c} d part hits x l =
    test_same (touched g ask s (minus c d) d x) (found g ask s c x)
    (λ z. found_test g ask s c x (rw whole at (touched_holds g ask s (minus c d) d x l z).0))
    (λ z. let f = found_holds g ask s c x l z in touched_test g ask s (minus c d) d x (rw whole f) (hits x f))
  where
    whole : bit_or (minus c d) d ≡ c
    whole = parts_whole c d part
