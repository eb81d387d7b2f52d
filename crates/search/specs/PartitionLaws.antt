-- Laws of the partition bound: what the choice of a member keeps to, and that each step of the bound is sound.
--
--   Picking    what holds in the midst of a choice: the members of todo are still to come, kept are those that stay, best misses most so far
--   Bounding   what holds in the midst of the bound: a plex between s and a has, together with r, at most room + q members
use Rattle.std.specs.Prelude.{◌≡◌, ℕ, ◌+◌, ◌-◌, ◌^◌, ◌<◌, ◌≤◌, List, length}
use Rattle.std.proofs.Common.{arith}
use Rattle.std.specs.Int.Bits.{bit_and, bit_or}
use Rattle.sets.specs.Set.{In, Sub, size, with, minus, without}
use Rattle.sets.specs.Words.{width, Lowest}
use Rattle.sets.specs.Graph.{row}
use Rattle.sets.specs.BitLaws.{bit_le, bit-bit_and, bit-bit_or, bit-minus}
use Rattle.sets.specs.PointLaws.{bit_none}
use Rattle.sets.specs.SubsetLaws.{sub_below, sub_refl, sub_trans, without_same, with_sub, in_of_sub, in_below}
use Rattle.sets.specs.SizeLaws.{size_less, size_pair, size_mono}
use Rattle.sets.specs.WalkLaws.{walk_member}
use Rattle.judging.specs.Graph.{missing}
use Rattle.judging.specs.Plex.{Plex}
use Rattle.search.specs.Found.{Short}
use Rattle.search.specs.Partition.{Between, Picked}

-- ---- the choice of a member

pub record Picking (g : List ℕ) (k r left todo kept best most : ℕ) : Type 0 where
  pub part : Sub todo left
  pub stay : Sub kept left
  pub fits : best < width
  pub member : k < most → In best left
  pub misses : k < most → most ≡ missing g r best

pub picking_none : {g : List ℕ} {k r left kept : ℕ} → kept ≡ 0 → Picking g k r left left kept 0 k
picking_none {left = left} z =
    rw z (record {
      part = sub_refl left;
      stay = λ v. omega (arith, bit_none v);
      fits = omega arith;
      member = λ l. absurd (omega arith);
      misses = λ l. absurd (omega arith);
    })

module _ {g : List ℕ} {k r left todo kept best most : ℕ} (h : Picking g k r left todo kept best most) where
  -- u is passed: more are those that stay, u among them or not
  module _ {u rest : ℕ} (l : Lowest todo u) (e : rest ≡ without todo u) where
    passed : In u left
    passed = walk_member left h.part l

    pub picking_same : {more : ℕ} → Sub more (with kept u) → Picking g k r left rest more best most
    picking_same {more} p =
        record {
          part = rw e (λ v. omega (arith, bit-minus todo (2 ^ u) v, h.part v));
          stay = sub_trans more (with kept u) left p (with_sub kept u left h.stay passed);
          fits = h.fits;
          member = h.member;
          misses = h.misses;
        }

    pub picking_more : {more m : ℕ} → Sub more (with kept u) → m ≡ missing g r u → Picking g k r left rest more u m
    picking_more p d =
        let same = picking_same p in
        record { part = same.part; stay = same.stay; fits = l.fits; member = λ q. passed; misses = λ q. d }

  pub picking_all : {rest : ℕ} → rest ≡ without kept best → Picked g k r left best most rest
  picking_all e =
      rw e (record {
        member = h.member;
        misses = h.misses;
        part = λ v. omega (arith, bit-minus kept (2 ^ best) v, h.stay v);
        lacks = without_same kept best;
      })

-- fewer members are left after each choice
pub left_falls : {g : List ℕ} {k r left best most rest : ℕ} → Picked g k r left best most rest → k < most → size rest < size left
left_falls {left = left} {best = best} {rest = rest} p l = size_less rest left best p.part p.lacks (p.member l)

-- ---- the bound

-- r without what u misses, but for s: t and r together lose as many as u misses of r, less at most as many as u misses of t
pub part_off : (g : List ℕ) (s r t u : ℕ) → Sub s t → Sub s r
    → size (bit_or t (bit_and r (bit_or (row g u) s))) + missing g r u ≤ size (bit_or t r) + missing g t u
unfolding missing
part_off g s r t u h l =
    size_pair (bit_or t (bit_and r (bit_or (row g u) s))) (minus r (row g u)) (bit_or t r) (minus t (row g u)) (λ v. omega (
      arith,
      h v,
      l v,
      bit_le (row g u) v,
      bit_le t v,
      bit_le r v,
      bit-bit_or t (bit_and r (bit_or (row g u) s)) v,
      bit-bit_and r (bit_or (row g u) s) v,
      bit-bit_or (row g u) s v,
      bit-minus r (row g u) v,
      bit-bit_or t r v,
      bit-minus t (row g u) v,
    ))

pub record Bounding (g : List ℕ) (k q s a left r room : ℕ) : Type 0 where
  pub part : Sub left s
  pub holds : Sub s r
  pub most : (t : ℕ) → t < 2 ^ length g → Plex g k t → Sub s t → Sub t a → size (bit_or t r) ≤ room + q

pub bounding_none : {g : List ℕ} {k q s a n : ℕ} → n ≡ size a → q ≤ n → Sub s a → Bounding g k q s a s a (n - q)
bounding_none {s = s} {a = a} e l h =
    record {
      part = sub_refl s;
      holds = h;
      most = λ t b p f i. omega (arith, size_mono (bit_or t a) a (λ v. omega (arith, bit-bit_or t a v, i v)));
    }

pub short_all : (g : List ℕ) (k q s a n : ℕ) → n ≡ size a → n < q → Short g k q s a
short_all g k q s a n e l t lt x f i = omega (arith, size_mono t a i)

module _ {g : List ℕ} {k q s a left r room : ℕ} (b : Bounding g k q s a left r room) where
  -- what is left is of the graph
  pub left_below : Between g s a → left < 2 ^ length g
  left_below w = sub_below (length g) left a (sub_trans left s a b.part w.part) w.below

  module _ {best most rest : ℕ} (p : Picked g k r left best most rest) (l : k < most) where
    -- and so is the member chosen
    pub best_below : Between g s a → best < length g
    best_below w = in_below (length g) left best (left_below w) (p.member l)

    -- one part more is taken off: together with what is left a plex has at most as many members as before, less what best misses beyond k
    off : (t : ℕ) → t < 2 ^ length g → Plex g k t → Sub s t → Sub t a → size (bit_or t (bit_and r (bit_or (row g best) s))) + (most - k) ≤ room + q
    off t lt x f i =
        let u : In best t = in_of_sub s t best f (in_of_sub left s best b.part (p.member l)) in
        omega (arith, part_off g s r t best f b.holds, b.most t lt x f i, p.misses l, x best (in_below (length g) t best lt u) u)

    pub bounding_more : {next : ℕ} → most - k ≤ room → next ≡ bit_and r (bit_or (row g best) s) → Bounding g k q s a rest next (room - (most - k))
    bounding_more c e =
        rw e (record {
          part = sub_trans rest left s p.part b.part;
          holds = λ v. omega (arith, b.holds v, bit-bit_and r (bit_or (row g best) s) v, bit-bit_or (row g best) s v);
          most = λ t lt x f i. omega (arith, off t lt x f i);
        })

    -- there is no room for one more: every plex is too small
    pub short_off : room < most - k → Short g k q s a
    short_off c t lt x f i =
        let both = bit_or t (bit_and r (bit_or (row g best) s)) in
        omega (arith, off t lt x f i, size_mono t both (λ v. omega (arith, bit-bit_or t (bit_and r (bit_or (row g best) s)) v)))
