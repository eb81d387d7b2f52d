-- Laws of colour classes: a class is chosen vertex by vertex, the neighbours of each left out; a member of a k-plex misses what this has of a class, so it
-- has at most k of it. A member of s takes off in the same way what it misses. Of parts one after the other a k-plex has at most the sum.
--
--   Choosing g c left r      r are chosen of c, left are still to be looked at, and no vertex of r is adjacent to one of r or left
--   Colouring g c n left r   a clique has at most n of r, and r and left are vertices of c
use Rattle.std.specs.Prelude.{ℕ, ◌+◌, ◌-◌, ◌^◌, ◌≤◌, ◌<◌, min, max, ◌≡◌, refl, List, length}
use Rattle.std.proofs.Common.{arith, sym, ap, subst, ◌∙◌, pow_pos}
use Rattle.std.proofs.Math.Decide.{dec_le}
use Rattle.std.specs.Int.Bits.{bit_and, bit_or}
use Rattle.std.proofs.lemmas.Nat.{ones-le}
use Rattle.sets.specs.Set.{bit, In, Sub, size, with, without, minus}
use Rattle.sets.specs.Graph.{row}
use Rattle.sets.specs.Words.{Lowest}
use Rattle.sets.specs.BitLaws.{ext, bit_le, bit-bit_and, bit-bit_or, bit-minus}
use Rattle.sets.specs.PointLaws.{bit_none, bit_with, in_single, single_in, single_out, by_bit, none_out, minus_self}
use Rattle.sets.specs.SubsetLaws.{sub_refl, sub_trans, sub_below, sub_number, in_of_sub, in_below, with_same, minus_none, minus-sub, positive_of}
use Rattle.sets.specs.SizeLaws.{size_pair, size_mono, size_or, size-minus, some_member, positive_size}
use Rattle.sets.specs.WalkLaws.{walk_falls}
use Rattle.judging.specs.Graph.{missing}
use Rattle.judging.specs.Plex.{Plex}
use Rattle.judging.specs.Setting.{Judgeable}
use Rattle.largest.specs.Colour.{Class, Coloured, Sharing, Shared}

-- ---- one class

pub record Choosing (g : List ℕ) (c left r : ℕ) : Type 0 where
  pub part : Sub (bit_or r left) c
  pub apart : (u : ℕ) → In u r → (v : ℕ) → bit (row g u) v + bit (bit_or r left) v ≤ 1
  pub some : r ≡ 0 → left ≡ c

pub choosing_none : {g : List ℕ} {c r : ℕ} → r ≡ 0 → Choosing g c c r
choosing_none {c = c} {r = r} z =
    record {
      part = λ u. omega (arith, bit-bit_or r c u, none_out z u);
      apart = λ u i. absurd (omega (arith, i, none_out z u));
      some = λ e. refl;
    }

pub choosing_all : {g : List ℕ} {c left r : ℕ} → left ≡ 0 → Choosing g c left r → Class g c r
choosing_all {c = c} {left = left} {r = r} z k =
    record {
      part = λ u. omega (arith, k.part u, bit-bit_or r left u);
      apart = λ u i v. omega (arith, k.apart u i v, bit-bit_or r left v);
      some = λ e. sym (k.some e) ∙ z;
    }

-- a member of a k-plex misses what this has of the class
pub class_coloured : {g : List ℕ} {c r : ℕ} → Class g c r → (k s : ℕ) → Coloured g k s c k r
unfolding missing
class_coloured {g} {c} {r} h k s = record { part = h.part; most = λ t b p o. go t b p (dec_le (size (bit_and t r)) 0) }
  where
    go : (t : ℕ) → t < 2 ^ length g → Plex g k t → Dec (size (bit_and t r) ≤ 0) → size (bit_and t r) ≤ k
    go t b p (yes none) = omega arith
    go t b p (no more) =
        let first = some_member (bit_and t r) (omega arith) in
        let u = first.0 in
        let inside : In u t = omega (arith, bit-bit_and t r u, first.1, bit_le t u) in
        let chosen : In u r = omega (arith, bit-bit_and t r u, first.1, bit_le r u) in
        omega (
          arith,
          p u (in_below (length g) t u b inside) inside,
          size_mono (bit_and t r) (minus t (row g u)) (λ v.
              omega (arith, bit-bit_and t r v, bit-minus t (row g u) v, h.apart u chosen v, bit_le t v)),
        )

-- a member u of s misses of a k-plex that holds s what it misses of s, and what that has of the candidates m which u misses
pub member_coloured : {g : List ℕ} {k s c m : ℕ} (u : ℕ) → s < 2 ^ length g → ((v : ℕ) → In v c → bit s v ≡ 0) → In u s → m ≡ minus c (row g u)
    → Coloured g k s c (k - missing g s u) m
unfolding missing
member_coloured {g} {k} {s} {c} {m} u b apart i e =
    rw e (record {
      part = minus-sub c (row g u);
      most = λ t l p o.
          let inside : In u t = in_of_sub s t u o i in
          omega (arith, p u (in_below (length g) t u l inside) inside, two t o, ones-le 0 0 (pow_pos 0));
    })
  where
    two : (t : ℕ) → Sub s t → size (minus s (row g u)) + size (bit_and t (minus c (row g u))) ≤ size (minus t (row g u)) + size 0
    two t o =
        size_pair (minus s (row g u)) (bit_and t (minus c (row g u))) (minus t (row g u)) 0 (λ v. by_bit c v
        (λ j.
        omega (arith, apart v j, bit-minus s (row g u) v, bit-bit_and t (minus c (row g u)) v, bit-minus c (row g u) v, bit-minus t (row g u) v, bit_le c v))
        (λ n. omega (arith, o v, bit-minus s (row g u) v, bit-bit_and t (minus c (row g u)) v, bit-minus c (row g u) v, bit-minus t (row g u) v)))

-- and there are no more of them than there are
pub coloured_least : {g : List ℕ} {k s c n r : ℕ} → Coloured g k s c n r → Coloured g k s c (min (size r) n) r
coloured_least {r = r} h =
    record {
      part = h.part;
      most = λ t b p o. omega (arith, h.most t b p o, size_mono (bit_and t r) r (λ u. omega (arith, bit-bit_and t r u)));
    }

module _ {g : List ℕ} {c left r : ℕ} (h : Judgeable g c) (k : Choosing g c left r) where
  module _ {v : ℕ} (low : Lowest left v) where
    pub choosing_vertex : v < length g
    choosing_vertex = in_below (length g) c v h.inside.below (omega (arith, k.part v, bit-bit_or r left v, low.member, bit_le c v))

    -- v is chosen, and its neighbours are looked at no more
    module _ {r2 rest w left2 : ℕ} (ec : r2 ≡ with r v) (er : rest ≡ without left v) (ew : w ≡ row g v) (el : left2 ≡ minus rest w) where
      bit_next : (u : ℕ) → bit (bit_or r2 left2) u ≡ max (max (bit r u) (bit (2 ^ v) u)) (bit left u - bit (2 ^ v) u - bit (row g v) u)
      bit_next u = rw (ec, el, er, ew, bit-bit_or, bit_with, bit-minus, bit-minus)

      fewer : Sub (bit_or r2 left2) (bit_or r left)
      fewer u = omega (arith, bit_next u, bit-bit_or r left u, single_in left v u low.member)

      beside : (u : ℕ) → bit (row g v) u + bit (bit_or r2 left2) u ≤ 1
      beside u =
          by_bit r u
          (λ i.
          let lu = in_below (length g) c u h.inside.below (omega (arith, k.part u, bit-bit_or r left u, bit_le c u)) in
          omega (arith, k.apart u i v, bit-bit_or r left v, low.member, h.valid.mutually u v lu choosing_vertex, bit_le (bit_or r2 left2) u))
          (λ o. omega (arith, bit_next u, single_out (row g v) v u (h.valid.loopless v choosing_vertex), bit_le left u, bit_le (row g v) u))

      pub choosing_next : Choosing g c left2 r2
      choosing_next =
          record {
            part = sub_trans (bit_or r2 left2) (bit_or r left) c fewer k.part;
            apart = λ u i. by_bit r u (λ j y. omega (arith, k.apart u j y, fewer y))
                (λ o. subst (λ (z : ℕ). (y : ℕ) → bit (row g z) y + bit (bit_or r2 left2) y ≤ 1)
                (in_single v u (omega (arith, ap (λ (x : ℕ). bit x u) ec, bit_with r v u))) beside);
            some = λ z. absurd (omega (arith, none_out z v, ap (λ (x : ℕ). bit x v) ec, with_same r v));
          }

pub choosing_falls : {left v rest left2 : ℕ} (w : ℕ) → Lowest left v → rest ≡ without left v → left2 ≡ minus rest w → left2 < left
choosing_falls {rest = rest} w low er el = omega (arith, sub_number (minus rest w) rest (minus-sub rest w), walk_falls low er, el)

-- ---- one part after the other

pub coloured_size : (g : List ℕ) (k s c : ℕ) → Coloured g k s c (size c) c
coloured_size g k s c = record { part = sub_refl c; most = λ t b p o. size_mono (bit_and t c) c (λ u. omega (arith, bit-bit_and t c u)) }

-- what a k-plex has of two parts
shared : (t r m : ℕ) → size (bit_and t (bit_or r m)) ≤ size (bit_and t r) + size (bit_and t m)
shared t r m =
    omega (
      arith,
      size_or (bit_and t r) (bit_and t m),
      size_mono (bit_and t (bit_or r m)) (bit_or (bit_and t r) (bit_and t m)) (λ u.
          omega (arith, bit-bit_and t (bit_or r m) u, bit-bit_or r m u, bit-bit_or (bit_and t r) (bit_and t m) u, bit-bit_and t r u, bit-bit_and t m u)),
    )

pub coloured_none : {g : List ℕ} {k s c r : ℕ} → r ≡ 0 → Coloured g k s c 0 r
coloured_none {g} {k} {s} {c} {r} z =
    rw z (record {
      part = λ u. omega (arith, bit_none u);
      most = λ t b p o. omega (arith, (coloured_size g k s 0).most t b p o, ones-le 0 0 (pow_pos 0));
    })

pub coloured_more : {g : List ℕ} {k s c n i left r m p : ℕ} → Coloured g k s c n r → Sub left c → Coloured g k s left i m → p ≡ bit_or r m
    → Coloured g k s c (n + i) p
coloured_more {r = r} {m = m} h l d e =
    rw e (record {
      part = λ u. omega (arith, bit-bit_or r m u, h.part u, d.part u, l u);
      most = λ t b p o. omega (arith, h.most t b p o, d.most t b p o, shared t r m);
    })

pub part_judgeable : {g : List ℕ} {c : ℕ} (left : ℕ) → Sub left c → Judgeable g c → Judgeable g left
part_judgeable {g} {c} left l ok =
    record {
      inside = record { some = ok.inside.some; most = ok.inside.most; below = sub_below (length g) left c l ok.inside.below };
      valid = ok.valid;
    }

pub sharing_judgeable : {g : List ℕ} {k q s c : ℕ} → Sharing g k q s c → Judgeable g c
sharing_judgeable h =
    record { inside = record { some = h.sized.some; most = h.sized.most; below = h.fine.candidates }; valid = h.valid }

-- what is left falls, since a class has some
pub class_falls : {g : List ℕ} {c r left2 : ℕ} → Class g c r → 0 < c → left2 ≡ minus c r → size left2 < size c
class_falls {c = c} {r = r} h l e =
    let some = positive_size r (positive_of r (λ z. omega (arith, l, h.some z))) in
    rw e (omega (arith, size-minus c r, some, size_mono r (bit_and c r) (λ u. omega (arith, bit-bit_and c r u, h.part u))))

-- ---- classes that are counted, at slack 1

pub record Colouring (g : List ℕ) (c n left r : ℕ) : Type 0 where
  pub coloured : Coloured g 1 0 c n r
  pub part : Sub left c

pub colouring_none : {g : List ℕ} {c r : ℕ} → r ≡ 0 → Colouring g c 0 c r
colouring_none {c = c} z = record { coloured = coloured_none z; part = sub_refl c }

module _ {g : List ℕ} {c n left r : ℕ} (h : Colouring g c n left r) where
  pub colouring_next : {m r2 left2 : ℕ} → Class g left m → r2 ≡ bit_or r m → left2 ≡ minus left m → Colouring g c (n + 1) left2 r2
  colouring_next {m} d er el =
      record {
        coloured = coloured_more h.coloured h.part (class_coloured d 1 0) er;
        part = rw el (sub_trans (minus left m) left c (minus-sub left m) h.part);
      }

  -- in fewer classes than are allowed
  pub colouring_some : {m : ℕ} → n ≤ m → Coloured g 1 0 c m r
  colouring_some l = record { part = h.coloured.part; most = λ t b p o. omega (arith, h.coloured.most t b p o) }

-- ---- what a k-plex that holds s has of c

pub shared_none : {g : List ℕ} {k s c : ℕ} → Shared g k s c 0 c
shared_none {c = c} = record { coloured = coloured_none (sym (minus_self c)); part = sub_refl c }

module _ {g : List ℕ} {k s c n left : ℕ} (h : Shared g k s c n left) where
  -- one part more, of which it has at most i
  pub shared_next : {m i left2 : ℕ} → Coloured g k s left i m → left2 ≡ minus left m → Shared g k s c (n + i) left2
  shared_next {m} {i} {left2} d e =
      record {
        coloured = coloured_more h.coloured h.part d (ext (minus c left2) (bit_or (minus c left) m) (λ u. omega (
          arith,
          bit-minus c left2 u,
          ap (λ (x : ℕ). bit x u) e,
          bit-minus left m u,
          bit-bit_or (minus c left) m u,
          bit-minus c left u,
          d.part u,
          h.part u,
          bit_le c u,
        )));
        part = rw e (sub_trans (minus left m) left c (minus-sub left m) h.part);
      }

  -- all that was left is the last part
  pub shared_rest : {i : ℕ} → Coloured g k s left i left → Coloured g k s c (n + i) c
  shared_rest d =
      coloured_more h.coloured h.part d
      (ext c (bit_or (minus c left) left) (λ u. omega (arith, bit-bit_or (minus c left) left u, bit-minus c left u, h.part u, bit_le c u)))

  -- nothing is left
  pub shared_all : left ≡ 0 → Coloured g k s c n c
  shared_all z =
      let same : minus c left ≡ c = ap (minus c) z ∙ minus_none c in
      subst (λ (x : ℕ). Coloured g k s c n x) same h.coloured

-- what holds of every k-plex holds of those with s
pub coloured_any : {g : List ℕ} {k c n r : ℕ} → Coloured g k 0 c n r → (s : ℕ) → Coloured g k s c n r
coloured_any h s = record { part = h.part; most = λ t b p o. h.most t b p (λ u. omega (arith, bit_none u)) }
