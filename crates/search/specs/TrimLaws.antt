-- Laws of trimming: a candidate that no listed plex holds beside the set s may go, and what stays is compatible with s.
--
--   costly g k s w   w misses k or more of s
use Rattle.std.specs.Prelude.{◌≡◌, ℕ, ◌^◌, ◌<◌, ◌≤◌, Bool, List, length, ◌≢◌, nat_le}
use Rattle.std.proofs.Common.{le_trans, arith, ap, leb→le, le→leb}
use Rattle.std.proofs.Math.Decide.{dec_lt}
use Rattle.std.specs.Prelude.{refl}
use Rattle.std.specs.Int.Bits.{bit_and, bit_or}
use Rattle.sets.specs.Set.{bit, In, Sub, with, without, minus}
use Rattle.sets.specs.Graph.{row}
use Rattle.sets.specs.BitLaws.{bit_le, bit-bit_and, bit-bit_or, bit-minus}
use Rattle.sets.specs.PointLaws.{bit_with, single_in, single_out, by_bit}
use Rattle.sets.specs.SubsetLaws.{sub_trans, sub_below, with_sub, with_same, with_below, in_of_sub, in_below, without_same, minus-sub}
use Rattle.sets.specs.SizeLaws.{and_below, minus_below}
use Rattle.judging.specs.Request.{Request, request}
use Rattle.judging.specs.Graph.{missing, Valid}
use Rattle.judging.specs.GraphLaws.{missing_mono, missing_with}
use Rattle.judging.specs.NarrowLaws.{Narrowed, narrowed_none, narrowed_all}
use Rattle.search.specs.Found.{Found, Compatible, Near}
use Rattle.search.specs.Trim.{Blocked, Cheap, Trimmable, DropsBlocked, DropsMissing}
use Rattle.sets.specs.DropLaws.{Dropping, dropping_none, dropping_all}
use Rattle.search.specs.Trim.{Kept, Joinable, Beside}

-- ---- what is kept

module _ {g : List ℕ} {ask : Request} {s : ℕ} where
  -- nothing found is lost
  pub kept_found : {c r x : ℕ} → Kept g ask s c r → Found g ask s c x → Found g ask s r x
  kept_found {c} {r} {x} h f = record { lower = f.lower; upper = within; listed = f.listed }
    where
      within : Sub x (bit_or s r)
      within u =
          by_bit x u
          (λ i. by_bit c u (λ m. omega (arith, h.keeps x f u i m, bit-bit_or s r u)) (λ o. omega (arith, f.upper u, bit-bit_or s c u, bit-bit_or s r u)))
          (λ o. omega arith)

  pub kept_trans : {c d r : ℕ} → Kept g ask s c d → Kept g ask s d r → Kept g ask s c r
  kept_trans {c} {d} {r} a b =
      record { part = sub_trans r d c b.part a.part; keeps = λ x f u e m. b.keeps x (kept_found a f) u e (a.keeps x f u e m) }

  -- candidates outside the near row of a member may go
  pub kept_near : (t : List ℕ) (c v : ℕ) → v < length g → In v s → bit c v ≡ 0 → Near g ask t → Kept g ask s c (bit_and c (row t v))
  kept_near t c v l e out near =
      record {
        part = λ u. omega (arith, bit-bit_and c (row t v) u);
        keeps = λ x f u i m.
            let other : (u ≢ v) = λ z. omega (arith, m, out, ap (bit c) z) in
            omega (arith, bit-bit_and c (row t v) u, m, near v x l f.listed (in_of_sub s x v f.lower e) u i other);
      }

  -- a plex that holds s and w: a member of s that misses k or more of s is adjacent to w, and w misses fewer than k of s
  module _ {c x : ℕ} (f : Found g ask s c x) (w : ℕ) (e : In w x) (out : bit s w ≡ 0) where
    misses : (u : ℕ) → In u x → missing g (with s w) u ≤ ask.slack
    misses u i =
        let lu = in_below (length g) x u f.listed.below i in
        le_trans (missing_mono g (with s w) x u (with_sub s w x f.lower e)) (f.listed.top.0 u lu i)

    saturated_adjacent : (u : ℕ) → In u s → ask.slack ≤ missing g s u → In w (row g u)
    saturated_adjacent u i m = omega (arith, missing_with g s w u out, bit_le (row g u) w, misses u (in_of_sub s x u f.lower i))

    member_cheap : Valid g → missing g s w < ask.slack
    member_cheap ok = omega (arith, missing_with g s w w out, ok.loopless w (in_below (length g) x w f.listed.below e), misses w e)

-- ---- the two drops

abbrev pub costly : List ℕ → ℕ → ℕ → ℕ → Bool
costly g k s w = nat_le k (missing g s w)

module _ {g : List ℕ} {s c v : ℕ} (h : Trimmable g s c v) where
  -- the candidates are narrowed by the members that v is not adjacent to
  pub drops_blocked_none : {k : ℕ} → Narrowed g k s (minus s (row g v)) c (minus s (row g v)) c
  drops_blocked_none = narrowed_none (minus_below (length g) s (row g v) h.below)

  pub drops_blocked_all : {k left r : ℕ} → left ≡ 0 → Narrowed g k s (minus s (row g v)) c left r → DropsBlocked g k s v c r
  drops_blocked_all z w =
      record {
        kept = λ ask e.
            record {
              part = w.part;
              keeps = λ x f y i m.
                  w.stays y m (λ u j b.
                  saturated_adjacent f y i (h.apart y m) u (in_of_sub _ s u (minus-sub s (row g v)) j) (omega (arith, b, e)));
            };
        blocked = λ u i far m. narrowed_all z w u (omega (arith, bit-minus s (row g v) u)) m;
      }

  -- those candidates are dropped that v is not adjacent to and that miss too much
  pub drops_missing_none : (k : ℕ) → Dropping (length g) (costly g k s) c (minus c (row g v)) (minus c (row g v)) c
  drops_missing_none k = dropping_none (minus_below (length g) c (row g v) h.candidates)

  pub drops_missing_all : (k : ℕ) {left r : ℕ} → left ≡ 0 → Dropping (length g) (costly g k s) c (minus c (row g v)) left r → DropsMissing g k s v c r
  drops_missing_all k {r = r} z w =
      record {
        kept = λ ask e.
            record {
              part = w.part;
              keeps = λ x f u i m.
                  w.stays u m (λ t. omega (arith, e, leb→le k (missing g s u) t, member_cheap f u i (h.apart u m) h.valid));
            };
        cheap = λ y i far. few y i far (dec_lt (missing g s y) k);
      }
    where
      few : (y : ℕ) → In y r → bit (row g v) y ≡ 0 → Dec (missing g s y < k) → missing g s y < k
      few y i far (yes less) = less
      few y i far (no many) =
          let walked : In y (minus c (row g v)) = omega (arith, bit-minus c (row g v) y, w.part y, bit_le c y) in
          absurd (omega (arith, i, dropping_all z w y walked (le→leb k (missing g s y) (omega arith))))

  -- one after the other
  pub still_trimmable : {k d : ℕ} → DropsBlocked g k s v c d → Trimmable g s d v
  still_trimmable {k} {d} a =
      let part = (a.kept (request k 0 0) refl).part in
      record {
        most = h.most;
        valid = h.valid;
        below = h.below;
        candidates = sub_below (length g) d c part h.candidates;
        apart = λ w i. h.apart w (in_of_sub d c w part i);
        vertex = h.vertex;
      }

-- ---- a candidate joins

-- what is apart from s is apart from s and v too, v aside
apart_with : (s c v : ℕ) → ((w : ℕ) → In w c → bit s w ≡ 0) → (w : ℕ) → In w (without c v) → bit (with s v) w ≡ 0
apart_with s c v apart w i =
    let inc : In w c = omega (arith, bit-minus c (2 ^ v) w, bit_le c w) in
    omega (arith, bit_with s v w, apart w inc, bit-minus c (2 ^ v) w)

module _ {g t : List ℕ} {s c v : ℕ} (h : Joinable g t s c v) where
  -- v joins s, and the candidates are met with its near row
  module _ {j o n d : ℕ} (e : j ≡ with s v) (f : o ≡ without c v) (y : n ≡ row t v) (x : d ≡ bit_and o n) where
    pub near_trimmable : Trimmable g j d v
    near_trimmable =
        rw (e, x, f, y) (record {
          most = h.trimmable.most;
          valid = h.trimmable.valid;
          below = with_below (length g) s v h.trimmable.below h.trimmable.vertex;
          candidates = and_below (length g) (without c v) (row t v) (minus_below (length g) c (2 ^ v) h.trimmable.candidates);
          apart = λ w i. apart_with s c v h.trimmable.apart w (omega (arith, bit-bit_and (without c v) (row t v) w, bit_le (without c v) w));
          vertex = h.trimmable.vertex;
        })

    pub beside_all : {k m r : ℕ} → DropsBlocked g k j v d m → DropsMissing g k j v m r
        → (ask : Request) → ask.slack ≡ k → Near g ask t → Beside g ask s c v r
    beside_all {k} {m} {r} unblocked cheapened ask z near =
        record {
          kept = kept_trans first (kept_trans (a.kept ask z) (b.kept ask z));
          blocked = λ u i far q. sub_trans r m (row g u) (b.kept ask z).part (a.blocked u i far (omega (arith, q, z)));
          cheap = λ w i far. omega (arith, z, b.cheap w i far);
        }
      where
        first : Kept g ask (with s v) (without c v) d
        first = rw (x, f, y) (kept_near t (without c v) v h.trimmable.vertex (with_same s v) (without_same c v) near)

        a : DropsBlocked g k (with s v) v d m
        a = rw e at unblocked

        b : DropsMissing g k (with s v) v m r
        b = rw e at cheapened

-- ---- what is left is compatible with the set that v joined

module _ (g : List ℕ) (k s c v r : ℕ) (ok : Valid g) (fine : Compatible g k s c) (e : In v c) where
  lv : v < length g
  lv = in_below (length g) c v fine.candidates e

  module _ (p : Sub r (without c v)) (b : Blocked g k (with s v) v r) (d : Cheap g k (with s v) v r) where
    apart_left : (w : ℕ) → In w r → bit (with s v) w ≡ 0
    apart_left w i = apart_with s c v fine.apart w (in_of_sub r (without c v) w p i)

    -- w, one of what is left, and u, a member of s and v, or w itself
    module _ (w u : ℕ) (i : In w r) (lu : u < length g) (eu : In u (with (with s v) w)) where
      inc : In w c
      inc = omega (arith, p w, bit-minus c (2 ^ v) w, bit_le c w)

      lw : w < length g
      lw = in_below (length g) c w fine.candidates inc

      -- where v is adjacent to u, u misses no more of s and v than of s, to which w could be added
      few_adjacent : bit (row g u) w ≡ 0 → In u (row g v) → missing g (with s v) u < k
      few_adjacent far q =
          let inside : In u (with s w) =
          omega (arith, bit_with (with s v) w u, bit_with s v u, bit_with s w u, single_out (row g v) v u (ok.loopless v lv)) in
          let full = missing_with g s w u (fine.apart w inc) in
          omega (arith, missing_with g s v u (fine.apart v e), ok.mutually v u lv lu, full, fine.joined w inc u lu inside)

      -- where it is not, u has room for w because it is not saturated, or costs less than k as what is left does
      few_far : bit (row g u) w ≡ 0 → bit (row g v) u ≡ 0 → missing g (with s v) u < k
      few_far far q =
          by_bit (with s v) u (λ inside. room inside (dec_lt (missing g (with s v) u) k))
          (λ outside. d u (omega (arith, single_in r w u i, bit_with (with s v) w u, bit_le r u)) q)
        where
          room : In u (with s v) → Dec (missing g (with s v) u < k) → missing g (with s v) u < k
          room inside (yes less) = less
          room inside (no many) = absurd (omega (arith, b u inside q (omega arith) w, i, far))

      still_plex : missing g (with (with s v) w) u ≤ k
      still_plex =
          let more = missing_with g (with s v) w u (apart_left w i) in
          by_bit (row g u) w (λ near. omega (arith, more, fine.joined v e u lu (inside near)))
          (λ far. omega (arith, more, by_bit (row g v) u (few_adjacent far) (few_far far)))
        where
          inside : In w (row g u) → In u (with s v)
          inside near = omega (arith, bit_with (with s v) w u, ok.mutually u w lu lw, single_out (row g w) w u (ok.loopless w lw), bit_le (with s v) u)

    pub trimmed_compatible : Compatible g k (with s v) r
    trimmed_compatible =
        record {
          below = with_below (length g) s v fine.below lv;
          candidates = sub_below (length g) r (without c v) p (minus_below (length g) c (2 ^ v) fine.candidates);
          apart = apart_left;
          plexed = fine.joined v e;
          joined = λ w i u lu eu. still_plex w u i lu eu;
        }
