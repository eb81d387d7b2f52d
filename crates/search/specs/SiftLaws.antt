-- Laws of sifting: a candidate that is not close to v in what is left is in no listed plex beside v, so that nothing found is lost.
use Rattle.std.specs.Prelude.{◌≡◌, ℕ, ◌+◌, ◌^◌, ◌<◌, ◌≢◌, List, length, bit_and}
use Rattle.std.proofs.Common.{arith, ap}
use Rattle.std.specs.Int.Bits.{bit_or}
use Rattle.std.proofs.lemmas.Nat.{or_lt}
use Rattle.sets.specs.Set.{bit, Sub, size, with, without}
use Rattle.sets.specs.BitLaws.{bit_le, bit-bit_or, bit-minus}
use Rattle.sets.specs.SubsetLaws.{sub_trans, sub_below, with_same, with_below, in_of_sub, without_same, minus-sub}
use Rattle.sets.specs.SizeLaws.{minus_below}
use Rattle.judging.specs.Request.{Request, request, recorded}
use Rattle.search.specs.Found.{Found}
use Rattle.search.specs.Trim.{Kept, Beside}
use Rattle.search.specs.TrimLaws.{kept_trans}
use Rattle.search.specs.NearRows.{pair_row, Pairable}
use Rattle.search.specs.NearRowsLaws.{pair_row_part, pair_row_in}
use Rattle.search.specs.Sift.{Siftable, Counted}

module _ {g : List ℕ} {k q s c v d t : ℕ} (h : Siftable g k q s c v d t) where
  pub sift_below : d < 2 ^ length g
  sift_below = sub_below (length g) d (without c v) h.part (minus_below (length g) c (2 ^ v) h.trimmable.candidates)

  joined_below : with s v < 2 ^ length g
  joined_below = with_below (length g) s v h.trimmable.below h.trimmable.vertex

  module _ {j a : ℕ} (y : j ≡ with s v) (e : a ≡ bit_or j t) where
    pub sift_pairable : Pairable g k q a
    sift_pairable =
        rw (e, y) (record {
          inside =
              record {
                some = h.some;
                most = h.trimmable.most;
                below = or_lt (length g) (with s v) t joined_below (sub_below (length g) t d h.counts sift_below);
              };
          slack = h.slack;
          floor = h.floor;
        })

    module _ {r : ℕ} (z : r ≡ pair_row g k q a d v) {ask : Request} (same : ask.slack ≡ k) (counted : Counted ask q (with s v) d t) where
      -- what is found has its members that are not silent among s, v and t
      counts : (x : ℕ) → Found g ask (with s v) d x → Sub (recorded ask x) a
      counts x f =
          rw (e, y) (λ u.
          omega (
            arith,
            f.upper u,
            bit-bit_or (with s v) d u,
            bit-bit_or (with s v) t u,
            bit-minus x ask.silent u,
            bit-minus d ask.silent u,
            counted.part u,
            bit_le (with s v) u,
          ))

      -- two members of a listed plex are close
      sift_kept : Kept g ask (with s v) d r
      sift_kept =
          rw z (record {
            part = pair_row_part g k q a d v;
            keeps = λ x f u i m.
                let out : bit d v ≡ 0 = omega (arith, h.part v, without_same c v) in
                let other : v ≢ u = λ w. omega (arith, m, out, ap (bit d) w) in
                rw (← same) (pair_row_in f.listed h.trimmable.valid (with s v) a q f.lower
                (rw (e, y) (λ w. omega (arith, bit-bit_or (with s v) t w))) (counts x f) counted.floor d v u
                (in_of_sub (with s v) x v f.lower (with_same s v)) i other m);
          })

      pub sift_beside : Beside g ask s c v d → Beside g ask s c v r
      sift_beside b =
          record {
            kept = kept_trans b.kept sift_kept;
            blocked = λ u i far m. sub_trans r d _ sift_kept.part (b.blocked u i far m);
            cheap = λ w i far. b.cheap w (in_of_sub r d w sift_kept.part i) far;
          }

-- beside silent vertices: t are the candidates that are not silent, and q is the floor with the silent ones of s and v
pub counted_all : (ask : Request) {j d t q : ℕ} → t ≡ recorded ask d → q ≡ ask.floor + size (bit_and j ask.silent) → Counted ask q j d t
counted_all ask e n = record { floor = omega (arith, n); part = λ u. omega (arith, ap (λ (x : ℕ). bit x u) e) }

-- where no vertex is silent all candidates count
pub counted_none : (k q j d : ℕ) → Counted (request k q 0) q j d d
counted_none k q j d = record { floor = omega arith; part = minus-sub d 0 }
