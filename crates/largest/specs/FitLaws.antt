-- Laws of the start of the search: the candidates are narrowed by each vertex that joins, as in the search, and where a forced vertex is none of them any
-- more, no listed plex holds all forced ones.
use Rattle.std.specs.Prelude.{ℕ, ◌^◌, ◌<◌, ◌≡◌, refl, List, length}
use Rattle.std.proofs.Common.{arith, pow_pos}
use Rattle.sets.specs.Set.{bit, In, with, without}
use Rattle.sets.specs.Words.{Lowest}
use Rattle.sets.specs.BitLaws.{ext, bit_le, bit-bit_or, bit-minus}
use Rattle.sets.specs.PointLaws.{bit_none, bit_with, single_in, none_out}
use Rattle.sets.specs.SubsetLaws.{sub_refl, sub_trans, sub_with, sub_number}
use Rattle.sets.specs.WalkLaws.{without_less}
use Rattle.judging.specs.Request.{Request, request}
use Rattle.search.specs.Found.{Near}
use Rattle.search.specs.FoundLaws.{with_found}
use Rattle.search.specs.Start.{Candidates}
use Rattle.search.specs.StartLaws.{start_compatible}
use Rattle.search.specs.Trim.{Beside}
use Rattle.search.specs.Sift.{Siftable, Counted}
use Rattle.search.specs.SiftLaws.{counted_none}
use Rattle.search.specs.Ready.{Settled, Ready, Split}
use Rattle.search.specs.ReadyLaws.{ready_siftable, with_ready}
use Rattle.largest.specs.Largest.{Holding}
use Rattle.largest.specs.Fit.{Forced, Fitted, Joining, Growing}

-- v joins s
pub join_ready : {g t : List ℕ} {ask : Request} {s c v r j : ℕ} → Ready g t ask s c → In v c → Beside g ask s c v r → j ≡ with s v → Ready g t ask j r
join_ready {g} {t} {ask} {s} {c} {v} {r} h i b e =
    let split : Split g t ask s c v r (without c v) = record { ready = h; member = i; beside = b; others = refl } in
    with_ready split e

-- what is left of the candidates is less than they are, as a number
pub join_falls : {g : List ℕ} {ask : Request} {s c v r : ℕ} → In v c → Beside g ask s c v r → r < c
join_falls {c = c} {v = v} {r = r} i b = omega (arith, sub_number r (without c v) b.kept.part, without_less c v i)

-- what is left of the candidates is sifted; no vertex is silent here, so that all of it counts
module _ {g t : List ℕ} {k q s c v d : ℕ} (h : Ready g t (request k q 0) s c)
    (left : (ask : Request) → ask.slack ≡ k → Near g ask t → Beside g ask s c v d) where
  pub join_beside : Beside g (request k q 0) s c v d
  join_beside = left (request k q 0) refl h.settled.near

  pub join_siftable : In v c → Siftable g k q s c v d d
  join_siftable i = ready_siftable h v i (omega (arith, h.settled.floor)) join_beside (sub_refl d)

  pub join_sifted : {r : ℕ} → ((ask : Request) → ask.slack ≡ k → Counted ask q (with s v) d d → Beside g ask s c v d → Beside g ask s c v r)
      → Beside g (request k q 0) s c v r
  join_sifted kept = kept (request k q 0) refl (counted_none k q (with s v) d) join_beside

-- ---- the forced vertices join

pub joining_none : {g t : List ℕ} {ask : Request} {f s all : ℕ} → Settled g t ask → Candidates g ask all → s ≡ 0 → Joining g t ask f s all f
joining_none {f = f} {s = s} {all = all} h d e =
    record {
      ready = record { settled = h; fine = start_compatible e d h.slack.0 };
      parts = λ u. omega (arith, none_out e u);
      found = λ x l p.
          record { lower = λ u. omega (arith, none_out e u); upper = λ u. omega (arith, bit-bit_or s all u, d.holds x l u); listed = l };
    }

module _ {g t : List ℕ} {ask : Request} {f s c left : ℕ} (h : Joining g t ask f s c left) where
  pub joining_next : {v r j l : ℕ} → Lowest left v → In v c → Beside g ask s c v r → j ≡ with s v → l ≡ without left v → Joining g t ask f j r l
  joining_next {v} {r} {j} {l} low i b ej el =
      rw (ej, el) (record {
        ready = join_ready h.ready i b refl;
        parts = λ u. omega (arith, h.parts u, bit_with s v u, bit-minus left (2 ^ v) u, single_in left v u low.member, bit_le f u);
        found = λ x p q. with_found i b (h.found x p q) (omega (arith, q v, h.parts v, low.member, bit_le x v));
      })

  -- nothing listed holds f where the vertex v of it is no candidate any more
  pub joining_out : {v r : ℕ} → Forced g ask.slack f → Lowest left v → bit c v ≡ 0 → r ≡ 0 → Fitted g ask f r
  joining_out {v} ok low out e =
      rw e (record {
        fine =
            record {
              below = ok.below;
              candidates = pow_pos (length g);
              apart = λ u i. absurd (omega (arith, bit_none u));
              plexed = ok.plexed;
              joined = λ u i. absurd (omega (arith, bit_none u));
            };
        found = λ x p q.
            let inside = (h.found x p q).upper v in
            absurd (omega (arith, inside, bit-bit_or s c v, q v, h.parts v, low.member, bit_le f v));
      })

  pub joining_all : left ≡ 0 → Fitted g ask f c
  joining_all z =
      let same : f ≡ s = ext f s (λ u. omega (arith, h.parts u, none_out z u)) in
      rw same (record { fine = h.ready.fine; found = λ x p q. h.found x p (rw same q) })

-- ---- a plex grows

module _ {g t : List ℕ} {ask : Request} {f s c : ℕ} (h : Growing g t ask f s c) where
  pub growing_next : {v r j : ℕ} → In v c → Beside g ask s c v r → j ≡ with s v → Growing g t ask f j r
  growing_next {v} i b e = record { ready = join_ready h.ready i b e; holds = rw e (sub_trans f s (with s v) h.holds (sub_with s v)) }

  pub growing_holds : Holding g ask.slack f s
  growing_holds = record { below = h.ready.fine.below; lower = h.holds; plexed = h.ready.fine.plexed }
