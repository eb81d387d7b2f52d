-- Laws of a clique s with candidates c: it grows by a common neighbour, and a sweep over candidates that cover the others adds what is to be found.
--
--   Joined g s m v j w   j is s with v, and w are the vertices of m that v is adjacent to
use Rattle.std.specs.Prelude.{◌≡◌, ℕ, ◌^◌, ◌<◌, List, length, bit_and, bit_or}
use Rattle.std.proofs.Common.{arith, ap, ◌∙◌}
use Rattle.sets.specs.Set.{In, Sub, with, minus}
use Rattle.sets.specs.Graph.{row}
use Rattle.sets.specs.BitLaws.{bit_le, bit-minus}
use Rattle.sets.specs.PointLaws.{parts_whole}
use Rattle.sets.specs.SubsetLaws.{sub_number, in_of_sub, with_below}
use Rattle.judging.specs.Request.{Request}
use Rattle.lists.specs.Placing.{Adds}
use Rattle.lists.specs.PlacingLaws.{adds_same}
use Rattle.search.specs.Found.{found, Found, AddsFound}
use Rattle.search.specs.Choice.{Pickable}
use Rattle.search.specs.Cliques.{Covering, touched, Taking, Sweeping}
use Rattle.search.specs.CliqueLaws.{common_vertex, common_clique, common_with, pivot_hits, touched_all}

pub record Joined (g : List ℕ) (s m v j w : ℕ) : Type 0 where
  pub clique : j ≡ with s v
  pub beside : w ≡ bit_and m (row g v)

pub joined : {g : List ℕ} {s m v j r w : ℕ} → j ≡ with s v → r ≡ row g v → w ≡ bit_and m r → Joined g s m v j w
joined {m = m} e er ew = record { clique = e; beside = ew ∙ ap (bit_and m) er }

module _ {g : List ℕ} {s c m : ℕ} (h : Taking g s c m) where
  -- with a candidate there is a common neighbour to be the pivot
  pub take_pickable : 0 < c → Pickable g m
  take_pickable l = record { some = omega (arith, sub_number c m h.part); below = h.common.below }

  pub take_near : (v : ℕ) → In v c → In v m
  take_near v i = in_of_sub c m v h.part i

  pub take_vertex : (v : ℕ) → In v c → v < length g
  take_vertex v i = common_vertex h.valid h.common v (take_near v i)

  -- other candidates
  pub take_part : {d : ℕ} → Sub d m → Taking g s d m
  take_part e = record { most = h.most; valid = h.valid; below = h.below; clique = h.clique; common = h.common; part = e }

  -- the candidates under another name
  pub take_same : {d : ℕ} → c ≡ d → Taking g s d m
  take_same e = rw e at h

  pub take_adds : (ask : Request) {d : ℕ} {before after : List ℕ} {count o : ℕ} → c ≡ d → AddsFound g ask s d before count after o
      → AddsFound g ask s c before count after o
  take_adds ask e x = rw e x

  -- a common neighbour joins
  pub take_with : {v j w d : ℕ} → In v m → Joined g s m v j w → Sub d w → Taking g j d w
  take_with {v} {j} {w} {d} i e part =
      rw e.clique (record {
        most = h.most;
        valid = h.valid;
        below = with_below (length g) s v h.below (common_vertex h.valid h.common v i);
        clique = common_clique h.valid h.common v i h.below h.clique;
        common = rw e.beside (common_with h.common v);
        part = part;
      })

  -- the candidates d are to be taken, and the others of c wait
  module _ {d b : ℕ} (cover : Covering g c m d) (e : b ≡ minus c d) where
    pub cover_candidates : bit_or b d ≡ c
    cover_candidates = rw e (parts_whole c d cover.part)

    pub cover_sweeping : Sweeping g s b m d
    cover_sweeping = record { taking = rw cover_candidates h; apart = rw e (λ u. omega (arith, bit-minus c d u, bit_le c u, bit_le d u)) }

    module _ (ask : Request) (one : ask.slack ≡ 1) where
      pub cover_hits : (x : ℕ) → Found g ask s c x → 0 < bit_and x d
      cover_hits = pivot_hits ask h.valid (omega (arith, one)) h.common cover

      pub cover_adds : {before after : List ℕ} {count o : ℕ} → Adds (2 ^ length g) (touched g ask s b d) before count after o
          → AddsFound g ask s c before count after o
      cover_adds {before} {after} {count} {o} x =
          adds_same (2 ^ length g) (touched g ask s (minus c d) d) (found g ask s c) before after count o (touched_all d cover.part cover_hits) (rw e at x)
