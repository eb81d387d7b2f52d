-- Laws of a search for one k-plex: where a branch is cut nothing is there, at a leaf all of it is one, and where the branch without a vertex gave nothing,
-- the branch with it decides.
use Rattle.std.specs.Prelude.{ℕ, ◌^◌, ◌≤◌, ◌<◌, ◌≡◌, List, Option, None, Some}
use Rattle.std.proofs.Common.{arith}
use Rattle.std.specs.Int.Bits.{bit_or}
use Rattle.sets.specs.Set.{bit, In, Sub, size, with, without, minus}
use Rattle.sets.specs.Graph.{row}
use Rattle.sets.specs.declared.Set.{Set}
use Rattle.sets.specs.BitLaws.{bit-bit_or}
use Rattle.sets.specs.PointLaws.{bit_with, single_in, by_bit}
use Rattle.sets.specs.SubsetLaws.{sub_trans, sub_refl, sub_with, minus-sub}
use Rattle.judging.specs.Request.{Request}
use Rattle.judging.specs.Graph.{missing}
use Rattle.judging.specs.Plex.{Plex}
use Rattle.search.specs.Found.{Empty, Short}
use Rattle.search.specs.FoundLaws.{short_empty, stuck_empty, compatible_part, without_found, with_found}
use Rattle.search.specs.Trim.{Beside}
use Rattle.search.specs.Ready.{Ready, Whole}
use Rattle.search.specs.ReadyLaws.{whole_inside}
use Rattle.largest.specs.Sought.{Within, Sought}

-- ---- what is given back

-- what holds s and v, a candidate, holds s
pub within_with : {g : List ℕ} {k q s d r : ℕ} (c v : ℕ) → In v c → Sub d c → Within g k q (with s v) d r → Within g k q s c r
within_with {s = s} {d = d} {r = r} c v i p w =
    record {
      below = w.below;
      plexed = w.plexed;
      large = w.large;
      lower = sub_trans s (with s v) r (sub_with s v) w.lower;
      upper = λ u. omega (arith, w.upper u, bit-bit_or (with s v) d u, bit_with s v u, bit-bit_or s c u, p u, single_in c v u i);
    }

-- and what has fewer candidates has these
pub within_part : {g : List ℕ} {k q s d r : ℕ} (c : ℕ) → Sub d c → Within g k q s d r → Within g k q s c r
within_part {s = s} {d = d} c p w =
    record {
      below = w.below;
      plexed = w.plexed;
      large = w.large;
      lower = w.lower;
      upper = λ u. omega (arith, w.upper u, bit-bit_or s d u, bit-bit_or s c u, p u);
    }

-- ---- s and c together

module _ {g t : List ℕ} {ask : Request} {s c a : ℕ} (h : Whole g t ask s c a) where
  pub sought_short : Short g ask.slack ask.floor s a → Sought g ask s c None
  sought_short l = short_empty h.whole l

  pub sought_stuck : (w : ℕ) → In w a → ask.slack < missing g a w → (bit c w ≡ 0) × (minus c (row g w) ≡ 0) → Sought g ask s c None
  sought_stuck w i many o = stuck_empty h.whole w i o.0 many o.1

  pub sought_leaf : Plex g ask.slack a → ask.floor ≤ size a → Within g ask.slack ask.floor s c a
  sought_leaf p l =
      record {
        below = (whole_inside h).below;
        plexed = p;
        large = l;
        lower = λ u. rw h.whole (omega (arith, bit-bit_or s c u));
        upper = rw h.whole (sub_refl (bit_or s c));
      }

-- ---- with and without a vertex

module _ {g : List ℕ} {s c rest : ℕ} (v : ℕ) (e : rest ≡ without c v) where
  pub without_ready : {t : List ℕ} {ask : Request} → Ready g t ask s c → Ready g t ask s rest
  without_ready h = rw e (record { settled = h.settled; fine = compatible_part (without c v) (minus-sub c (2 ^ v)) h.fine })

  pub sought_without : {k q r : ℕ} → Within g k q s rest r → Within g k q s c r
  sought_without w = within_part c (minus-sub c (2 ^ v)) (rw e at w)

  pub sought_branches : {ask : Request} {d j : ℕ} (r : Option Set) → Empty g ask s rest → In v c → Beside g ask s c v d → j ≡ with s v
      → Sought g ask j d r → Sought g ask s c r
  sought_branches {d} (Some x) none i b f y = within_with c v i (sub_trans d (without c v) c b.kept.part (minus-sub c (2 ^ v))) (rw f at y)
  sought_branches {ask} {d} None none i b f y = λ x found.
      let first : Empty g ask s (without c v) = rw e at none in
      let second : Empty g ask (with s v) d = rw f at y in
      by_bit x v (λ j. second x (with_found i b found j)) (λ n. first x (without_found v found n))
