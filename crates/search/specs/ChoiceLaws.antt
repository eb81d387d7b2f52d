-- Laws of the choice of the vertex to branch on.
--
--   Choosing s left b   b is a member of s, and the members of left are still to be looked at
use Rattle.std.specs.Prelude.{◌≡◌, ℕ, ◌^◌, true, false, List}
use Rattle.std.proofs.Common.{arith, pow_pos}
use Rattle.sets.specs.Set.{bit, has, In, Sub, minus, without}
use Rattle.sets.specs.Graph.{row}
use Rattle.sets.specs.Words.{Lowest}
use Rattle.sets.specs.RangeLaws.{true_holds, false_fails}
use Rattle.sets.specs.BitLaws.{bit-minus}
use Rattle.sets.specs.PointLaws.{single_in, by_bit}
use Rattle.sets.specs.SubsetLaws.{has_in, in_has, minus-sub}
use Rattle.sets.specs.WalkLaws.{walk_member}
use Rattle.search.specs.Choice.{Among}

module _ {g : List ℕ} {c w r : ℕ} where
  pub among_itself : r ≡ 2 ^ w → has c w ≡ true → Among g c w r
  among_itself e h =
      rw e (record { part = λ u. single_in c w u (has_in c w (true_holds (has c w) h)); none = λ z. absurd (omega (arith, pow_pos w)) })

  pub among_far : r ≡ minus c (row g w) → has c w ≡ false → Among g c w r
  among_far e h =
      let out : bit c w ≡ 0 = by_bit c w (λ i. absurd (false_fails (has c w) h (in_has c w i))) (λ o. o) in
      rw e (record { part = minus-sub c (row g w); none = λ z. (out, z) })

pub record Choosing (s left b : ℕ) : Type 0 where
  pub member : In b s
  pub part : Sub left s

-- v is looked at
module _ {s left b v rest : ℕ} (h : Choosing s left b) (l : Lowest left v) (e : rest ≡ without left v) where
  rest_part : Sub rest s
  rest_part = rw e (λ u. omega (arith, bit-minus left (2 ^ v) u, h.part u))

  pub choosing_same : Choosing s rest b
  choosing_same = record { member = h.member; part = rest_part }

  pub choosing_more : Choosing s rest v
  choosing_more = record { member = walk_member s h.part l; part = rest_part }
