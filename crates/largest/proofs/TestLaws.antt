-- What the answer b of the test `has` says: v is a member of s, or it is none.
use Rattle.std.specs.Prelude.{ℕ, ◌≡◌, Bool, true, false}
use Rattle.std.proofs.Common.{sym, ◌∙◌}
use Rattle.sets.specs.Set.{bit, has, In}
use Rattle.sets.specs.PointLaws.{by_bit}
use Rattle.sets.specs.RangeLaws.{true_holds, false_fails}
use Rattle.sets.specs.SubsetLaws.{has_in, in_has}

module _ {b : Bool} (s v : ℕ) (e : b ≡ has s v) where
  pub test_in : b ≡ true → In v s
  test_in t = has_in s v (true_holds (has s v) (sym e ∙ t))

  pub test_out : b ≡ false → bit s v ≡ 0
  test_out n = by_bit s v (λ i. absurd (false_fails (has s v) (sym e ∙ n) (in_has s v i))) (λ o. o)
