-- Laws of the order of masks: the highest vertex in which two sets differ decides it.
use Rattle.std.specs.Prelude.{ℕ, zero, suc, ◌/◌, ◌<◌, ◌≡◌}
use Rattle.std.proofs.Common.{suc-le-suc, zero-lt-suc, arith, sym, ◌∙◌}
use Rattle.sets.specs.Set.{bit, In}
use Rattle.sets.specs.BitLaws.{bit_zero, bit_suc, ext}

pub order_highest : (a b h : ℕ) → bit a h ≡ 0 → In h b → ((u : ℕ) → h < u → bit a u ≡ bit b u) → a < b
order_highest a b zero out i same =
    let half : a / 2 ≡ b / 2 = ext (a / 2) (b / 2) (λ u. sym (bit_suc a u) ∙ same (suc u) (zero-lt-suc u) ∙ bit_suc b u) in
    omega (arith, half, bit_zero a, bit_zero b, out, i)
order_highest a b (suc h) out i same =
    let half : a / 2 < b / 2 =
    order_highest (a / 2) (b / 2) h (sym (bit_suc a h) ∙ out) (sym (bit_suc b h) ∙ i)
    (λ u l. sym (bit_suc a u) ∙ same (suc u) (suc-le-suc l) ∙ bit_suc b u) in
    omega (arith, half)
