-- Laws of a set at one vertex u, for `omega`: with the digits of each set in hand (bit-bit_and, bit-bit_or, bit-minus, and those below) a statement about
-- sets is one about numbers of at most 1. A vertex v enters as the set `2 ^ v`, whose digit at u is 1 exactly where u is v: no case for "the same
-- vertex or another" is needed. The digits of `full n` are in WordLaws (bit-full, bit-full_out, sub-full); of `set_of n p`, in MemberLaws (bit-set_of).
use Rattle.std.specs.Prelude.{ℕ, ◌+◌, ◌-◌, ◌^◌, ◌≤◌, max, ◌≡◌}
use Rattle.std.proofs.Common.{arith, ap, pow_pos}
use Rattle.std.proofs.Math.Decide.{ℕ_discrete}
use Rattle.std.specs.Int.Bits.{bit_or}
use Rattle.sets.specs.Set.{bit, In, Sub, with, minus, without}
use Rattle.sets.specs.BitLaws.{bit_le, bit-bit_or, bit-minus, bit_high, bit-pow_other, ext}

-- a member or not
pub by_bit : {P : Type 0} (s v : ℕ) → (In v s → P) → (bit s v ≡ 0 → P) → P
by_bit {P} s v f h = go (ℕ_discrete (bit s v) 1)
  where
    go : Dec (bit s v ≡ 1) → P
    go (yes e) = f e
    go (no ne) = h (omega (arith, bit_le s v))

-- ---- the digits of a set

pub bit_none : (u : ℕ) → bit 0 u ≡ 0
bit_none u = bit_high 0 u (pow_pos u)

pub bit_with : (s v u : ℕ) → bit (with s v) u ≡ max (bit s u) (bit (2 ^ v) u)
unfolding with
bit_with s v u = bit-bit_or s (2 ^ v) u

pub bit_without : (s v u : ℕ) → bit (without s v) u ≡ bit s u - bit (2 ^ v) u
bit_without s v u = bit-minus s (2 ^ v) u

-- ---- the set of v alone

-- it has no other member
pub in_single : (v u : ℕ) → In u (2 ^ v) → v ≡ u
in_single v u i = go (ℕ_discrete v u)
  where
    go : Dec (v ≡ u) → v ≡ u
    go (yes e) = e
    go (no ne) = absurd (omega (arith, bit-pow_other v u ne))

-- v is a member of t, or is none
pub single_in : (t v u : ℕ) → In v t → bit (2 ^ v) u ≤ bit t u
single_in t v u i = by_bit (2 ^ v) u (λ e. omega (arith, ap (bit t) (in_single v u e))) (λ o. omega arith)

pub single_out : (t v u : ℕ) → bit t v ≡ 0 → bit t u + bit (2 ^ v) u ≤ 1
single_out t v u o = by_bit (2 ^ v) u (λ e. omega (arith, ap (bit t) (in_single v u e))) (λ z. omega (arith, bit_le t u))

-- ---- sets that their digits show to be equal

pub none_out : {s : ℕ} → s ≡ 0 → (u : ℕ) → bit s u ≡ 0
none_out e u = omega (arith, ap (λ (y : ℕ). bit y u) e, bit_none u)

pub none_by : (s : ℕ) → ((u : ℕ) → bit s u ≡ 0) → s ≡ 0
none_by s f = ext s 0 (λ u. omega (arith, f u, bit_none u))

pub minus_self : (s : ℕ) → 0 ≡ minus s s
minus_self s = ext 0 (minus s s) (λ u. omega (arith, bit-minus s s u, bit_none u))

pub parts_whole : (c d : ℕ) → Sub d c → bit_or (minus c d) d ≡ c
parts_whole c d part = ext (bit_or (minus c d) d) c (λ u. omega (arith, bit-bit_or (minus c d) d u, bit-minus c d u, part u, bit_le c u))
