-- What a listed plex has at the floor. Its silent members outside a part s of it may be left out: what is left is a plex, and has as many members more than the
-- floor asks for as s has silent ones.
--
--   counting ask s x   x without its silent members outside s
use Rattle.std.specs.Prelude.{◌≡◌, ℕ, ◌+◌, ◌-◌, ◌^◌, ◌≤◌, max, List}
use Rattle.std.proofs.Common.{arith, ap, pow_pos}
use Rattle.std.specs.Int.Bits.{bit_and, bit_or}
use Rattle.std.proofs.lemmas.Nat.{ones-le}
use Rattle.sets.specs.Set.{bit, Sub, size, with, minus}
use Rattle.sets.specs.BitLaws.{ext, bit_le, bit-bit_and, bit-bit_or, bit-minus}
use Rattle.sets.specs.PointLaws.{bit_none, bit_with, single_in, single_out, by_bit, none_by}
use Rattle.sets.specs.SizeLaws.{size_pair, size_same, size_mono, size-minus, size_one, size_with}
use Rattle.judging.specs.Request.{Request, request, recorded}
use Rattle.judging.specs.Plex.{Plex}
use Rattle.judging.specs.PlexLaws.{hereditary}
use Rattle.lists.specs.Listing.{Listed}

abbrev pub counting : Request → ℕ → ℕ → ℕ
counting ask s x = bit_or s (recorded ask x)

module _ (ask : Request) (s x : ℕ) (part : Sub s x) where
  pub counting-sub : Sub (counting ask s x) x
  counting-sub v = omega (arith, bit-bit_or s (recorded ask x) v, bit-minus x ask.silent v, part v)

  pub counting-size : size (counting ask s x) ≡ size (recorded ask x) + size (bit_and s ask.silent)
  counting-size =
      omega (
        arith,
        ones-le 0 0 (pow_pos 0),
        size_same (counting ask s x) 0 (recorded ask x) (bit_and s ask.silent) (λ v.
            omega (arith, bit_none v, bit-bit_or s (recorded ask x) v, bit-minus x ask.silent v, bit-bit_and s ask.silent v, part v, bit_le s v, bit_le x v)),
      )

  module _ {g : List ℕ} (h : Listed g ask x) where
    pub counting-plex : Plex g ask.slack (counting ask s x)
    counting-plex = hereditary g ask.slack (counting ask s x) x counting-sub h.top.0

    pub counting_large : ask.floor + size (bit_and s ask.silent) ≤ size (counting ask s x)
    counting_large = omega (arith, counting-size, h.large)

-- inside a larger set
pub counting_mono : (ask : Request) (s x a : ℕ) → Sub x a → Sub (counting ask s x) (counting ask s a)
counting_mono ask s x a h v =
    omega (arith, bit-bit_or s (recorded ask x) v, bit-bit_or s (recorded ask a) v, bit-minus x ask.silent v, bit-minus a ask.silent v, h v)

-- one vertex more
pub recorded_with : (ask : Request) (s v : ℕ) → bit s v ≡ 0 → size (recorded ask (with s v)) ≡ size (recorded ask s) + (1 - bit ask.silent v)
recorded_with ask s v o = by_bit z v
    (λ i. omega (arith, ap size (ext (minus (with s v) z) (minus s z) (λ u. omega (arith, digits u, bit-minus s z u, single_in z v u i, bit_le z u)))))
    (λ n. omega (
      arith,
      size_with (minus s z) v (omega (arith, bit-minus s z v)),
      ap size (ext (minus (with s v) z) (with (minus s z) v) (λ u.
          omega (arith, digits u, bit-minus s z u, bit_with (minus s z) v u, single_out z v u n, bit_le (2 ^ v) u, bit_le s u))),
    ))
  where
    z : ℕ
    z = ask.silent

    digits : (u : ℕ) → bit (minus (with s v) z) u ≡ max (bit s u) (bit (2 ^ v) u) - bit z u
    digits u = rw (bit-minus, bit_with)

-- and of the silent ones
pub silent_with : (s v z : ℕ) → bit s v ≡ 0 → size (bit_and (with s v) z) ≡ size (bit_and s z) + bit z v
silent_with s v z o =
    omega (arith, size-minus (with s v) z, size-minus s z, size_with s v o, recorded_with (request 0 0 z) s v o, bit_le z v)

-- of two sets together there are no more than of each by itself
pub recorded_or : (ask : Request) (s c x : ℕ) → Sub x (bit_or s c) → size (recorded ask x) ≤ size (recorded ask s) + size (recorded ask c)
recorded_or ask s c x h =
    omega (
      arith,
      ones-le 0 0 (pow_pos 0),
      size_pair (recorded ask x) 0 (recorded ask s) (recorded ask c) (λ u.
          omega (arith, bit_none u, h u, bit-bit_or s c u, bit-minus x ask.silent u, bit-minus s ask.silent u, bit-minus c ask.silent u)),
    )

pub recorded_mono : (z a b : ℕ) → Sub a b → size (minus a z) ≤ size (minus b z)
recorded_mono z a b h = size_mono (minus a z) (minus b z) (λ u. omega (arith, bit-minus a z u, bit-minus b z u, h u))

pub recorded_single : (z v : ℕ) → size (minus (2 ^ v) z) ≡ 1 - bit z v
recorded_single z v = omega (arith, size-minus (2 ^ v) z, size_one v, shared)
  where
    shared : size (bit_and (2 ^ v) z) ≡ bit z v
    shared = by_bit z v
        (λ i. omega (arith, size_one v, ap size (ext (bit_and (2 ^ v) z) (2 ^ v) (λ u. omega (arith, bit-bit_and (2 ^ v) z u, single_in z v u i)))))
        (λ o. omega (arith, ones-le 0 0 (pow_pos 0), ap size (none_by (bit_and (2 ^ v) z) (λ u. omega (arith, bit-bit_and (2 ^ v) z u, single_out z v u o)))))
