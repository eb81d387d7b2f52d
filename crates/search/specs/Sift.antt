-- Sifting: once v has joined s, a candidate stays only if it is close to v among s, v and the candidates that count.
--
--   Siftable g k q s c v d t   what the sifting of d relies on: d are candidates of c, apart from v, t some of them, and the sums of the test are small
--   Counted ask q j d t        the members of d that are not silent are in t, and q is at most the floor with as many more as j has silent members
use Rattle.std.specs.Prelude.{ℕ, ◌+◌, ◌*◌, ◌≤◌, List, length, bit_and}
use Rattle.sets.specs.Set.{Sub, size, without}
use Rattle.sets.specs.Words.{width}
use Rattle.judging.specs.Request.{Request, recorded}
use Rattle.search.specs.Trim.{Trimmable}

pub record Siftable (g : List ℕ) (k q s c v d t : ℕ) : Type 0 where
  pub trimmable : Trimmable g s c v
  pub some : 1 ≤ length g
  pub slack : k ≤ width
  pub floor : q ≤ 2 * width
  pub part : Sub d (without c v)
  pub counts : Sub t d

pub record Counted (ask : Request) (q j d t : ℕ) : Type 0 where
  pub floor : q ≤ ask.floor + size (bit_and j ask.silent)
  pub part : Sub (recorded ask d) t
