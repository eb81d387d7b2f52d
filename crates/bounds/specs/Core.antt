-- The core of a graph (document 01; 004, coreness) and of a part of it, and the passes that peel it out (document 02, card 4).
--
--   dense g m s        every member of s is adjacent to at least m members of s;  Dense g m s, as a statement
--   core g m           the largest such set: every vertex of any of them. It may be empty (document 01: the core, at m = q - k)
--   core_within g m t   the largest such set within t: every vertex of any that lies in t. With all vertices for t it is the core
--   look g m s v       a pass looks at v: it is taken out of s where it is adjacent to fewer than m members of s
--   pass_to g m s v     what is left of s when a pass has gone by the vertices below v, in rising order
--   pass g m s         what one pass leaves of s
--   leave i g m s      what i passes leave of s
--   passes g m s       how many passes there are from s on, up to the first that takes none, which counts
--   peeling g m        the core, and the passes from all vertices on
use Rattle.std.specs.Prelude.{ℕ, zero, suc, ◌^◌, ◌<◌, ◌≤◌, Bool, cond, ◌&&◌, leb, List, length, ◌==◌, nat_le}
use Rattle.sets.specs.Ranges.{range, all, any}
use Rattle.sets.specs.Set.{has, In, size, subset, without, full, members, set_of}
use Rattle.judging.specs.Graph.{degree}

unfoldable pub dense : List ℕ → ℕ → ℕ → Bool
dense g m s = all (λ v. leb m (degree g s v)) (members (length g) s)

abbrev pub Dense : List ℕ → ℕ → ℕ → Type 0
Dense g m s = (v : ℕ) → v < length g → In v s → m ≤ degree g s v

unfoldable pub core : List ℕ → ℕ → ℕ
core g m = set_of (length g) (λ v. any (λ s. has s v && dense g m s) (range (2 ^ length g)))

unfoldable pub core_within : List ℕ → ℕ → ℕ → ℕ
core_within g m t = set_of (length g) (λ v. any (λ s. has s v && (subset s t && dense g m s)) (range (2 ^ length g)))

-- ---- passes

unfoldable pub look : List ℕ → ℕ → ℕ → ℕ → ℕ
look g m s v = cond (nat_le m (degree g s v)) s (without s v)

unfoldable pub pass_to : List ℕ → ℕ → ℕ → ℕ → ℕ
pass_to g m s zero = s
pass_to g m s (suc v) = look g m (pass_to g m s v) v

unfoldable pub pass : List ℕ → ℕ → ℕ → ℕ
pass g m s = pass_to g m s (length g)

unfoldable pub leave : ℕ → List ℕ → ℕ → ℕ → ℕ
leave zero g m s = s
leave (suc i) g m s = leave i g m (pass g m s)

-- of at most n passes that take some: as each of them takes a member, n is the size of s
unfoldable pub passes_within : ℕ → List ℕ → ℕ → ℕ → ℕ
passes_within zero g m s = 1
passes_within (suc n) g m s = cond (pass g m s == s) 1 (suc (passes_within n g m (pass g m s)))

unfoldable pub passes : List ℕ → ℕ → ℕ → ℕ
passes g m s = passes_within (size s) g m s

pub record Peeling : Type 0 where
  pub core : ℕ
  pub passes : ℕ

unfoldable pub peeling : List ℕ → ℕ → Peeling
peeling g m = record { core = core g m; passes = passes g m (full (length g)) }
