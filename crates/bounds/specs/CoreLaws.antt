-- Laws of the core, of the whole graph and within a set: it is dense, it holds every dense set, and nothing else is both; large plexes lie in it.
use Rattle.std.specs.Prelude.{◌≡◌, ℕ, ◌+◌, ◌-◌, ◌^◌, ◌<◌, ◌≤◌, Bool, ◌&&◌, T, List, length, nat_le}
use Rattle.std.proofs.Common.{le_trans, arith, leb→le, le→leb}
use Rattle.sets.specs.Ranges.{range, any}
use Rattle.sets.specs.Set.{bit, has, In, Sub, size, subset, full, set_of, with}
use Rattle.sets.specs.RangeLaws.{mem_range, range_mem, any_elim, any_intro, and_left, and_right, both}
use Rattle.sets.specs.SubsetLaws.{sub_antisym, sub_of_in, in_of_sub, in_below, has_in, in_has, subset-sub, sub-subset, with_sub}
use Rattle.sets.specs.MemberLaws.{set_of_in, set_of_holds, set_of_below, all_members, members_all}
use Rattle.sets.specs.WordLaws.{sub-full}
use Rattle.judging.specs.Graph.{degree, Valid}
use Rattle.judging.specs.Plex.{Plex}
use Rattle.judging.specs.GraphLaws.{degree-missing, degree_mono, missing_mono, missing_with}
use Rattle.bounds.specs.Core.{dense, Dense, core, core_within}

-- ---- the test and the statement

pub dense_holds : (g : List ℕ) (m s : ℕ) → T (dense g m s) → Dense g m s
unfolding dense
dense_holds g m s t v l e = leb→le m (degree g s v) (all_members (λ (u : ℕ). nat_le m (degree g s u)) (length g) s t v l e)

pub dense_test : (g : List ℕ) (m s : ℕ) → Dense g m s → T (dense g m s)
unfolding dense
dense_test g m s h = members_all (λ (u : ℕ). nat_le m (degree g s u)) (length g) s (λ v l e. le→leb m (degree g s v) (h v l e))

-- ---- the vertices of all sets that pass a test: they hold each such set, and are dense where each such set is

module _ (n : ℕ) (p : ℕ → Bool) where
  passes_with : ℕ → ℕ → Bool
  passes_with v s = has s v && p s

  in_some : ℕ → Bool
  in_some v = any (passes_with v) (range (2 ^ n))

  united : ℕ
  united = set_of n in_some

  united_below : united < 2 ^ n
  unfolding united
  united_below = set_of_below in_some n

  united_complete : (s : ℕ) → s < 2 ^ n → T (p s) → Sub s united
  unfolding united in_some passes_with
  united_complete s b t =
      sub_of_in s united (λ v e.
      set_of_in in_some n v (in_below n s v b e)
      (any_intro (passes_with v) (range (2 ^ n)) s (mem_range (2 ^ n) s b) (both (has s v) (p s) (in_has s v e) t)))

  united_from : (v : ℕ) → In v united → (s : ℕ) × (s < 2 ^ n) × In v s × T (p s)
  unfolding united in_some passes_with
  united_from v e =
      let q = any_elim (passes_with v) (range (2 ^ n)) (set_of_holds in_some n v e).1 in
      let s = q.0 in
      (s, range_mem (2 ^ n) s q.1, has_in s v (and_left (has s v) (p s) q.2), and_right (has s v) (p s) q.2)

united_dense : (g : List ℕ) (m : ℕ) (p : ℕ → Bool) → ((s : ℕ) → T (p s) → Dense g m s) → Dense g m (united (length g) p)
united_dense g m p h v l e =
    let n = length g in
    let q = united_from n p v e in
    le_trans (h q.0 q.3 v l q.2) (degree_mono g q.0 (united n p) v (united_complete n p q.0 q.1 q.3))

-- ---- the core is the largest dense set

module _ (g : List ℕ) (m : ℕ) where
  pub core_below : core g m < 2 ^ length g
  unfolding core united in_some passes_with
  core_below = united_below (length g) (dense g m)

  -- it holds every dense set
  pub core_complete : (s : ℕ) → s < 2 ^ length g → Dense g m s → Sub s (core g m)
  unfolding core united in_some passes_with
  core_complete s b d = united_complete (length g) (dense g m) s b (dense_test g m s d)

  -- and is one
  pub core-dense : Dense g m (core g m)
  unfolding core united in_some passes_with
  core-dense = united_dense g m (dense g m) (dense_holds g m)

  -- nothing else is both
  pub core_unique : (c : ℕ) → c < 2 ^ length g → Dense g m c → ((s : ℕ) → s < 2 ^ length g → Dense g m s → Sub s c) → c ≡ core g m
  core_unique c b d h = sub_antisym c (core g m) (core_complete c b d) (h (core g m) core_below core-dense)

-- ---- the core within t is the largest dense set within t

module _ (g : List ℕ) (m t : ℕ) where
  dense_in : ℕ → Bool
  dense_in s = subset s t && dense g m s

  pub core_within_below : core_within g m t < 2 ^ length g
  unfolding core_within united in_some passes_with dense_in
  core_within_below = united_below (length g) dense_in

  pub core_within-sub : Sub (core_within g m t) t
  unfolding core_within united in_some passes_with dense_in
  core_within-sub =
      sub_of_in (core_within g m t) t (λ v e.
      let q = united_from (length g) dense_in v e in
      in_of_sub q.0 t v (subset-sub q.0 t (and_left (subset q.0 t) (dense g m q.0) q.3)) q.2)

  pub core_within_complete : (s : ℕ) → s < 2 ^ length g → Sub s t → Dense g m s → Sub s (core_within g m t)
  unfolding core_within united in_some passes_with dense_in
  core_within_complete s b h d =
      united_complete (length g) dense_in s b (both (subset s t) (dense g m s) (sub-subset s t h) (dense_test g m s d))

  pub core_within-dense : Dense g m (core_within g m t)
  unfolding core_within united in_some passes_with dense_in
  core_within-dense = united_dense g m dense_in (λ s q. dense_holds g m s (and_right (subset s t) (dense g m s) q))

  pub core_within_unique : (c : ℕ) → c < 2 ^ length g → Sub c t → Dense g m c
      → ((s : ℕ) → s < 2 ^ length g → Sub s t → Dense g m s → Sub s c) → c ≡ core_within g m t
  core_within_unique c b u d h =
      sub_antisym c (core_within g m t) (core_within_complete c b u d) (h (core_within g m t) core_within_below core_within-sub core_within-dense)

-- within all vertices it is the core
pub core_within-full : (g : List ℕ) (m : ℕ) → core_within g m (full (length g)) ≡ core g m
core_within-full g m =
    let all = full (length g) in
    core_unique g m (core_within g m all) (core_within_below g m all) (core_within-dense g m all) (λ s b.
    core_within_complete g m all s b (sub-full (length g) s b))

-- ---- large plexes

-- a member of a plex of at least q members is adjacent to q - k of them
plex-dense : (g : List ℕ) (k q s : ℕ) → Plex g k s → q ≤ size s → Dense g (q - k) s
plex-dense g k q s p l v lv e = omega (arith, p v lv e, degree-missing g s v)

-- every plex of at least q members lies in the core of q - k
pub plex-core : (g : List ℕ) (k q s : ℕ) → s < 2 ^ length g → Plex g k s → q ≤ size s → Sub s (core g (q - k))
plex-core g k q s b p l = core_complete g (q - k) s b (plex-dense g k q s p l)

pub plex-core_within : (g : List ℕ) (k q s t : ℕ) → s < 2 ^ length g → Plex g k s → Sub s t → q ≤ size s → Sub s (core_within g (q - k) t)
plex-core_within g k q s t b p h l = core_within_complete g (q - k) t s b h (plex-dense g k q s p l)

-- a member v of a plex x that stands beside a part p of x: v itself is one of the k of x that it misses, so it misses fewer of p, and where p has at least q
-- members it is adjacent to more than q - k of them
pub plex_beside : (g : List ℕ) (k q x p v : ℕ) → Valid g → v < length g → Plex g k x → Sub p x → In v x → bit p v ≡ 0 → q ≤ size p
    → q + 1 ≤ degree g p v + k
plex_beside g k q x p v ok l plex part i out many =
    omega (arith, plex v l i, missing_mono g (with p v) x v (with_sub p v x part i), missing_with g p v v out, ok.loopless v l, degree-missing g p v)
