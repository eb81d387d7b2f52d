-- Laws of looseness: a set is a k-plex exactly where its looseness is at most k, so it is the least such slack, and what is known of plexes bounds it.
use Rattle.std.specs.Prelude.{ℕ, ◌^◌, ◌≤◌, ◌<◌, ◌≡◌, List, length}
use Rattle.std.proofs.Common.{arith, ap}
use Rattle.sets.specs.Ranges.{greatest}
use Rattle.sets.specs.Set.{Sub, size, members}
use Rattle.sets.specs.ListLaws.{greatest_le, greatest_ge}
use Rattle.sets.specs.PointLaws.{by_bit, none_by}
use Rattle.sets.specs.SubsetLaws.{in_below}
use Rattle.sets.specs.MemberLaws.{mem_members, members_mem, members_none}
use Rattle.judging.specs.Graph.{missing, Valid}
use Rattle.judging.specs.Plex.{looseness, Plex}
use Rattle.judging.specs.GraphLaws.{missing_self}
use Rattle.judging.specs.PlexLaws.{hereditary, small_plex}

-- ---- the least slack

module _ (g : List ℕ) (k s : ℕ) where
  pub plex_loose : Plex g k s → looseness g s ≤ k
  unfolding looseness
  plex_loose p = greatest_le (missing g s) (members (length g) s) k (λ v m. let q = members_mem (length g) s v m in p v q.0 q.1)

  pub loose_plex : looseness g s ≤ k → Plex g k s
  unfolding looseness
  loose_plex h v l i = omega (arith, greatest_ge (missing g s) (members (length g) s) v (mem_members (length g) s v l i))

module _ (g : List ℕ) (s : ℕ) where
  pub looseness_holds : Plex g (looseness g s) s
  looseness_holds = loose_plex g (looseness g s) s (omega arith)

  pub looseness-size : looseness g s ≤ size s
  looseness-size = plex_loose g (size s) s (small_plex g (size s) s (omega arith))

  pub looseness_mono : (t : ℕ) → Sub s t → looseness g s ≤ looseness g t
  looseness_mono t h = plex_loose g (looseness g t) s (hereditary g (looseness g t) s t h (loose_plex g (looseness g t) t (omega arith)))

-- ---- 0 exactly for no members

pub looseness_none : (g : List ℕ) → looseness g 0 ≡ 0
unfolding looseness greatest
looseness_none g = ap (greatest (missing g 0)) (members_none (length g))

pub none_loose : {g : List ℕ} (s : ℕ) → Valid g → s < 2 ^ length g → looseness g s ≡ 0 → s ≡ 0
none_loose {g} s ok b e =
    none_by s (λ v.
    by_bit s v (λ i. let l = in_below (length g) s v b i in absurd (omega (arith, missing_self s v ok l i, looseness_holds g s v l i))) (λ o. o))
