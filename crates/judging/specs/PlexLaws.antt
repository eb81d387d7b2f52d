-- Laws of k-plexes: the statement behind the test; parts of a plex and small sets are plexes; a plex is maximal where no single vertex can be added.
use Rattle.std.specs.Prelude.{ℕ, ◌+◌, ◌^◌, ◌≤◌, ◌<◌, ◌≡◌, List, leb}
use Rattle.std.proofs.Common.{le_trans, arith, sym, ap, leb→le, le→leb}
use Rattle.std.proofs.Math.Decide.{dec_le}
use Rattle.std.proofs.Math.Dec.{T}
use Rattle.std.proofs.Math.ListN.{length}
use Rattle.sets.specs.Set.{bit, Sub, size, with}
use Rattle.sets.specs.SubsetLaws.{sub_with, with_sub, with_same, with_below, in_of_sub, in_below}
use Rattle.sets.specs.SizeLaws.{missing_member, sub-size_eq}
use Rattle.sets.specs.MemberLaws.{all_members, members_all}
use Rattle.judging.specs.Graph.{degree}
use Rattle.judging.specs.Plex.{plex, Plex, Maximal}
use Rattle.judging.specs.GraphLaws.{degree-missing, missing_mono}

pub plex_holds : (g : List ℕ) (k s : ℕ) → T (plex g k s) → Plex g k s
unfolding plex
plex_holds g k s t v l e =
    omega (arith, degree-missing g s v, leb→le (size s) (degree g s v + k) (all_members (λ (u : ℕ). leb (size s) (degree g s u + k)) (length g) s t v l e))

pub plex_test : (g : List ℕ) (k s : ℕ) → Plex g k s → T (plex g k s)
unfolding plex
plex_test g k s h =
    members_all (λ (u : ℕ). leb (size s) (degree g s u + k)) (length g) s (λ v l e.
    le→leb (size s) (degree g s v + k) (omega (arith, degree-missing g s v, h v l e)))

-- a part of a plex is a plex
pub hereditary : (g : List ℕ) (k s t : ℕ) → Sub s t → Plex g k t → Plex g k s
hereditary g k s t h p v l e = le_trans (missing_mono g s t v h) (p v l (in_of_sub s t v h e))

-- a set of at most k members is a plex
pub small_plex : (g : List ℕ) (k s : ℕ) → size s ≤ k → Plex g k s
small_plex g k s h v l e = omega (arith, degree-missing g s v)

-- ---- maximal plexes

-- a plex is maximal where no single vertex can be added
pub maximal_by_one : (g : List ℕ) (k s : ℕ) → Plex g k s
    → ((v : ℕ) → v < length g → bit s v ≡ 0 → Plex g k (with s v) → ⊥) → Maximal g k s
maximal_by_one g k s p f = (p, λ t l h q. sym (sub-size_eq s t h (go t l h q (dec_le (size t) (size s)))))
  where
    go : (t : ℕ) → t < 2 ^ length g → Sub s t → Plex g k t → Dec (size t ≤ size s) → size t ≤ size s
    go t l h q (yes d) = d
    go t l h q (no nd) =
        let w = missing_member s t (omega arith) in
        absurd (f w.0 (in_below (length g) t w.0 l w.2) w.1 (hereditary g k (with s w.0) t (with_sub s w.0 t h w.2) q))

-- and only there
pub one_by_maximal : (g : List ℕ) (k s : ℕ) → s < 2 ^ length g → Maximal g k s
    → (v : ℕ) → v < length g → bit s v ≡ 0 → Plex g k (with s v) → ⊥
one_by_maximal g k s b m v l e p =
    omega (arith, with_same s v, e, ap (λ (x : ℕ). bit x v) (m.1 (with s v) (with_below (length g) s v b l) (sub_with s v) p))
