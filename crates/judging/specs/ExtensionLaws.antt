-- A vertex that no saturated member of a set blocks can be added to every plex inside the set; so a plex is maximal exactly if it is not extendable.
use Rattle.std.specs.Prelude.{ℕ, ◌^◌, ◌≤◌, ◌<◌, ◌≡◌, Bool, true, false, not, ◌&&◌, ◌||◌, ◌⊎◌, List}
use Rattle.std.proofs.Common.{arith, subst, inl, inr, lt→ltb}
use Rattle.std.proofs.Math.Decide.{dec_lt}
use Rattle.std.proofs.Math.Dec.{T, ltb, ltb→lt}
use Rattle.std.proofs.Math.ListN.{length}
use Rattle.sets.specs.Ranges.{all}
use Rattle.sets.specs.Set.{bit, has, In, Sub, with, members}
use Rattle.sets.specs.Graph.{row}
use Rattle.sets.specs.RangeLaws.{and_left, and_right, both, or_cases, or_left, or_right, is_true, is_false}
use Rattle.sets.specs.BitLaws.{bit_le}
use Rattle.sets.specs.PointLaws.{bit_with, in_single, by_bit}
use Rattle.sets.specs.SubsetLaws.{with_same, sub_with, in_of_sub, in_below, not_has, not_in}
use Rattle.sets.specs.Words.{Lowest}
use Rattle.sets.specs.WalkLaws.{Walked, walk_all, walk_member}
use Rattle.sets.specs.MemberLaws.{set_of_below, set_of_in, set_of_holds, all_members, members_all, any_members, members_any}
use Rattle.judging.specs.Graph.{adjacent, missing, Valid}
use Rattle.judging.specs.Plex.{Plex, Maximal, unblocked, extendable}
use Rattle.judging.specs.GraphLaws.{missing_mono, missing_with, adjacent_in, in_adjacent}
use Rattle.judging.specs.PlexLaws.{maximal_by_one, one_by_maximal}

module _ (g : List ℕ) (k : ℕ) where
  unblocks : ℕ → ℕ → ℕ → Bool
  unblocks s x v = ltb (missing g s v) k || adjacent g v x

  stays_out : ℕ → ℕ → Bool
  stays_out s x = not (has s x) && all (unblocks s x) (members (length g) s)

  -- x is no member of s, and a member that misses k or more of s is adjacent to x
  abbrev pub Unblocked : ℕ → ℕ → Type 0
  Unblocked s x = (bit s x ≡ 0) × ((v : ℕ) → v < length g → In v s → k ≤ missing g s v → In x (row g v))

  pub unblocked_below : (s : ℕ) → unblocked g k s < 2 ^ length g
  unfolding unblocked unblocks stays_out
  unblocked_below s = set_of_below (stays_out s) (length g)

  pub unblocked_holds : (s x : ℕ) → In x (unblocked g k s) → Unblocked s x
  unfolding unblocked unblocks stays_out
  unblocked_holds s x e =
      let t = (set_of_holds (stays_out s) (length g) x e).1 in (
        not_in s x (and_left (not (has s x)) (all (unblocks s x) (members (length g) s)) t),
        λ v l h m.
            pick v m (or_cases (ltb (missing g s v) k) (adjacent g v x)
            (all_members (unblocks s x) (length g) s (and_right (not (has s x)) (all (unblocks s x) (members (length g) s)) t) v l h)),
      )
    where
      pick : (v : ℕ) → k ≤ missing g s v → T (ltb (missing g s v) k) ⊎ T (adjacent g v x) → In x (row g v)
      pick v m (inl q) = absurd (omega (arith, ltb→lt (missing g s v) k q))
      pick v m (inr q) = adjacent_in g v x q

  pub unblocked_test : (s x : ℕ) → x < length g → Unblocked s x → In x (unblocked g k s)
  unfolding unblocked unblocks stays_out
  unblocked_test s x l u =
      set_of_in (stays_out s) (length g) x l (both (not (has s x)) (all (unblocks s x) (members (length g) s)) (not_has s x u.0)
      (members_all (unblocks s x) (length g) s (λ v lv h. pick v lv h (dec_lt (missing g s v) k))))
    where
      pick : (v : ℕ) → v < length g → In v s → Dec (missing g s v < k) → T (unblocks s x v)
      pick v lv h (yes q) = or_left (ltb (missing g s v) k) (adjacent g v x) (lt→ltb (missing g s v) k q)
      pick v lv h (no nq) = or_right (ltb (missing g s v) k) (adjacent g v x) (in_adjacent g v x (u.1 v lv h (omega arith)))

  -- such an x that misses fewer than k of a can be added to every plex inside a
  pub unblocked_adds : (a t x : ℕ) → Valid g → x < length g → Unblocked a x → missing g a x < k → Sub t a → Plex g k t → Plex g k (with t x)
  unblocked_adds a t x ok lx u few h p v l e =
      by_bit t v (λ i. room i (dec_lt (missing g a v) k))
      (λ o. subst (λ (y : ℕ). missing g (with t x) y ≤ k) (in_single x v (omega (arith, bit_with t x v, e, o))) own)
    where
      out : bit t x ≡ 0
      out = omega (arith, h x, u.0)

      own : missing g (with t x) x ≤ k
      own = omega (arith, missing_with g t x x out, missing_mono g t a x h, ok.loopless x lx)

      room : In v t → Dec (missing g a v < k) → missing g (with t x) v ≤ k
      room i (yes d) = omega (arith, missing_with g t x v out, missing_mono g t a v h)
      room i (no nd) = omega (arith, missing_with g t x v out, u.1 v l (in_of_sub t a v h i) (omega arith), p v l i)

  -- so no plex inside an extendable set is maximal
  pub extendable_none : (a t : ℕ) → Valid g → t < 2 ^ length g → T (extendable g k a) → Sub t a → Maximal g k t → ⊥
  unfolding extendable
  extendable_none a t ok b s h m =
      let r = any_members (λ (x : ℕ). ltb (missing g a x) k) (length g) (unblocked g k a) s in
      let u = unblocked_holds a r.0 r.2 in
      one_by_maximal g k t b m r.0 r.1 (omega (arith, h r.0, u.0))
      (unblocked_adds a t r.0 ok r.1 u (ltb→lt (missing g a r.0) k r.3) h m.0)

  -- and a plex that is not extendable is maximal
  pub unextendable_maximal : (s : ℕ) → Valid g → Plex g k s → (T (extendable g k s) → ⊥) → Maximal g k s
  unfolding extendable
  unextendable_maximal s ok p f =
      maximal_by_one g k s p (λ x l e q.
      f (members_any (λ (y : ℕ). ltb (missing g s y) k) (length g) (unblocked g k s) x l
      (unblocked_test s x l (e, λ v lv h m. near x e q v lv h m))
      (lt→ltb (missing g s x) k (omega (arith, missing_with g s x x e, ok.loopless x l, q x l (with_same s x))))))
    where
      near : (x : ℕ) → bit s x ≡ 0 → Plex g k (with s x) → (v : ℕ) → v < length g → In v s → k ≤ missing g s v → In x (row g v)
      near x e q v lv h m =
          omega (arith, missing_with g s x v e, bit_le (row g v) x, q v lv (in_of_sub s (with s x) v (sub_with s x) h))

-- ---- an extendable set, vertex by vertex

module _ (g : List ℕ) (k s : ℕ) {left : ℕ} (w : Walked (λ x. k ≤ missing g s x) (unblocked g k s) left) where
  pub extendable_by : {x : ℕ} → Lowest left x → missing g s x < k → true ≡ extendable g k s
  unfolding extendable
  extendable_by {x} l m =
      let i = walk_member (unblocked g k s) w.part l in
      is_true (extendable g k s)
      (members_any (λ (y : ℕ). ltb (missing g s y) k) (length g) (unblocked g k s) x
      (in_below (length g) (unblocked g k s) x (unblocked_below g k s) i) i (lt→ltb (missing g s x) k m))

  pub extendable_by_none : left ≡ 0 → false ≡ extendable g k s
  unfolding extendable
  extendable_by_none z =
      is_false (extendable g k s) (λ t.
      let r = any_members (λ (y : ℕ). ltb (missing g s y) k) (length g) (unblocked g k s) t in
      omega (arith, walk_all z w r.0 r.2, ltb→lt (missing g s r.0) k r.3))
