-- Laws of the member with the least support: one walk finds it, u is not adjacent to it, and it depends on the supports of the members alone.
--
--   NonNeighbour g s w u       w is a member of s that u is not adjacent to
--   spent sp w                 sp with one less at w
--   Agree g s sp tp            sp and tp have the same supports for the members of s
--   Choosing sp s best left    of the members of s those of left are still to come, and best has the least support of the others
use Rattle.std.specs.Prelude.{◌≡◌, ℕ, ◌-◌, ◌^◌, ◌<◌, ◌≤◌, Bool, true, false, cond, not, ◌&&◌, List, [], ◌∷◌, length, nat_le, slice_index, slice_set}
use Rattle.std.proofs.Common.{le_refl, arith, ap₂, ◌∙◌, subst, length-set, get_or-set_same, get_or-set_other, le-leb}
use Rattle.std.proofs.Math.Decide.{dec_le, ℕ_discrete}
use Rattle.std.proofs.Math.Path.{refl, sym, ap}
use mathlib.Core.List.Memᴰ
use Rattle.std.proofs.lemmas.Bool.{lt-leb}
use Rattle.sets.specs.Ranges.{range, keep}
use Rattle.sets.specs.Set.{bit, has, In, Sub, minus, without, members}
use Rattle.sets.specs.Words.{width, Lowest}
use Rattle.sets.specs.Graph.{row}
use Rattle.sets.specs.RangeLaws.{Mem, range_mem, keep_mem, and_left, and_right, both}
use Rattle.sets.specs.BitLaws.{bit_le, bit-minus, bit-pow_same, bit-pow_other}
use Rattle.sets.specs.SubsetLaws.{has_in, in_has, not_in, not_has, sub_trans, minus-sub, in_below, positive}
use Rattle.sets.specs.SizeLaws.{some_member, minus_below}
use Rattle.sets.specs.KeepLaws.{keep-keep}
use Rattle.sets.specs.MemberLaws.{members-keep, members_none, members_lowest, member_in, mem_members}
use Rattle.sets.specs.WalkLaws.{walk_below}
use Rattle.judging.specs.Graph.{adjacent, missing}
use Rattle.judging.specs.Setting.{Inside}
use Rattle.bounds.specs.Bound.{lesser, least, tightest}
use Rattle.bounds.specs.BoundSetting.{LeastMember}

-- ---- the lesser of two, and the least of a list

module _ (sp : List ℕ) where
  pub lesser_left : (a b : ℕ) → slice_index sp a ≤ slice_index sp b → lesser sp a b ≡ a
  unfolding lesser
  lesser_left a b h = simp (le-leb (slice_index sp a) (slice_index sp b) h)

  pub lesser_right : (a b : ℕ) → slice_index sp b < slice_index sp a → lesser sp a b ≡ b
  unfolding lesser
  lesser_right a b h = simp (lt-leb (slice_index sp a) (slice_index sp b) h)

  lesser_assoc : (a b c : ℕ) → lesser sp a (lesser sp b c) ≡ lesser sp (lesser sp a b) c
  lesser_assoc a b c = go (dec_le (slice_index sp a) (slice_index sp b)) (dec_le (slice_index sp b) (slice_index sp c))
    where
      go : Dec (slice_index sp a ≤ slice_index sp b) → Dec (slice_index sp b ≤ slice_index sp c) → lesser sp a (lesser sp b c) ≡ lesser sp (lesser sp a b) c
      go (yes p) (yes q) = rw (lesser_left b c q, lesser_left a b p, lesser_left a c (omega arith))
      go (yes p) (no nq) = rw (lesser_right b c (omega arith), lesser_left a b p)
      go (no np) (yes q) = rw (lesser_left b c q, lesser_right a b (omega arith), lesser_left b c q)
      go (no np) (no nq) = rw (lesser_right b c (omega arith), lesser_right a b (omega arith), lesser_right b c (omega arith), lesser_right a c (omega arith))

  lesser_mem : (a b : ℕ) (xs : List ℕ) → Mem a xs → Mem b xs → Mem (lesser sp a b) xs
  unfolding lesser
  lesser_mem a b xs ha hb = go (nat_le (slice_index sp a) (slice_index sp b))
    where
      go : (t : Bool) → Mem (cond t a b) xs
      go true = ha
      go false = hb

  least_mem : (d : ℕ) (xs : List ℕ) → Mem (least sp d xs) (d ∷ xs)
  unfolding least
  least_mem d [] = Memᴰ.head refl
  least_mem d (x ∷ xs) = Memᴰ.tail (lesser_mem x (least sp x xs) (x ∷ xs) (Memᴰ.head refl) (least_mem x xs))

  -- of a list that has an element the least is one of them
  least_some : (d : ℕ) {x : ℕ} {xs : List ℕ} → Mem x xs → Mem (least sp d xs) xs
  unfolding least
  least_some d {xs = []} m = absurd (Memᴰ.not-nil m)
  least_some d {xs = y ∷ ys} m = lesser_mem y (least sp y ys) (y ∷ ys) (Memᴰ.head refl) (least_mem y ys)

  -- the first two of a list make way for the lesser of them
  least_step : (d a b : ℕ) (xs : List ℕ) → least sp d (a ∷ b ∷ xs) ≡ least sp d (lesser sp a b ∷ xs)
  unfolding least
  least_step d a b [] =
      ap (lesser sp a) (lesser_left b b (le_refl (slice_index sp b))) ∙ sym (lesser_left (lesser sp a b) (lesser sp a b) (le_refl (slice_index sp (lesser sp a b))))
  least_step d a b (x ∷ xs) = lesser_assoc a b (lesser sp x (least sp x xs))

  least_one : (d a : ℕ) → least sp d (a ∷ []) ≡ a
  unfolding least
  least_one d a = lesser_left a a (le_refl (slice_index sp a))

-- ---- the least support, by one walk

pub record Choosing (sp : List ℕ) (s best left : ℕ) : Type 0 where
  pub fits : best < width
  pub part : Sub left s
  pub same : (n : ℕ) → s < 2 ^ n → least sp 0 (best ∷ members n left) ≡ least sp 0 (members n s)

pub choosing_none : (sp : List ℕ) {s v left : ℕ} → Lowest s v → left ≡ without s v → Choosing sp s v left
choosing_none sp {s} {v} here e =
    record {
      fits = here.fits;
      part = rw e (minus-sub s (2 ^ v));
      same = λ n l.
          ap (λ (x : ℕ). least sp 0 (v ∷ members n x)) e
          ∙ ap (least sp 0) (sym (members_lowest s v here.member here.least n (in_below n s v l here.member)));
    }

pub choosing_next : {sp : List ℕ} {s best left w best' left' : ℕ} → Choosing sp s best left → Lowest left w → left' ≡ without left w
    → best' < width → best' ≡ lesser sp best w → Choosing sp s best' left'
choosing_next {sp} {s} {best} {left} {w} y here e fits q =
    record {
      fits = fits;
      part = rw e (sub_trans (without left w) left s (minus-sub left (2 ^ w)) y.part);
      same = λ n l.
          ap₂ (λ (x z : ℕ). least sp 0 (x ∷ members n z)) q e
          ∙ sym (least_step sp 0 best w (members n (without left w)))
          ∙ ap (λ (xs : List ℕ). least sp 0 (best ∷ xs))
          (sym (members_lowest left w here.member here.least n (walk_below l y.part here)))
          ∙ y.same n l;
    }

pub choosing_all : {sp : List ℕ} {s best left : ℕ} → Choosing sp s best left → left ≡ 0 → LeastMember sp s best
choosing_all {sp} {s} {best} y z =
    record {
      fits = y.fits;
      is = λ n l.
          sym (least_one sp 0 best) ∙ ap (λ (xs : List ℕ). least sp 0 (best ∷ xs)) (sym (ap (members n) z ∙ members_none n)) ∙ y.same n l;
    }

-- ---- the tightest

-- the members that u is not adjacent to, as a set
tightest_least : (g : List ℕ) (s : ℕ) (sp : List ℕ) (u : ℕ) → tightest g s sp u ≡ least sp 0 (members (length g) (minus s (row g u)))
unfolding tightest members adjacent
tightest_least g s sp u =
    let r = row g u in
    ap (least sp 0)
    (keep-keep (has s) (λ w. not (has r w)) (range (length g))
    ∙ sym (members-keep (length g) (minus s r) (λ w. has s w && not (has r w))
    (λ w l e.
    let b = bit-minus s r w in
    both (has s w) (not (has r w)) (in_has s w (omega (arith, bit_le s w))) (not_has r w (omega (arith, bit_le s w))))
    (λ w l t.
    let i = has_in s w (and_left (has s w) (not (has r w)) t) in
    omega (arith, bit-minus s r w, not_in r w (and_right (has s w) (not (has r w)) t)))))

pub record NonNeighbour (g : List ℕ) (s w u : ℕ) : Type 0 where
  pub below : w < length g
  pub member : In w s
  pub apart : bit (row g u) w ≡ 0

-- a vertex that costs something has a tightest
pub tightest_apart : {g : List ℕ} {s : ℕ} → s < 2 ^ length g → (sp : List ℕ) {u : ℕ} → 0 < missing g s u → NonNeighbour g s (tightest g s sp u) u
unfolding missing
tightest_apart {g} {s} low sp {u} h =
    let n = length g in
    let t = minus s (row g u) in
    let w = tightest g s sp u in
    let x = some_member t h in
    let m = mem_members n t x.0 (in_below n t x.0 (minus_below n s (row g u) low) x.1) x.1 in
    let i : In w t = rw (tightest_least g s sp u) (member_in n t (least sp 0 (members n t)) (least_some sp 0 m)) in
    let member : In w s = omega (arith, bit-minus s (row g u) w, bit_le s w) in
    record { below = in_below n s w low member; member = member; apart = omega (arith, bit-minus s (row g u) w, bit_le s w) }

-- and the walk finds it
pub least_tightest : {g : List ℕ} {s : ℕ} {sp : List ℕ} (u : ℕ) {m w : ℕ} → Inside g s → m ≡ minus s (row g u) → LeastMember sp m w → w ≡ tightest g s sp u
least_tightest {g} {s} {sp} u i e y =
    y.is (length g) (rw e (minus_below (length g) s (row g u) i.below))
    ∙ ap (λ (z : ℕ). least sp 0 (members (length g) z)) e
    ∙ sym (tightest_least g s sp u)

pub non_neighbours_some : (g : List ℕ) (s u : ℕ) {m : ℕ} → m ≡ minus s (row g u) → 0 < missing g s u → 0 < m
unfolding missing
non_neighbours_some g s u e p =
    let x = some_member (minus s (row g u)) p in
    rw e (positive (minus s (row g u)) x.0 x.1)

-- ---- one less at a place

unfoldable pub spent : List ℕ → ℕ → List ℕ
spent sp w = slice_set sp w (slice_index sp w - 1)

pub spent-length : (sp : List ℕ) (w : ℕ) → length (spent sp w) ≡ length sp
unfolding spent
spent-length sp w = length-set sp w (slice_index sp w - 1)

pub spent_at : (sp : List ℕ) (w v : ℕ) → v < length sp → slice_index (spent sp w) v ≡ slice_index sp v - bit (2 ^ w) v
unfolding spent
spent_at sp w v l = go (ℕ_discrete v w)
  where
    go : Dec (v ≡ w) → slice_index (slice_set sp w (slice_index sp w - 1)) v ≡ slice_index sp v - bit (2 ^ w) v
    go (yes q) =
        subst (λ (x : ℕ). slice_index (slice_set sp x (slice_index sp x - 1)) v ≡ slice_index sp v - bit (2 ^ x) v) q
        (omega (arith, get_or-set_same sp v (slice_index sp v - 1) 0 l, bit-pow_same v))
    go (no nq) = omega (arith, get_or-set_other sp w v (slice_index sp w - 1) 0 nq, bit-pow_other w v (λ e. nq (sym e)))

-- ---- supports that agree at the members

pub record Agree (g : List ℕ) (s : ℕ) (sp tp : List ℕ) : Type 0 where
  pub each : (w : ℕ) → w < length g → In w s → slice_index sp w ≡ slice_index tp w
  pub long : length g ≤ length sp
  pub wide : length g ≤ length tp

least_agree : (sp tp : List ℕ) (d : ℕ) (xs : List ℕ) → ((x : ℕ) → Mem x xs → slice_index sp x ≡ slice_index tp x) → least sp d xs ≡ least tp d xs
unfolding least lesser
least_agree sp tp d [] e = refl
least_agree sp tp d (x ∷ xs) e =
    let i = least_agree sp tp x xs (λ y m. e y (Memᴰ.tail m)) in
    ap₂ (λ (a b : ℕ). cond (nat_le a b) x (least sp x xs)) (e x (Memᴰ.head refl)) (e (least sp x xs) (least_mem sp x xs))
    ∙ ap (λ (y : ℕ). cond (nat_le (slice_index tp x) (slice_index tp y)) x y) i

module _ {g : List ℕ} {s : ℕ} {sp tp : List ℕ} (a : Agree g s sp tp) where
  pub tightest-agree : (u : ℕ) → tightest g s sp u ≡ tightest g s tp u
  unfolding tightest members
  tightest-agree u =
      least_agree sp tp 0 (keep (λ w. not (adjacent g u w)) (keep (has s) (range (length g)))) (λ w m.
      let i = keep_mem (has s) (range (length g)) w (keep_mem (λ (x : ℕ). not (adjacent g u x)) (keep (has s) (range (length g))) w m).0 in
      a.each w (range_mem (length g) w i.0) (has_in s w i.1))

  -- one less at w in both
  pub spent-agree : (w : ℕ) → Agree g s (spent sp w) (spent tp w)
  spent-agree w =
      record {
        each = λ v l m. omega (arith, spent_at sp w v (omega (arith, a.long)), spent_at tp w v (omega (arith, a.wide)), a.each v l m);
        long = omega (arith, spent-length sp w, a.long);
        wide = omega (arith, spent-length tp w, a.wide);
      }
