-- Laws of what a call of the search is to add: where a branch may be cut, what a leaf adds, and how the branches with and without a vertex share the rest.
use Rattle.std.specs.Prelude.{◌≡◌, ℕ, ◌+◌, ◌^◌, ◌<◌, ◌≤◌, max, ◌&&◌, T, List, length, bit_and}
use Rattle.std.proofs.Common.{arith, sym, ap, ◌∙◌, ⊎_elim}
use Rattle.std.specs.Int.Bits.{bit_or}
use Rattle.sets.specs.Set.{bit, In, Sub, size, subset, with, without, minus}
use Rattle.sets.specs.Graph.{row}
use Rattle.sets.specs.RangeLaws.{and_left, and_right, both, or_cases, or_left, or_right, test_same}
use Rattle.sets.specs.BitLaws.{bit_le, bit-bit_or, bit-minus}
use Rattle.sets.specs.PointLaws.{bit_none, bit_with, single_in, single_out, by_bit}
use Rattle.sets.specs.SubsetLaws.{subset-sub, sub-subset, sub_trans, sub_below, in_of_sub, in_below, with_sub, with_same, sub_with, without_same}
use Rattle.sets.specs.SizeLaws.{size_mono}
use Rattle.judging.specs.Request.{Request, recorded}
use Rattle.judging.specs.Graph.{missing, Valid}
use Rattle.judging.specs.Plex.{Plex, extendable}
use Rattle.judging.specs.PlexLaws.{hereditary}
use Rattle.judging.specs.ExtensionLaws.{extendable_none, unextendable_maximal}
use Rattle.bounds.specs.Bound.{second_bound}
use Rattle.bounds.specs.BoundSetting.{Boundable}
use Rattle.bounds.proofs.BoundSound.{second_sound}
use Rattle.lists.specs.Listing.{listed}
use Rattle.lists.specs.ListingLaws.{listed_holds, listed_test, listed_size}
use Rattle.lists.specs.Placing.{Apart, union}
use Rattle.search.specs.Found.{found, Found, Empty, Compatible, Short, Lacks}
use Rattle.search.specs.RecordedLaws.{counting, counting-sub, counting-size, counting-plex, counting_large, counting_mono}
use Rattle.search.specs.Partition.{Between}
use Rattle.search.specs.TrimLaws.{kept_found}
use Rattle.search.specs.Trim.{Beside}

-- ---- the test and the statement

module _ (g : List ℕ) (ask : Request) (s c : ℕ) where
  pub found_holds : (x : ℕ) → x < 2 ^ length g → T (found g ask s c x) → Found g ask s c x
  unfolding found
  found_holds x l t =
      let front = and_left (subset s x && subset x (bit_or s c)) (listed g ask x) t in
      record {
        lower = subset-sub s x (and_left (subset s x) (subset x (bit_or s c)) front);
        upper = subset-sub x (bit_or s c) (and_right (subset s x) (subset x (bit_or s c)) front);
        listed = listed_holds g ask x l (and_right (subset s x && subset x (bit_or s c)) (listed g ask x) t);
      }

  pub found_test : (x : ℕ) → Found g ask s c x → T (found g ask s c x)
  unfolding found
  found_test x h =
      both (subset s x && subset x (bit_or s c)) (listed g ask x)
      (both (subset s x) (subset x (bit_or s c)) (sub-subset s x h.lower) (sub-subset x (bit_or s c) h.upper))
      (listed_test g ask x h.listed)

  pub cut_none : Empty g ask s c → (x : ℕ) → x < 2 ^ length g → T (found g ask s c x) → ⊥
  cut_none e x l t = e x (found_holds x l t)

-- pointwise: the digits of a union that has a name
whole_bit : (s c : ℕ) {a : ℕ} → a ≡ bit_or s c → (u : ℕ) → bit a u ≡ max (bit s u) (bit c u)
whole_bit s c e u = ap (λ (x : ℕ). bit x u) e ∙ bit-bit_or s c u

-- ---- cuts, and a leaf: a is s and c together

module _ {g : List ℕ} {ask : Request} {s c a : ℕ} (e : a ≡ bit_or s c) where
  within : {x : ℕ} → Found g ask s c x → Sub x a
  within f = rw e f.upper

  pub short_empty : Short g ask.slack ask.floor s a → Empty g ask s c
  short_empty h x f = omega (arith, h x f.listed.below f.listed.top.0 f.lower (within f), listed_size g ask f.listed)

  pub lacks_empty : Lacks g ask s a → Empty g ask s c
  lacks_empty h x f = omega (arith, h x f.listed.below f.listed.top.0 f.lower (within f), f.listed.large)

  pub extendable_empty : Valid g → T (extendable g ask.slack a) → Empty g ask s c
  extendable_empty ok h x f = extendable_none g ask.slack a x ok f.listed.below h (within f) f.listed.top

  -- a member w of a that misses more than k of it, no candidate itself and adjacent to every candidate
  pub stuck_empty : (w : ℕ) → In w a → bit c w ≡ 0 → ask.slack < missing g a w → minus c (row g w) ≡ 0 → Empty g ask s c
  unfolding missing
  stuck_empty w i out many none x f =
      let fits = f.listed.top.0 w (in_below (length g) x w f.listed.below held) held in
      omega (arith, many, fits, size_mono (minus a (row g w)) (minus x (row g w)) inside)
    where
      held : In w x
      held = omega (arith, whole_bit s c e w, f.lower w, bit_le x w)

      inside : Sub (minus a (row g w)) (minus x (row g w))
      inside u =
          let near = row g w in
          let z : bit (minus c near) u ≡ 0 = ap (λ (y : ℕ). bit y u) none ∙ bit_none u in
          omega (arith, bit-minus a near u, bit-minus x near u, whole_bit s c e u, bit-minus c near u, f.lower u, bit_le s u, bit_le c u, bit_le near u)

  -- a leaf: a is a plex
  module _ (b : a < 2 ^ length g) (p : Plex g ask.slack a) where
    pub leaf_found : Valid g → (T (extendable g ask.slack a) → ⊥) → ask.floor ≤ size (recorded ask a) → Found g ask s c a
    leaf_found ok n l =
        record {
          lower = λ u. omega (arith, whole_bit s c e u);
          upper = λ u. omega (arith, ap (λ (x : ℕ). bit x u) e);
          listed = record { below = b; large = l; top = unextendable_maximal g ask.slack a ok p n };
        }

    pub leaf_only : {x : ℕ} → Found g ask s c x → x ≡ a
    leaf_only f = sym (f.listed.top.1 a b (within f) p)

-- where the silent candidates are left out, and the floor is raised by the silent members of s, it is the number of members that decides
module _ {g : List ℕ} (ask : Request) {s a d : ℕ} (b : Between g s a) (e : d ≡ counting ask s a) where
  pub counting-between : Between g s d
  counting-between =
      rw e
      (record {
        below = sub_below (length g) (counting ask s a) a (counting-sub ask s a b.part) b.below;
        part = λ v. omega (arith, bit-bit_or s (recorded ask a) v);
      })

  module _ {q : ℕ} (n : q ≡ ask.floor + size (bit_and s ask.silent)) where
    pub short_lacks : Short g ask.slack q s d → Lacks g ask s a
    short_lacks h t l p lower upper =
        let inside = counting-sub ask s t lower in
        let few = h (counting ask s t) (sub_below (length g) (counting ask s t) t inside l) (hereditary g ask.slack (counting ask s t) t inside p)
        (λ v. omega (arith, bit-bit_or s (recorded ask t) v)) (rw e (counting_mono ask s t a upper)) in
        omega (arith, few, n, counting-size ask s t lower)

    pub large_enough : q ≤ size d → ask.floor ≤ size (recorded ask a)
    large_enough l = omega (arith, l, n, ap size e, counting-size ask s a b.part)

-- the second bound for s, the candidates c with v that are not silent, and v
module _ {g : List ℕ} (ask : Request) {s : ℕ} (c : ℕ) {v d : ℕ} (b : Boundable g ask.slack s (with c v) v) (e : d ≡ with (recorded ask c) v) where
  bounded_part : Sub (with (recorded ask c) v) (with c v)
  bounded_part u = omega (arith, bit_with (recorded ask c) v u, bit_with c v u, bit-minus c ask.silent u)

  pub bounded_boundable : Boundable g ask.slack s d v
  bounded_boundable =
      rw e
      (record {
        supported = b.supported;
        valid = b.valid;
        some = b.some;
        vertex = b.vertex;
        below = sub_below (length g) (with (recorded ask c) v) (with c v) bounded_part b.below;
        apart = λ u i. b.apart u (in_of_sub (with (recorded ask c) v) (with c v) u bounded_part i);
      })

  -- n is the bound, and q the floor raised by the silent ones of s and v
  pub bounded_empty : {n q : ℕ} → n ≡ second_bound g ask.slack s d v → q ≡ ask.floor + size (bit_and (with s v) ask.silent) → n < q
      → Empty g ask (with s v) c
  bounded_empty {n} {q} z raised l x f =
      let y = counting ask (with s v) x in
      let below = sub_below (length g) y x (counting-sub ask (with s v) x f.lower) f.listed.below in
      let sound = second_sound g ask.slack s d v y b.valid b.supported.inside.below below (counting-plex ask (with s v) x f.lower f.listed)
      (λ u. omega (arith, bit-bit_or (with s v) (recorded ask x) u, bit_with s v u))
      (omega (arith, bit-bit_or (with s v) (recorded ask x) v, with_same s v, bit_le y v)) (rw e upper) bounded_boundable.apart in
      omega (arith, counting_large ask (with s v) x f.lower f.listed, sound, z, raised)
    where
      -- a member that is not silent is in s, v, or such a candidate
      counted : (u : ℕ) → bit (recorded ask x) u ≤ max (bit (with s v) u) (bit (recorded ask c) u)
      counted u = omega (arith, f.upper u, bit-bit_or (with s v) c u, bit-minus x ask.silent u, bit-minus c ask.silent u)

      upper : Sub (counting ask (with s v) x) (bit_or s (with (recorded ask c) v))
      upper u =
          omega (arith, counted u, bit-bit_or (with s v) (recorded ask x) u, bit_with s v u, bit-bit_or s (with (recorded ask c) v) u, bit_with (recorded ask c) v u)

-- ---- fewer candidates

module _ {s c : ℕ} (d : ℕ) (p : Sub d c) where
  pub compatible_part : {g : List ℕ} {k : ℕ} → Compatible g k s c → Compatible g k s d
  compatible_part {g} h =
      record {
        below = h.below;
        candidates = sub_below (length g) d c p h.candidates;
        apart = λ v i. h.apart v (in_of_sub d c v p i);
        plexed = h.plexed;
        joined = λ v i. h.joined v (in_of_sub d c v p i);
      }

  pub empty_part : {g : List ℕ} {ask : Request} → Empty g ask s c → Empty g ask s d
  empty_part e x f =
      e x (record { lower = f.lower; upper = λ u. omega (arith, f.upper u, bit-bit_or s d u, bit-bit_or s c u, p u); listed = f.listed })

-- ---- with and without a candidate v

module _ {g : List ℕ} {ask : Request} {s c : ℕ} where
  pub without_found : (v : ℕ) {x : ℕ} → Found g ask s c x → bit x v ≡ 0 → Found g ask s (without c v) x
  without_found v {x} f o =
      record {
        lower = f.lower;
        upper = λ u. omega (arith, f.upper u, bit-bit_or s c u, bit-bit_or s (without c v) u, bit-minus c (2 ^ v) u, single_out x v u o);
        listed = f.listed;
      }

  pub found_without : (v : ℕ) {x : ℕ} → Found g ask s (without c v) x → Found g ask s c x
  found_without v f =
      record {
        lower = f.lower;
        upper = λ u. omega (arith, f.upper u, bit-bit_or s (without c v) u, bit-bit_or s c u, bit-minus c (2 ^ v) u);
        listed = f.listed;
      }

module _ {g : List ℕ} {ask : Request} {s c v r : ℕ} (e : In v c) (h : Beside g ask s c v r) where
  pub with_found : {x : ℕ} → Found g ask s c x → In v x → Found g ask (with s v) r x
  with_found {x} f i =
      kept_found h.kept
      (record {
        lower = with_sub s v x f.lower i;
        upper = λ u. omega (arith, f.upper u, bit-bit_or s c u, bit-bit_or (with s v) (without c v) u, bit_with s v u, bit-minus c (2 ^ v) u, bit_le x u);
        listed = f.listed;
      })

  pub found_with : {x : ℕ} → Found g ask (with s v) r x → Found g ask s c x
  found_with f =
      record {
        lower = sub_trans s (with s v) _ (sub_with s v) f.lower;
        upper = λ u. omega (arith, f.upper u, bit-bit_or (with s v) r u, bit_with s v u, h.kept.part u, bit-minus c (2 ^ v) u, single_in c v u e, bit-bit_or s c u);
        listed = f.listed;
      }

  -- no plex is in both branches
  pub branches_apart : bit s v ≡ 0 → Apart (2 ^ length g) (found g ask s (without c v)) (found g ask (with s v) r)
  branches_apart out x l u t =
      let f = found_holds g ask (with s v) r x l t in
      let o = found_holds g ask s (without c v) x l u in
      omega (arith, f.lower v, with_same s v, o.upper v, bit-bit_or s (without c v) v, without_same c v)

  -- and each is in one of them
  pub branches : (x : ℕ) → x < 2 ^ length g → union (found g ask s (without c v)) (found g ask (with s v) r) x ≡ found g ask s c x
  branches x l =
      let out = found g ask s (without c v) x in
      let beside = found g ask (with s v) r x in
      test_same (union (found g ask s (without c v)) (found g ask (with s v) r) x) (found g ask s c x)
      (λ t. found_test g ask s c x (⊎_elim
      (λ w. found_without v (found_holds g ask s (without c v) x l w))
      (λ w. found_with (found_holds g ask (with s v) r x l w))
      (or_cases out beside t)))
      (λ t. let f = found_holds g ask s c x l t in by_bit x v
      (λ i. or_right out beside (found_test g ask (with s v) r x (with_found f i)))
      (λ o. or_left out beside (found_test g ask s (without c v) x (without_found v f o))))

  -- where the branch with v is cut, the other has all
  pub branch_without : Empty g ask (with s v) r → (x : ℕ) → x < 2 ^ length g → found g ask s (without c v) x ≡ found g ask s c x
  branch_without none x l =
      test_same (found g ask s (without c v) x) (found g ask s c x)
      (λ t. found_test g ask s c x (found_without v (found_holds g ask s (without c v) x l t)))
      (λ t. let f = found_holds g ask s c x l t in found_test g ask s (without c v) x (by_bit x v
      (λ i. absurd (none x (with_found f i)))
      (λ o. without_found v f o)))
