-- Laws of a step of the search: what it may ask of its callees, and what it has added where it is cut, at a leaf, and after both branches.
use Rattle.std.specs.Prelude.{◌≡◌, ℕ, ◌+◌, ◌*◌, ◌^◌, ◌<◌, ◌≤◌, not, T, List, length, ◌==◌}
use Rattle.std.proofs.Common.{arith, sym, ap, subst, T_not, eqb→eq}
use Rattle.std.proofs.Math.Dec.{not_T, eqb_refl}
use Rattle.std.specs.Int.Bits.{bit_and}
use Rattle.std.proofs.lemmas.Nat.{or_lt, ones-le}
use Rattle.sets.specs.Set.{bit, In, Sub, size, with, without, minus}
use Rattle.sets.specs.Graph.{row}
use Rattle.sets.specs.RangeLaws.{and_left, and_right, both, test_same}
use Rattle.sets.specs.BitLaws.{bit-bit_and, bit-bit_or}
use Rattle.sets.specs.PointLaws.{bit_with, single_out, by_bit}
use Rattle.sets.specs.SubsetLaws.{sub_number, in_below, minus-sub, with_below}
use Rattle.sets.specs.SizeLaws.{size_mono}
use Rattle.sets.specs.WalkLaws.{without_less}
use Rattle.sets.specs.Words.{width}
use Rattle.judging.specs.Request.{Request, request, recorded}
use Rattle.judging.specs.Graph.{missing}
use Rattle.judging.specs.Plex.{Plex, extendable}
use Rattle.judging.specs.Setting.{Inside}
use Rattle.bounds.specs.BoundSetting.{Boundable}
use Rattle.lists.specs.Placing.{union, Adds, unless}
use Rattle.lists.specs.PlacingLaws.{adds_none, adds_same, adds_both}
use Rattle.search.specs.Found.{found, Empty, AddsFound, Compatible, Lacks}
use Rattle.search.specs.RecordedLaws.{silent_with}
use Rattle.search.specs.FoundLaws.{found_holds, found_test, cut_none, lacks_empty, stuck_empty, extendable_empty, leaf_found, leaf_only}
use Rattle.search.specs.FoundLaws.{compatible_part, branches, branches_apart, branch_without}
use Rattle.search.specs.Partition.{Between}
use Rattle.search.specs.TrimLaws.{trimmed_compatible}
use Rattle.search.specs.Trim.{Trimmable, Joinable, Beside}
use Rattle.search.specs.Sift.{Siftable}
use Rattle.search.specs.Ready.{Ready, lowered, Branching, Whole, Split}

-- ---- what the callees ask of a candidate v

module _ {g t : List ℕ} {ask : Request} {s c : ℕ} (h : Ready g t ask s c) (v : ℕ) (i : In v c) where
  pub ready_vertex : v < length g
  ready_vertex = in_below (length g) c v h.fine.candidates i

  ready_trimmable : Trimmable g s c v
  ready_trimmable =
      record {
        most = h.settled.sized.most;
        valid = h.settled.valid;
        below = h.fine.below;
        candidates = h.fine.candidates;
        apart = h.fine.apart;
        vertex = ready_vertex;
      }

  pub ready_joinable : Joinable g t s c v
  ready_joinable = record { trimmable = ready_trimmable; member = i; long = h.settled.long }

  pub ready_siftable : {q d t : ℕ} → q ≤ 2 * width → Beside g ask s c v d → Sub t d → Siftable g ask.slack q s c v d t
  ready_siftable l b p =
      record {
        trimmable = ready_trimmable;
        some = h.settled.sized.some;
        slack = omega (arith, h.settled.slack.1);
        floor = l;
        part = b.kept.part;
        counts = p;
      }

-- ---- the floor and the silent members of s: v, a candidate, joins, n is the floor then, and the request stays

module _ {g t : List ℕ} {k q z s c : ℕ} (h : Branching g t k q z s c) (v : ℕ) {n : ℕ} (i : In v c) (e : n ≡ q + bit z v) where
  pub next_floor : n ≡ (lowered k q z s).floor + size (bit_and (with s v) z)
  next_floor = omega (arith, e, h.raised, silent_with s v z (h.ready.fine.apart v i))

  pub next_fits : n ≤ 2 * width
  next_fits =
      let settled = h.ready.settled in
      let few = size_mono (bit_and (with s v) z) (with s v) (λ u. omega (arith, bit-bit_and (with s v) z u)) in
      let all = ones-le (length g) (with s v) (with_below (length g) s v h.ready.fine.below (ready_vertex h.ready v i)) in
      omega (arith, next_floor, settled.floor, few, all, settled.sized.most)

  next_same : lowered k n z (with s v) ≡ lowered k q z s
  next_same = ap (λ (f : ℕ). request k f z) (omega (arith, next_floor))

  pub next_empty : {r : ℕ} → Empty g (lowered k n z (with s v)) (with s v) r → Empty g (lowered k q z s) (with s v) r
  next_empty {r} x = subst (λ (ask : Request). Empty g ask (with s v) r) next_same x

  module _ {j : ℕ} (r : ℕ) (y : j ≡ with s v) where
    pub next_branching : Ready g t (lowered k q z s) j r → Branching g t k n z j r
    next_branching x =
        rw y (record {
          ready = subst (λ (ask : Request). Ready g t ask (with s v) r) (sym next_same) (rw y at x);
          raised = omega (arith, next_floor);
        })

    pub next_adds : {before after : List ℕ} {count o : ℕ} → AddsFound g (lowered k n z j) j r before count after o
        → AddsFound g (lowered k q z s) j r before count after o
    next_adds {before} {after} {count} {o} x =
        rw y (subst (λ (ask : Request). AddsFound g ask (with s v) r before count after o) next_same (rw y at x))

-- ---- s and c together

module _ {g t : List ℕ} {ask : Request} {s c a : ℕ} (h : Whole g t ask s c a) where
  whole_below : a < 2 ^ length g
  whole_below = rw h.whole (or_lt (length g) s c h.ready.fine.below h.ready.fine.candidates)

  pub whole_inside : Inside g a
  whole_inside = let sized = h.ready.settled.sized in record { some = sized.some; most = sized.most; below = whole_below }

  pub whole_between : Between g s a
  whole_between = record { below = whole_below; part = rw h.whole (λ v. omega (arith, bit-bit_or s c v)) }

  -- cuts: nothing is added
  module _ {slots : List ℕ} {count : ℕ} where
    cut_adds : Empty g ask s c → Adds (2 ^ length g) (found g ask s c) slots count slots count
    cut_adds none = adds_none (2 ^ length g) (found g ask s c) slots count (cut_none g ask s c none)

    pub lacks_adds : Lacks g ask s a → Adds (2 ^ length g) (found g ask s c) slots count slots count
    lacks_adds l = cut_adds (lacks_empty h.whole l)

    pub extendable_adds : T (extendable g ask.slack a) → Adds (2 ^ length g) (found g ask s c) slots count slots count
    extendable_adds l = cut_adds (extendable_empty h.whole h.ready.settled.valid l)

    pub stuck_adds : (w : ℕ) → In w a → ask.slack < missing g a w → (bit c w ≡ 0) × (minus c (row g w) ≡ 0)
        → Adds (2 ^ length g) (found g ask s c) slots count slots count
    stuck_adds w i many z = cut_adds (stuck_empty h.whole w i z.0 many z.1)

  -- a leaf: a is the one set that it may list
  leaf_same : Plex g ask.slack a → ask.floor ≤ size (recorded ask a) → (y : ℕ) → y < 2 ^ length g
      → unless (extendable g ask.slack a) a y ≡ found g ask s c y
  leaf_same p l y ly =
      let more = extendable g ask.slack a in
      let ok = h.ready.settled.valid in
      test_same (unless more a y) (found g ask s c y)
      (λ z. found_test g ask s c y (rw (eqb→eq y a (and_right (not more) (y == a) z))
      (leaf_found h.whole whole_below p ok (T_not more (and_left (not more) (y == a) z)) l)))
      (λ z. let f = found_holds g ask s c y ly z in both (not more) (y == a)
      (not_T more (λ w. extendable_empty h.whole ok w y f)) (rw (leaf_only h.whole whole_below p f) (eqb_refl a)))

  pub leaf_adds : {before after : List ℕ} {count r : ℕ} → Plex g ask.slack a → ask.floor ≤ size (recorded ask a)
      → Adds (2 ^ length g) (unless (extendable g ask.slack a) a) before count after r → Adds (2 ^ length g) (found g ask s c) before count after r
  leaf_adds p l x = adds_same (2 ^ length g) (unless (extendable g ask.slack a) a) (found g ask s c) _ _ _ _ (leaf_same p l) x

-- ---- the two branches

module _ {g t : List ℕ} {ask : Request} {s c v r rest : ℕ} (h : Split g t ask s c v r rest) where
  pub split_vertex : v < length g
  split_vertex = ready_vertex h.ready v h.member

  with_compatible : Compatible g ask.slack (with s v) r
  with_compatible =
      let b = h.beside in
      trimmed_compatible g ask.slack s c v r h.ready.settled.valid h.ready.fine h.member b.kept.part b.blocked b.cheap

  pub with_boundable : Boundable g ask.slack s (with r v) v
  with_boundable =
      let settled = h.ready.settled in
      let fine = h.ready.fine in
      record {
        supported =
            record {
              inside = record { some = settled.sized.some; most = settled.sized.most; below = fine.below };
              slack = settled.slack.1;
              plex = fine.plexed;
            };
        valid = settled.valid;
        some = settled.slack.0;
        vertex = split_vertex;
        below = with_below (length g) r v with_compatible.candidates split_vertex;
        apart = λ u j. by_bit r u
            (λ i. omega (arith, with_compatible.apart u i, bit_with s v u))
            (λ o. omega (arith, bit_with r v u, single_out s v u (fine.apart v h.member)));
      }

  pub with_falls : r < c
  with_falls = omega (arith, sub_number r (without c v) h.beside.kept.part, without_less c v h.member)

  pub without_falls : rest < c
  without_falls = rw h.others (without_less c v h.member)

  pub without_ready : Ready g t ask s rest
  without_ready =
      rw h.others
      (record { settled = h.ready.settled; fine = compatible_part (without c v) (minus-sub c (2 ^ v)) h.ready.fine })

  module _ {before between : List ℕ} {count n : ℕ} (x : Adds (2 ^ length g) (found g ask s rest) before count between n) where
    -- where the branch with v is cut, the other has added all
    pub without_adds : Empty g ask (with s v) r → Adds (2 ^ length g) (found g ask s c) before count between n
    without_adds cut =
        adds_same (2 ^ length g) (found g ask s (without c v)) (found g ask s c) before between count n
        (branch_without h.member h.beside cut) (rw h.others at x)

    module _ {j : ℕ} (z : j ≡ with s v) where
      pub branches_adds : {after : List ℕ} {o : ℕ} → Adds (2 ^ length g) (found g ask j r) between n after o
          → Adds (2 ^ length g) (found g ask s c) before count after o
      branches_adds {after} {o} y =
          let out = found g ask s (without c v) in
          let beside = found g ask (with s v) r in
          adds_same (2 ^ length g) (union out beside) (found g ask s c) before after count o (branches h.member h.beside)
          (adds_both (2 ^ length g) out beside before between after count n o
          (branches_apart h.member h.beside (h.ready.fine.apart v h.member)) (rw h.others at x) (rw z at y))

  pub with_ready : {j : ℕ} → j ≡ with s v → Ready g t ask j r
  with_ready z = rw z (record { settled = h.ready.settled; fine = with_compatible })
