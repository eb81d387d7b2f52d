-- Laws of where the search starts. Every listed plex lies in the core, and in the set of all vertices; from the empty set and these all of them are found.
use Rattle.std.specs.Prelude.{◌≡◌, ℕ, ◌+◌, ◌-◌, ◌*◌, ◌^◌, ◌<◌, ◌≤◌, Bool, ◌&&◌, T, leb, List, length, bit_and, nat_le, nat_lt}
use Rattle.std.proofs.Common.{arith, sym, ap, subst, le→leb, pow_pos}
use Rattle.std.proofs.Math.Decide.{dec_lt}
use Rattle.std.specs.Int.Bits.{bit_or}
use Rattle.std.proofs.lemmas.Nat.{or_lt, ones-le}
use Rattle.std.proofs.Math.Dec.{leb→le, ltb→lt, lt→ltb}
use Rattle.std.proofs.Math.Pow.{ones_lt}
use Rattle.sets.specs.Set.{bit, has, In, Sub, size, with, full}
use Rattle.sets.specs.Graph.{row}
use Rattle.sets.specs.Words.{per_set, width, masks}
use Rattle.sets.specs.Words.Masks.{count_masks}
use Rattle.sets.specs.BitLaws.{bit_le, bit-bit_or, bit-minus}
use Rattle.sets.specs.PointLaws.{bit_none, bit_with, in_single, by_bit}
use Rattle.sets.specs.RangeLaws.{test_same, and_left, and_right, both}
use Rattle.sets.specs.MemberLaws.{set_of_in, set_of_below, set_of_unique}
use Rattle.sets.specs.DropLaws.{Dropping, dropping_all}
use Rattle.sets.specs.SizeLaws.{minus_below}
use Rattle.sets.specs.WordLaws.{sub-full}
use Rattle.sets.specs.SubsetLaws.{sub_of_in, sub_below, in_of_sub, in_below, in_has, has_in, minus-sub, sub_with, with_same, with_below}
use Rattle.judging.specs.Request.{Request, request, recorded}
use Rattle.judging.specs.Graph.{degree, missing}
use Rattle.judging.specs.Plex.{Plex}
use Rattle.judging.specs.PlexLaws.{hereditary}
use Rattle.judging.specs.Setting.{Sized, Judgeable}
use Rattle.judging.specs.GraphLaws.{missing_with, degree-missing, degree_mono}
use Rattle.bounds.specs.Core.{core, core_within}
use Rattle.bounds.specs.CoreLaws.{core_below, plex-core, core_within_below, plex-core_within, plex_beside}
use Rattle.lists.specs.Listing.{listed, Listed}
use Rattle.lists.specs.ListingLaws.{listed_test, listed_holds, listed_size}
use Rattle.lists.specs.Placing.{Adds}
use Rattle.lists.specs.PlacingLaws.{adds_same}
use Rattle.search.specs.Found.{found, AddsFound, Compatible, Near}
use Rattle.search.specs.FoundLaws.{found_holds, found_test}
use Rattle.search.specs.NearRows.{Pairing, Pairs, Filled}
use Rattle.search.specs.Ready.{Settled, Ready, lowered, Branching}
use Rattle.search.specs.Cliques.{Common, Taking}
use Rattle.search.specs.CliqueLaws.{clique_adjacent}
use Rattle.search.specs.Start.{attached, Searchable, Accepted, Candidates, Startable}

-- a table of `width` words has a row for each vertex
pub table_fits : {g : List ℕ} (ws : List ℕ) → Sized g → length ws ≡ width * per_set → length g ≤ length (masks ws)
table_fits ws z e = omega (arith, z.most, count_masks ws)

pub accepted_searchable : {g : List ℕ} {ask : Request} → Accepted g ask → Searchable g ask
accepted_searchable a = record { sized = a.sized; valid = a.valid; slack = a.slack; floor = a.floor.1 }

-- ---- the members of z that are adjacent to more than m members of s

module _ (g : List ℕ) (m z s : ℕ) where
  reaches : ℕ → Bool
  reaches v = has z v && nat_lt m (degree g s v)

  attached_below : attached g m z s < 2 ^ length g
  unfolding attached reaches
  attached_below = set_of_below reaches (length g)

  attached_in : (v : ℕ) → v < length g → In v z → m < degree g s v → In v (attached g m z s)
  unfolding attached reaches
  attached_in v l i h = set_of_in reaches (length g) v l (both (has z v) (nat_lt m (degree g s v)) (in_has z v i) (lt→ltb m (degree g s v) h))

  -- a walk through z that drops what is adjacent to at most m
  pub attached_all : {left r : ℕ} → left ≡ 0 → Dropping (length g) (λ v. leb (degree g s v) m) z z left r → r ≡ attached g m z s
  unfolding attached reaches
  attached_all {left} {r} e h =
      set_of_unique reaches (length g) r (sub_below (length g) r z h.part h.within)
      (λ v l i. let j = in_of_sub r z v h.part i in both (has z v) (nat_lt m (degree g s v)) (in_has z v j) (more v i j (dec_lt m (degree g s v))))
      (λ v l t.
      h.stays v (has_in z v (and_left (has z v) (nat_lt m (degree g s v)) t)) (λ few.
      omega (arith, leb→le (degree g s v) m few, ltb→lt m (degree g s v) (and_right (has z v) (nat_lt m (degree g s v)) t))))
    where
      more : (v : ℕ) → In v r → In v z → Dec (m < degree g s v) → T (nat_lt m (degree g s v))
      more v i j (yes l) = lt→ltb m (degree g s v) l
      more v i j (no n) = absurd (omega (arith, i, dropping_all e h v j (le→leb (degree g s v) m (omega arith))))

-- the test of the walk by its parts: the row r of v, what s shares with it, and its size
pub few_test : (g : List ℕ) (m s v : ℕ) {r a n : ℕ} → n ≡ size a → a ≡ bit_and s r → r ≡ row g v → nat_le n m ≡ nat_le (degree g s v) m
unfolding degree
few_test g m s v en ea er = rw (en, ea, er)

-- ---- the candidates

module _ {g : List ℕ} {ask : Request} {c : ℕ} where
  pub core_candidates : c ≡ core g (ask.floor - ask.slack) → Candidates g ask c
  core_candidates e =
      rw e
      (record {
        below = core_below g (ask.floor - ask.slack);
        holds = λ x h. plex-core g ask.slack ask.floor x h.below h.top.0 (listed_size g ask h);
      })

  pub all_candidates : c ≡ full (length g) → Candidates g ask c
  all_candidates e =
      rw e
      (record {
        below = ones_lt (length g);
        holds = λ x h. sub-full (length g) x h.below;
      })

-- the members of a listed plex that are not silent lie in the core among such vertices, and a silent one is adjacent to more than q - k of it
module _ {g : List ℕ} {ask : Request} (a : Accepted g ask) {others : ℕ} (o : others ≡ recorded ask (full (length g))) where
  pub others_judgeable : Judgeable g others
  others_judgeable =
      record {
        inside =
            record {
              some = a.sized.some;
              most = a.sized.most;
              below = rw o (minus_below (length g) (full (length g)) ask.silent (ones_lt (length g)));
            };
        valid = a.valid;
      }

  module _ {c : ℕ} (e : c ≡ core_within g (ask.floor - ask.slack) others) where
    core-recorded : (x : ℕ) → Listed g ask x → Sub (recorded ask x) c
    core-recorded x h =
        rw (e, o)
        (plex-core_within g ask.slack ask.floor (recorded ask x) (recorded ask (full (length g)))
        (minus_below (length g) x ask.silent h.below) (hereditary g ask.slack (recorded ask x) x (minus-sub x ask.silent) h.top.0)
        (λ v. omega (arith, bit-minus x ask.silent v, bit-minus (full (length g)) ask.silent v, sub-full (length g) x h.below v)) h.large)

    module _ {d all : ℕ} (f : d ≡ attached g (ask.floor - ask.slack) ask.silent c) (w : all ≡ bit_or c d) where
      silent_attached : (x : ℕ) → Listed g ask x → (v : ℕ) → In v x → In v ask.silent → In v d
      silent_attached x h v i j =
          let p = recorded ask x in
          let many = plex_beside g ask.slack ask.floor x p v a.valid (in_below (length g) x v h.below i) h.top.0
          (minus-sub x ask.silent) i (omega (arith, bit-minus x ask.silent v, bit_le x v)) h.large in
          rw f (attached_in g (ask.floor - ask.slack) ask.silent c v (in_below (length g) x v h.below i) j
          (omega (arith, many, degree_mono g p c v (core-recorded x h), a.slack.0, a.floor.0)))

      pub beside_candidates : Candidates g ask all
      beside_candidates =
          rw w
          (record {
            below = or_lt (length g) c d (rw e (core_within_below g (ask.floor - ask.slack) others)) (rw f (attached_below g _ ask.silent c));
            holds = λ x h v. by_bit x v
                (λ i. by_bit ask.silent v
                (λ j. omega (arith, bit-bit_or c d v, silent_attached x h v i j))
                (λ n. omega (arith, bit-bit_or c d v, core-recorded x h v, bit-minus x ask.silent v)))
                (λ n. omega arith);
          })

-- what the table of near rows is filled from
module _ {g : List ℕ} {ask : Request} {c d : ℕ} (h : Candidates g ask c) (e : d ≡ recorded ask c) where
  pub start_pairing : Searchable g ask → Pairing g ask.slack ask.floor c d
  start_pairing a =
      record {
        pairable =
            record {
              inside = record { some = a.sized.some; most = a.sized.most; below = rw e (minus_below (length g) c ask.silent h.below) };
              slack = omega (arith, a.slack.1);
              floor = omega (arith, a.floor);
            };
        below = h.below;
        valid = a.valid;
      }

  pub start_pairs : Pairs g ask c d
  start_pairs =
      record {
        holds = h.holds;
        counts = λ x l. rw e (λ v. omega (arith, bit-minus x ask.silent v, bit-minus c ask.silent v, h.holds x l v));
      }

-- ---- from the empty set

module _ {g : List ℕ} {ask : Request} {s c : ℕ} (e : s ≡ 0) (d : Candidates g ask c) where
  pub start_compatible : 1 ≤ ask.slack → Compatible g ask.slack s c
  start_compatible a =
      rw e
      (record {
        below = pow_pos (length g);
        candidates = d.below;
        apart = λ v i. bit_none v;
        plexed = λ v l i. absurd (omega (arith, bit_none v));
        joined = λ v i u l j.
            subst (λ (y : ℕ). missing g (with 0 v) y ≤ ask.slack) (in_single v u (omega (arith, bit_with 0 v u, bit_none u)))
            (omega (arith, missing_with g 0 v v (bit_none v), degree-missing g 0 v, ones-le 0 0 (pow_pos 0), a));
      })

  pub whole_startable : Accepted g ask → Startable g ask c s c
  whole_startable a = record { accepted = a; candidates = d; fine = start_compatible a.slack.0 }

  -- all that is listed is found
  pub start_found : (x : ℕ) → x < 2 ^ length g → found g ask s c x ≡ listed g ask x
  start_found x l =
      test_same (found g ask s c x) (listed g ask x)
      (λ t. listed_test g ask x (found_holds g ask s c x l t).listed)
      (λ t. let h = listed_holds g ask x l t in found_test g ask s c x (record {
        lower = λ v. omega (arith, ap (λ (y : ℕ). bit y v) e, bit_none v);
        upper = λ v. omega (arith, bit-bit_or s c v, d.holds x h v);
        listed = h;
      }))

  pub start_adds : {before after : List ℕ} {m : ℕ} → Adds (2 ^ length g) (found g ask s c) before 0 after m
      → Adds (2 ^ length g) (listed g ask) before 0 after m
  start_adds x = adds_same (2 ^ length g) (found g ask s c) (listed g ask) _ _ 0 _ start_found x

-- ---- what stays put

pub settled_searchable : {g t : List ℕ} {ask : Request} → Settled g t ask → Searchable g ask
settled_searchable h = record { sized = h.sized; valid = h.valid; slack = h.slack; floor = h.floor }

pub filled_settled : {g before t : List ℕ} {ask : Request} → Searchable g ask → length g ≤ length before → Filled g ask before t → Settled g t ask
filled_settled a l f =
    record { sized = a.sized; valid = a.valid; slack = a.slack; floor = a.floor; long = omega (arith, l, f.long); near = f.near }

-- ---- from anywhere

start_ready : {g t : List ℕ} {ask : Request} {all s c : ℕ} → Startable g ask all s c → length g ≤ length t → Near g ask t → Ready g t ask s c
start_ready h long near =
    let a = h.accepted in
    record {
      settled = record { sized = a.sized; valid = a.valid; slack = a.slack; floor = a.floor.1; long = long; near = near };
      fine = h.fine;
    }

-- n is the floor with the silent members of s
module _ {g : List ℕ} {k q z all s c : ℕ} (h : Startable g (request k q z) all s c) {n : ℕ} (e : n ≡ q + size (bit_and s z)) where
  lowered_start : lowered k n z s ≡ request k q z
  lowered_start = ap (λ (f : ℕ). request k f z) (omega (arith, e))

  pub start_branching : {t : List ℕ} → length g ≤ length t → Near g (request k q z) t → Branching g t k n z s c
  start_branching {t} long near =
      record {
        ready = subst (λ (ask : Request). Ready g t ask s c) (sym lowered_start) (start_ready h long near);
        raised = omega (arith, e);
      }

  pub start_lowered : {before after : List ℕ} {count o : ℕ} → AddsFound g (lowered k n z s) s c before count after o
      → AddsFound g (request k q z) s c before count after o
  start_lowered {before} {after} {count} {o} x = subst (λ (ask : Request). AddsFound g ask s c before count after o) lowered_start x

-- at slack 1 the candidates are common neighbours
module _ {g : List ℕ} {ask : Request} {all s c : ℕ} (h : Startable g ask all s c) (one : ask.slack ≡ 1) where
  pub start_taking : {m : ℕ} → Common g s m → Taking g s c m
  start_taking {m} common =
      record {
        most = h.accepted.sized.most;
        valid = h.accepted.valid;
        below = h.fine.below;
        clique = subst (λ (x : ℕ). Plex g x s) one h.fine.plexed;
        common = common;
        part = sub_of_in c m (λ v i. common.every v (vertex v i) (beside v i));
      }
    where
      vertex : (v : ℕ) → In v c → v < length g
      vertex v i = in_below (length g) c v h.fine.candidates i

      beside : (v : ℕ) → In v c → (u : ℕ) → In u s → In v (row g u)
      beside v i u j =
          clique_adjacent g h.accepted.valid (with s v) u v (with_below (length g) s v h.fine.below (vertex v i))
          (subst (λ (x : ℕ). Plex g x (with s v)) one (h.fine.joined v i)) (in_of_sub s (with s v) u (sub_with s v) j) (with_same s v)
          (λ z. omega (arith, j, subst (λ (y : ℕ). bit s y ≡ 0) (sym z) (h.fine.apart v i)))
