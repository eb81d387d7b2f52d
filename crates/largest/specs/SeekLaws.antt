-- Laws of the search for one clique: where too few vertices are left nothing listed is there, and what is sought has a candidate v or is in the others.
--
--   Step g s b t v j d b2 t2       one step takes v out of t and lets it wait: with v the clique is j, the candidates are d, and b and t become b2 and t2
--   Swept g ask have s b t b2 t2   a sweep on its way: b and t have become b2 and t2, and nothing listed is in s and b2
use Rattle.std.specs.Prelude.{ℕ, ◌+◌, ◌^◌, ◌≤◌, ◌<◌, max, ◌≡◌, refl, List, length}
use Rattle.std.proofs.Common.{arith, sym, ap, subst}
use Rattle.std.specs.Int.Bits.{bit_and, bit_or}
use Rattle.std.proofs.lemmas.Nat.{ones-le}
use Rattle.sets.specs.Set.{bit, In, Sub, size, with, without, minus}
use Rattle.sets.specs.Graph.{row}
use Rattle.sets.specs.Words.{width, Lowest}
use Rattle.sets.specs.BitLaws.{ext, bit_le, bit-bit_and, bit-bit_or, bit-minus}
use Rattle.sets.specs.PointLaws.{bit_none, bit_with, in_single, single_in, single_out, by_bit, none_out, parts_whole}
use Rattle.sets.specs.SubsetLaws.{sub_trans, sub_refl, sub_number, in_of_sub, in_below, with_same, without_same, with_below}
use Rattle.sets.specs.SizeLaws.{size_mono, size_or, size_with}
use Rattle.sets.specs.WalkLaws.{without_less}
use Rattle.judging.specs.Request.{Request, request}
use Rattle.judging.specs.Setting.{Judgeable}
use Rattle.lists.specs.ListingLaws.{listed_size}
use Rattle.search.specs.Found.{Empty, Compatible, Near}
use Rattle.search.specs.Ready.{Ready}
use Rattle.search.specs.FoundLaws.{compatible_part, empty_part, with_found, without_found}
use Rattle.search.specs.Trim.{Blocked, Cheap, Beside}
use Rattle.search.specs.TrimLaws.{kept_near, trimmed_compatible}
use Rattle.search.specs.CliqueLaws.{clique_adjacent, clique_near}
use Rattle.largest.specs.Sought.{Within, Seeking, Sweeping}
use Rattle.largest.specs.SoughtLaws.{within_with}
use Rattle.largest.specs.Colour.{Coloured}

-- ---- fewer candidates

module _ {g : List ℕ} {ask : Request} {s c : ℕ} (d : ℕ) (p : Sub d c) where
  seek_part : {have : ℕ} → Seeking g ask have s c → Seeking g ask have s d
  seek_part h =
      record {
        sized = h.sized;
        valid = h.valid;
        slack = h.slack;
        floor = h.floor;
        counted = h.counted;
        fine = compatible_part d p h.fine;
      }

-- ---- from the search for any slack

pub ready_seeking : {g t : List ℕ} {k q have s c : ℕ} → k ≡ 1 → Ready g t (request k q 0) s c → 1 ≤ q → have ≡ size s → Seeking g (request 1 q 0) have s c
ready_seeking {g} {t} {k} {q} {have} {s} {c} one h l e =
    record {
      sized = h.settled.sized;
      valid = h.settled.valid;
      slack = refl;
      floor = l;
      counted = e;
      fine = subst (λ (x : ℕ). Compatible g x s c) one h.fine;
    }

-- ---- colour classes

-- a listed plex in s and b has the members of s and at most n others
pub coloured_empty : {g : List ℕ} {ask : Request} {have s c n b : ℕ} (p : ℕ) → Sub p s → have ≡ size s → Coloured g ask.slack p c n b
    → have + n < ask.floor → Empty g ask s b
coloured_empty {g} {ask} {s = s} {b = b} p o e k l x f =
    let few = k.most x f.listed.below f.listed.top.0 (sub_trans p s x o f.lower) in
    let whole = size_mono x (bit_or s (bit_and x b)) (λ u. omega (arith, f.upper u, bit-bit_or s b u, bit-bit_or s (bit_and x b) u, bit-bit_and x b u)) in
    omega (arith, l, few, whole, size_or s (bit_and x b), e, listed_size g ask f.listed)

-- ---- a clique s with the candidates c

module _ {g : List ℕ} {ask : Request} {have s c : ℕ} (h : Seeking g ask have s c) where
  pub seek_fits : have ≤ width
  seek_fits = omega (arith, h.counted, ones-le (length g) s h.fine.below, h.sized.most)

  pub seek_judgeable : Judgeable g c
  seek_judgeable =
      record { inside = record { some = h.sized.some; most = h.sized.most; below = h.fine.candidates }; valid = h.valid }

  -- s is large enough
  pub seek_large : ask.floor ≤ have → Within g ask.slack ask.floor s c s
  seek_large l =
      record {
        below = h.fine.below;
        plexed = rw h.slack h.fine.plexed;
        large = omega (arith, l, h.counted);
        lower = sub_refl s;
        upper = λ u. omega (arith, bit-bit_or s c u);
      }

  -- a listed clique that holds v has no member outside row v, but v
  near : Near g ask g
  near v x l k i u j ne = clique_adjacent g h.valid x v u k.below (rw h.slack at k.top.0) i j (λ z. ne (sym z))

  -- a candidate v joins s, and its neighbours stay candidates
  module _ (v : ℕ) (i : In v c) where
    seek_vertex : v < length g
    seek_vertex = in_below (length g) c v h.fine.candidates i

    joined_below : with s v < 2 ^ length g
    joined_below = with_below (length g) s v h.fine.below seek_vertex

    beside_same : bit_and (without c v) (row g v) ≡ bit_and c (row g v)
    beside_same =
        ext (bit_and (without c v) (row g v)) (bit_and c (row g v)) (λ u.
        let out = single_out (row g v) v u (h.valid.loopless v seek_vertex) in
        omega (arith, bit-bit_and (without c v) (row g v) u, bit-bit_and c (row g v) u, bit-minus c (2 ^ v) u, out, bit_le c u))

    -- v is adjacent to every member of s, so the one that bars candidates is v itself
    blocked : (k : ℕ) → Blocked g k (with s v) v (bit_and c (row g v))
    blocked k u j far l =
        let close = clique_near g h.valid (with s v) v joined_below (h.fine.joined v i) (with_same s v) u in
        subst (λ (y : ℕ). Sub (bit_and c (row g v)) (row g y)) (in_single v u (omega (arith, close, j, far, bit_le (2 ^ v) u)))
        (λ y. omega (arith, bit-bit_and c (row g v) y))

    cheap : (k : ℕ) → Cheap g k (with s v) v (bit_and c (row g v))
    cheap k u j far = absurd (omega (arith, bit-bit_and c (row g v) u, j, far))

    beside : Beside g ask s c v (bit_and c (row g v))
    beside =
        record {
          kept = rw beside_same at (kept_near g (without c v) v seek_vertex (with_same s v) (without_same c v) near);
          blocked = blocked ask.slack;
          cheap = cheap ask.slack;
        }

    joined_seeking : Seeking g ask (have + 1) (with s v) (bit_and c (row g v))
    joined_seeking =
        record {
          sized = h.sized;
          valid = h.valid;
          slack = h.slack;
          floor = h.floor;
          counted = omega (arith, h.counted, size_with s v (h.fine.apart v i));
          fine = trimmed_compatible g 1 s c v (bit_and c (row g v)) h.valid h.fine i beside.kept.part (blocked 1) (cheap 1);
        }

    joined_falls : bit_and c (row g v) < c
    joined_falls = omega (arith, sub_number (bit_and c (row g v)) (without c v) beside.kept.part, without_less c v i)

    -- nothing is there with v, and nothing without it
    joined_empty : Empty g ask (with s v) (bit_and c (row g v)) → Empty g ask s (without c v) → Empty g ask s c
    joined_empty e o x f = by_bit x v (λ j. e x (with_found i beside f j)) (λ n. o x (without_found v f n))

-- ---- a sweep

-- of the candidates c those in n colour classes are too few, and the others are to be tried
module _ {g : List ℕ} {k p c n b t : ℕ} (d : Coloured g k p c n b) (e : t ≡ minus c b) where
  pub coloured_candidates : bit_or t b ≡ c
  coloured_candidates = rw e (parts_whole c b d.part)

pub coloured_sweeping : {g : List ℕ} {ask : Request} {have s c n b t : ℕ} → Coloured g 1 0 c n b → t ≡ minus c b → Seeking g ask have s c
    → have + n < ask.floor → Sweeping g ask have s b t
coloured_sweeping {c = c} d e h l =
    record { seeking = rw (coloured_candidates d e) h; none = coloured_empty {c = c} 0 (λ u. omega (arith, bit_none u)) h.counted (rw h.slack d) l }

pub record Step (g : List ℕ) (s b t v j d b2 t2 : ℕ) : Type 0 where
  pub member : In v t
  pub left : t2 ≡ without t v
  pub waiting : b2 ≡ with b v
  pub beside : d ≡ bit_and (with b v) (row g v)
  pub joined : j ≡ with s v

pub step : {g : List ℕ} {s b t v w j d b2 t2 : ℕ} → Lowest t v → t2 ≡ without t v → b2 ≡ with b v → w ≡ row g v → d ≡ bit_and b2 w → j ≡ with s v
    → Step g s b t v j d b2 t2
step low et eb ew ed ej = record { member = low.member; left = et; waiting = eb; beside = rw (eb, ew) at ed; joined = ej }

pub record Swept (g : List ℕ) (ask : Request) (have s b t b2 t2 : ℕ) : Type 0 where
  pub seeking : Seeking g ask have s (bit_or t b)
  pub same : bit_or t2 b2 ≡ bit_or t b
  pub none : Empty g ask s b2

pub swept_none : {g : List ℕ} {ask : Request} {have s b t : ℕ} → Sweeping g ask have s b t → Swept g ask have s b t b t
swept_none h = record { seeking = h.seeking; same = refl; none = h.none }

module _ {g : List ℕ} {ask : Request} {have s b t b2 t2 : ℕ} (k : Swept g ask have s b t b2 t2) where
  -- the digits of the candidates
  whole : (u : ℕ) → bit (bit_or t b) u ≡ max (bit t2 u) (bit b2 u)
  whole u = rw (← k.same, bit-bit_or)

  pub swept_all : t2 ≡ 0 → Empty g ask s (bit_or t b)
  swept_all z = empty_part (bit_or t b) (λ u. omega (arith, whole u, none_out z u)) k.none

  pub swept_vertex : {v : ℕ} → Lowest t2 v → v < length g
  swept_vertex {v} low = seek_vertex k.seeking v (omega (arith, whole v, low.member, bit_le b2 v))

  module _ {v j d b3 t3 : ℕ} (m : Step g s b2 t2 v j d b3 t3) where
    part : Sub (with b2 v) (bit_or t b)
    part u = omega (arith, bit_with b2 v u, whole u, single_in t2 v u m.member)

    -- the search among those that wait, and v
    tried : Seeking g ask have s (with b2 v)
    tried = seek_part (with b2 v) part k.seeking

    pub swept_seeking : Seeking g ask (have + 1) j d
    swept_seeking = rw (m.joined, m.beside) (joined_seeking tried v (with_same b2 v))

    pub swept_falls : d < bit_or t b
    swept_falls = rw m.beside (omega (arith, joined_falls tried v (with_same b2 v), sub_number (with b2 v) (bit_or t b) part))

    -- a clique with v was found
    pub swept_some : {r : ℕ} → Within g ask.slack ask.floor j d r → Within g ask.slack ask.floor s (bit_or t b) r
    swept_some w =
        within_with (bit_or t b) v (in_of_sub (with b2 v) (bit_or t b) v part (with_same b2 v))
        (λ u. omega (arith, ap (λ (x : ℕ). bit x u) m.beside, bit-bit_and (with b2 v) (row g v) u, part u))
        (rw m.joined at w)

    -- there is none
    pub swept_next : Empty g ask j d → Swept g ask have s b t b3 t3
    swept_next none =
        rw (m.waiting, m.left) (record {
          seeking = k.seeking;
          same =
              ext (bit_or (without t2 v) (with b2 v)) (bit_or t b) (λ u.
              let held = single_in t2 v u m.member in
              omega (arith, bit-bit_or (without t2 v) (with b2 v) u, bit-minus t2 (2 ^ v) u, bit_with b2 v u, whole u, held, bit_le t2 u));
          none =
              joined_empty tried v (with_same b2 v) (rw (m.joined, m.beside) at none)
              (empty_part (without (with b2 v) v) (λ u. omega (arith, bit-minus (with b2 v) (2 ^ v) u, bit_with b2 v u, bit_le (2 ^ v) u)) k.none);
        })
