-- Laws of the climb. A larger plex is sought until there is none; then, from the highest candidate h down, a plex of that size is sought that lacks h: one
-- that is found is lower, and where there is none every lower one has h.
use Rattle.std.specs.Prelude.{ℕ, ◌+◌, ◌^◌, ◌≤◌, ◌<◌, ◌≡◌, refl, List, length, Option, None, Some}
use Rattle.std.proofs.Common.{arith, pow_pos}
use Rattle.std.proofs.Math.Decide.{dec_lt}
use Rattle.std.specs.Int.Bits.{bit_or}
use Rattle.std.proofs.lemmas.Nat.{ones-le}
use Rattle.sets.specs.Set.{bit, In, Sub, size, with, without}
use Rattle.sets.specs.Words.{width, mask, Lowest}
use Rattle.sets.specs.declared.Set.{Set}
use Rattle.sets.specs.BitLaws.{ext, bit_le, bit-bit_or, bit-minus}
use Rattle.sets.specs.PointLaws.{bit_none, in_single, single_out, by_bit, none_out}
use Rattle.sets.specs.SubsetLaws.{sub_refl, sub_trans, sub_with, minus-sub, without_same, with_below, positive}
use Rattle.sets.specs.SizeLaws.{positive_size, size_with}
use Rattle.sets.specs.OrderLaws.{order_highest}
use Rattle.judging.specs.Request.{Request, request}
use Rattle.judging.specs.PlexLaws.{small_plex}
use Rattle.lists.specs.Listing.{Listed}
use Rattle.search.specs.Found.{Found}
use Rattle.search.specs.FoundLaws.{without_found, with_found}
use Rattle.search.specs.Trim.{Beside}
use Rattle.search.specs.Ready.{Settled, Ready}
use Rattle.largest.specs.Largest.{Holding, Largest}
use Rattle.largest.specs.LargestLaws.{none_larger, top_listed}
use Rattle.largest.specs.Sought.{Within, Sought}
use Rattle.largest.specs.SoughtLaws.{within_part, without_ready}
use Rattle.largest.specs.Fit.{Fitted}
use Rattle.largest.specs.FitLaws.{join_ready}
use Rattle.largest.specs.Climb.{Top, Held, Highest, Topmost, Sparing, Spared, Lowering}

-- ---- the largest size

-- a table for a floor serves every higher one
pub settled_higher : {g t : List ℕ} {k p q : ℕ} → p ≤ q → q ≤ width → Settled g t (request k p 0) → Settled g t (request k q 0)
settled_higher l b h =
    record {
      sized = h.sized;
      valid = h.valid;
      slack = h.slack;
      floor = b;
      long = h.long;
      near = λ v x lv y. h.near v x lv (record { below = y.below; large = omega (arith, l, y.large); top = y.top });
    }

-- what is sought beside all forced vertices
pub fitted_held : {g : List ℕ} {k q f c : ℕ} (r : Option Set) → Fitted g (request k q 0) f c → Sought g (request k q 0) f c r → Held g k q f r
fitted_held (Some x) fit w = (record { below = w.below; lower = w.lower; plexed = w.plexed }, w.large)
fitted_held None fit none = none_larger (λ y h p. none y (fit.found y h p))

pub held_top : {g : List ℕ} {k f w q : ℕ} → Holding g k f w → q ≡ size w + 1 → Held g k q f None → Top g k f w
held_top h e none = record { holds = h; top = λ t y. omega (arith, none t y, e) }

-- no plex has more members than there are vertices
pub all_top : {g : List ℕ} {k f w : ℕ} → Holding g k f w → length g ≤ size w → Top g k f w
all_top {g} h l = record { holds = h; top = λ t y. omega (arith, ones-le (length g) t y.below, l) }

-- ---- the highest member

pub topmost_none : {s v : ℕ} → Lowest s v → Topmost s s v
topmost_none {s} {v} low =
    record { member = low.member; part = sub_refl s; passed = λ u i o. absurd (omega (arith, i, o)); ahead = λ u i. least u i (dec_lt u v) }
  where
    least : (u : ℕ) → In u s → Dec (u < v) → v ≤ u
    least u i (yes l) = absurd (omega (arith, i, low.least u l))
    least u i (no n) = omega arith

pub topmost_next : {s left b v l : ℕ} → Topmost s left b → Lowest left v → l ≡ without left v → Topmost s l v
topmost_next {s} {left} {b} {v} h low e =
    rw e (record {
      member = omega (arith, h.part v, low.member, bit_le s v);
      part = λ u. omega (arith, bit-minus left (2 ^ v) u, h.part u);
      passed = λ u i o. by_bit left u (λ j. same u (omega (arith, j, o, bit-minus left (2 ^ v) u, bit_le (2 ^ v) u)))
          (λ n. omega (arith, h.passed u i n, h.ahead v low.member));
      ahead = λ u i. least u (omega (arith, i, bit-minus left (2 ^ v) u, bit_le left u)) (dec_lt u v);
    })
  where
    least : (u : ℕ) → In u left → Dec (u < v) → v ≤ u
    least u i (yes l) = absurd (omega (arith, i, low.least u l))
    least u i (no n) = omega arith

    same : (u : ℕ) → In u (2 ^ v) → u ≤ v
    same u i = omega (arith, in_single v u i)

pub topmost_all : {s left b : ℕ} → left ≡ 0 → Topmost s left b → Highest s b
topmost_all z h = record { member = h.member; most = λ u i. h.passed u i (none_out z u) }

-- ---- without the highest candidate

module _ {g t : List ℕ} {ask : Request} {s c h rest w : ℕ} (p : Sparing g t ask s c h rest w) where
  pub sparing_ready : Ready g t ask s rest
  sparing_ready = without_ready h p.others p.ready

  -- the digits above h are those of s
  above : (x : ℕ) → Sub s x → Sub x (bit_or s c) → (u : ℕ) → h < u → bit x u ≡ bit s u
  above x low up u l =
      by_bit c u (λ i. absurd (omega (arith, p.highest.most u i))) (λ o. omega (arith, low u, up u, bit-bit_or s c u))

  -- of two sets between s and s with c the one that lacks h is the lower
  pub sparing_order : (x y : ℕ) → Sub s x → Sub x (bit_or s c) → Sub s y → Sub y (bit_or s c) → bit x h ≡ 0 → In h y → x < y
  sparing_order x y lx ux ly uy o i = order_highest x y h o i (λ u l. omega (arith, above x lx ux u l, above y ly uy u l))

  -- w lacks it
  pub spared_itself : {x : Set} → mask x ≡ w → bit w h ≡ 0 → Spared g ask s rest w (Some x)
  spared_itself {x} e o =
      let within = p.within in
      rw p.others (record {
        sought =
            rw e (record {
              below = within.below;
              plexed = within.plexed;
              large = within.large;
              lower = within.lower;
              upper = λ u.
                  omega (arith, within.upper u, bit-bit_or s c u, bit-bit_or s (without c h) u, bit-minus c (2 ^ h) u, single_out w h u o, bit_le w u);
            });
        lower = omega (arith, e);
      })

  -- what is found with the others lacks it
  pub spared_out : {r : ℕ} → Within g ask.slack ask.floor s rest r → bit r h ≡ 0
  spared_out y =
      omega (arith, rw p.others at (y.upper h), bit-bit_or s (without c h) h, without_same c h, p.ready.fine.apart h p.highest.member)

  -- one that lacks it is sought
  pub spared_sought : (r : Option Set) → In h w → Sought g ask s rest r → Spared g ask s rest w r
  spared_sought None i none = record { sought = none; lower = tt }
  spared_sought (Some x) i one =
      record {
        sought = one;
        lower =
            let inside = within_part c (minus-sub c (2 ^ h)) (rw p.others at one) in
            omega (arith, sparing_order (mask x) w one.lower inside.upper p.within.lower p.within.upper (spared_out one) i);
      }

-- ---- the lowest mask

pub top_some : {g : List ℕ} {k f w : ℕ} → 1 ≤ length g → 1 ≤ k → Top g k f w → 1 ≤ size w
top_some {g} {k} {f} {w} some slack h = go (dec_lt 0 (size w))
  where
    -- where w has no member, the set of vertex 0 is larger
    go : Dec (0 < size w) → 1 ≤ size w
    go (yes l) = l
    go (no n) =
        let none : (u : ℕ) → bit w u ≡ 0 = λ u. by_bit w u (λ i. absurd (n (positive_size w (positive w u i)))) (λ o. o) in
        let one = size_with 0 0 (bit_none 0) in
        let zero = ones-le 0 0 (pow_pos 0) in
        absurd (omega (
          arith,
          one,
          n,
          h.top (with 0 0) (record {
            below = with_below (length g) 0 0 (pow_pos (length g)) some;
            lower = λ u. omega (arith, h.holds.lower u, none u);
            plexed = small_plex g k (with 0 0) (omega (arith, one, zero, slack));
          }),
        ))

pub lowering_none : {g t : List ℕ} {k q f c w : ℕ} → Settled g t (request k q 0) → Fitted g (request k q 0) f c → Top g k f w → q ≡ size w
    → Lowering g t (request k q 0) f f c w
lowering_none {g} {t} {k} {q} {f} {c} {w} h fit top e =
    let holds = top.holds in
    let listed = top_listed holds top.top {q = q} (omega (arith, e)) in
    record {
      ready = record { settled = h; fine = fit.fine };
      forced = sub_refl f;
      top = λ y z. omega (arith, top.top y z, e);
      within =
          record {
            below = holds.below;
            plexed = holds.plexed;
            large = omega (arith, e);
            lower = holds.lower;
            upper = (fit.found w listed holds.lower).upper;
          };
      found = λ x l p less. fit.found x l p;
    }

module _ {g t : List ℕ} {k q f s c w : ℕ} (l : Lowering g t (request k q 0) f s c w) where
  abbrev ask : Request
  ask = request k q 0

  -- a plex of the size that holds f is listed: no vertex is silent
  size_listed : {x : ℕ} → Holding g ask.slack f x → ask.floor ≤ size x → Listed g ask x
  size_listed h many = top_listed h (λ y z. omega (arith, l.top y z, many)) many

  holds : Holding g ask.slack f w
  holds = record { below = l.within.below; lower = sub_trans f s w l.forced l.within.lower; plexed = l.within.plexed }

  pub lowering_sparing : {h rest : ℕ} → Highest c h → rest ≡ without c h → Sparing g t ask s c h rest w
  lowering_sparing high e =
      let top : Top g k f w = record { holds = holds; top = λ y z. omega (arith, l.top y z, l.within.large) } in
      record {
        ready = l.ready;
        floor = omega (arith, top_some l.ready.settled.sized.some l.ready.settled.slack.0 top, l.top w holds);
        highest = high;
        others = e;
        within = l.within;
      }

  module _ {h rest : ℕ} (p : Sparing g t ask s c h rest w) where
    pub lowering_lower : {r : Set} → Spared g ask s rest w (Some r) → Lowering g t ask f s rest (mask r)
    lowering_lower {r} y =
        let one = y.sought in
        let inside = within_part c (minus-sub c (2 ^ h)) (rw p.others at one) in
        record {
          ready = sparing_ready p;
          forced = l.forced;
          top = l.top;
          within = one;
          found = λ x listed q below.
              let f : Found g ask s c x = l.found x listed q (omega (arith, below, y.lower)) in
              rw p.others (without_found h f (by_bit x h (λ i. absurd (omega (
                arith,
                below,
                sparing_order p (mask r) x one.lower inside.upper f.lower f.upper (spared_out p one) i,
              ))) (λ o. o)));
        }

    pub lowering_with : {d j : ℕ} → Spared g ask s rest w None → Beside g ask s c h d → j ≡ with s h → Lowering g t ask f j d w
    lowering_with {d} {j} y b e =
        rw e (record {
          ready = join_ready l.ready member b refl;
          forced = sub_trans f s (with s h) l.forced (sub_with s h);
          top = l.top;
          within =
              record {
                below = l.within.below;
                plexed = l.within.plexed;
                large = l.within.large;
                lower = itself.lower;
                upper = itself.upper;
              };
          found = λ x listed q below. all_have (l.found x listed q below);
        })
      where
        member : In h c
        member = p.highest.member

        -- nothing listed lacks h
        all_have : {x : ℕ} → Found g ask s c x → Found g ask (with s h) d x
        all_have {x} f =
            by_bit x h (λ i. with_found member b f i) (λ o. absurd (y.sought x (rw p.others (without_found h f o))))

        itself : Found g ask (with s h) d w
        itself = all_have (record { lower = l.within.lower; upper = l.within.upper; listed = size_listed holds l.within.large })

  pub lowering_all : c ≡ 0 → Largest g ask.slack f w
  lowering_all z =
      record {
        holds = holds;
        top = λ x h. omega (arith, l.top x h, l.within.large);
        lowest = λ x h e. lower x h e (dec_lt x w);
      }
    where
      only : {x : ℕ} → Sub s x → Sub x (bit_or s c) → x ≡ s
      only {x} low up = ext x s (λ u. omega (arith, low u, up u, bit-bit_or s c u, none_out z u))

      lower : (x : ℕ) → Holding g ask.slack f x → size x ≡ size w → Dec (x < w) → w ≤ x
      lower x h e (no n) = omega arith
      lower x h e (yes below) =
          let f = l.found x (size_listed h (omega (arith, e, l.within.large))) h.lower below in
          absurd (omega (arith, below, only f.lower f.upper, only l.within.lower l.within.upper))
