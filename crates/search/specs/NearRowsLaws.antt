-- Laws of the tables of near rows: two members of a listed plex are close, the walk that finds a pair row, a table filled row by row, and that it is
-- near, as each kind of row is.
--
--   Written f m before t   the first m rows of t are those of f, and t is as long as before
--   NearAt g ask v r       r is a set of vertices, and holds all members, v aside, of each listed plex that holds v
use Rattle.std.specs.Prelude.{◌≡◌, ℕ, ◌+◌, ◌*◌, ◌^◌, ◌<◌, ◌≤◌, max, Bool, true, false, cond, not, T, ◌≢◌, ◌⊎◌, List, length, nat_le, slice_set}
use Rattle.std.proofs.Common.{le_trans, not-suc-le-zero, arith, sym, ap, subst, ◌∙◌, inl, inr, T_not, length-set, pow_pos, get_or-set_same, get_or-set_other}
use Rattle.std.proofs.Math.Decide.{ℕ_discrete}
use Rattle.std.specs.Prelude.{refl}
use Rattle.std.specs.Int.Bits.{bit_and}
use Rattle.std.proofs.Math.Dec.{le→leb}
use Rattle.sets.specs.Set.{bit, has, In, Sub, size, with, without, full}
use Rattle.sets.specs.Graph.{row}
use Rattle.sets.specs.RangeLaws.{both, and_left, and_right, test}
use Rattle.sets.specs.BitLaws.{bit_le, bit-bit_and, bit-bit_or, bit-minus, bit-pow_same}
use Rattle.sets.specs.PointLaws.{bit_none, bit_with, single_in, single_out}
use Rattle.sets.specs.SizeLaws.{size_mono}
use Rattle.sets.specs.SubsetLaws.{sub_refl, sub_of_in, sub_below, without_other, minus-sub, in_of_sub, in_below, in_has, has_in}
use Rattle.sets.specs.MemberLaws.{set_of_in, set_of_holds, set_of_below, set_of_unique}
use Rattle.sets.specs.WordLaws.{bit-full}
use Rattle.judging.specs.Request.{Request, recorded}
use Rattle.judging.specs.Graph.{Valid}
use Rattle.judging.specs.Plex.{Plex}
use Rattle.judging.specs.PlexLaws.{hereditary}
use Rattle.bounds.specs.Pair.{common}
use Rattle.bounds.specs.PairLaws.{pair_common}
use Rattle.bounds.specs.Reach.{reach}
use Rattle.bounds.specs.ReachLaws.{reach_below, plex-reach}
use Rattle.lists.specs.Listing.{Listed}
use Rattle.lists.specs.ListingLaws.{listed_size}
use Rattle.search.specs.RecordedLaws.{counting, counting_large}
use Rattle.search.specs.NearRows.{close, pair_row, reach_row, near_row, Pairs, Filled}
use Rattle.sets.specs.DropLaws.{Dropping, dropping_all}

-- ---- pairs

-- two members of a listed plex are close: what j, a part of it, and its members that are not silent have in common with both counts, and q is raised by the
-- silent members of j
module _ {g : List ℕ} {ask : Request} {x : ℕ} (h : Listed g ask x) (ok : Valid g) (j s q : ℕ) (part : Sub j x) (inside : Sub j s)
    (counts : Sub (recorded ask x) s) (floor : q ≤ ask.floor + size (bit_and j ask.silent)) where
  pub pair_close : (u v : ℕ) → In u x → In v x → u ≢ v → T (close g ask.slack q s u v)
  unfolding close common
  pair_close u v hu hv ne =
      le→leb (q + 2) (common g s u v + 2 * ask.slack + 2 * bit (row g u) v)
      (omega (arith, pair_common g ask.slack ok y y u v below plexed (sub_refl y) in_u in_v ne, floor, enough, shared))
    where
      -- the two of them, j and what is not silent
      y : ℕ
      y = with (with (counting ask j x) u) v

      bit_y : (w : ℕ) → bit y w ≡ max (max (max (bit j w) (bit (recorded ask x) w)) (bit (2 ^ u) w)) (bit (2 ^ v) w)
      bit_y w =
          bit_with (with (counting ask j x) u) v w
          ∙ ap (λ (t : ℕ). max t (bit (2 ^ v) w)) (bit_with (counting ask j x) u w ∙ ap (λ (t : ℕ). max t (bit (2 ^ u) w)) (bit-bit_or j (recorded ask x) w))

      within : Sub y x
      within w = omega (arith, bit_y w, part w, bit-minus x ask.silent w, single_in x u w hu, single_in x v w hv)

      below : y < 2 ^ length g
      below = sub_below (length g) y x within h.below

      plexed : Plex g ask.slack y
      plexed = hereditary g ask.slack y x within h.top.0

      in_u : In u y
      in_u = omega (arith, bit_y u, bit-pow_same u, bit_le y u)

      in_v : In v y
      in_v = omega (arith, bit_y v, bit-pow_same v, bit_le y v)

      enough : ask.floor + size (bit_and j ask.silent) ≤ size y
      enough =
          omega (arith, counting_large ask j x part h, size_mono (counting ask j x) y (λ w. omega (arith, bit_y w, bit-bit_or j (recorded ask x) w)))

      -- neither of them is a neighbour of both
      shared : size (bit_and y (bit_and (row g u) (row g v))) ≤ size (bit_and s (bit_and (row g u) (row g v)))
      shared =
          let out_u = ok.loopless u (in_below (length g) x u h.below hu) in
          let out_v = ok.loopless v (in_below (length g) x v h.below hv) in
          size_mono _ _ (λ w.
          omega (
            arith,
            bit_y w,
            bit-bit_and y (bit_and (row g u) (row g v)) w,
            bit-bit_and s (bit_and (row g u) (row g v)) w,
            bit-bit_and (row g u) (row g v) w,
            inside w,
            counts w,
            single_out (row g u) u w out_u,
            single_out (row g v) v w out_v,
            bit_le s w,
          ))

  -- so a member in f other than v is in the pair row of v
  pub pair_row_in : (f v u : ℕ) → In v x → In u x → v ≢ u → In u f → In u (pair_row g ask.slack q s f v)
  unfolding pair_row
  pair_row_in f v u hv hu ne i =
      set_of_in _ (length g) u (in_below _ x u h.below hu)
      (both (has (without f v) u) (close g ask.slack q s v u) (in_has _ u (without_other f v u ne ∙ i)) (pair_close v u hv hu ne))

-- the test by its parts: the rows a and b, what they share, that in s, its size, and whether a holds u
pub close_test : (g : List ℕ) (k q s v u : ℕ) {a b m c n t : ℕ} → a ≡ row g v → b ≡ row g u → m ≡ bit_and a b → c ≡ bit_and s m → n ≡ size c
    → t ≡ bit a u → nat_le (q + 2) (n + 2 * k + 2 * t) ≡ close g k q s v u
unfolding close common
close_test g k q s v u ea eb em ec en et = rw (et, en, ec, em, eb, ea)

-- ---- pair rows

pub pair_row_part : (g : List ℕ) (k q s f v : ℕ) → Sub (pair_row g k q s f v) f
unfolding pair_row
pair_row_part g k q s f v =
    sub_of_in _ f (λ u i.
    in_of_sub (without f v) f u (minus-sub f (2 ^ v))
    (has_in (without f v) u (and_left (has (without f v) u) (close g k q s v u) (set_of_holds _ (length g) u i).1)))

-- a walk through f without v that drops what is not close to v ends with the pair row
pub pair_row_all : (g : List ℕ) (k q s f v : ℕ) {left r : ℕ} → left ≡ 0
    → Dropping (length g) (λ u. not (close g k q s v u)) (without f v) (without f v) left r → r ≡ pair_row g k q s f v
unfolding pair_row
pair_row_all g k q s f v {left} {r} z h =
    set_of_unique _ (length g) r (sub_below _ r (without f v) h.part h.within)
    (λ u l i. both (has (without f v) u) (close g k q s v u) (in_has _ u (in_of_sub r _ u h.part i)) (closes u i (test (close g k q s v u))))
    (λ u l t.
    h.stays u (has_in _ u (and_left (has (without f v) u) (close g k q s v u) t)) (λ no_pass.
    T_not (close g k q s v u) no_pass (and_right (has (without f v) u) (close g k q s v u) t)))
  where
    closes : (u : ℕ) → In u r → T (close g k q s v u) ⊎ T (not (close g k q s v u)) → T (close g k q s v u)
    closes u i (inl t) = t
    closes u i (inr t) = absurd (omega (arith, i, dropping_all z h u (in_of_sub r (without f v) u h.part i) t))

-- ---- a table filled row by row

pub record Written (f : ℕ → ℕ) (m : ℕ) (before t : List ℕ) : Type 0 where
  pub long : length t ≡ length before
  pub rows : (v : ℕ) → v < m → row t v ≡ f v

pub written_none : {f : ℕ → ℕ} {before : List ℕ} → Written f 0 before before
written_none = record { long = refl; rows = λ v l. absurd (not-suc-le-zero l) }

pub written_more : {f : ℕ → ℕ} {m s : ℕ} {before t r : List ℕ} → Written f m before t → m < length t → s ≡ f m → r ≡ slice_set t m s
    → Written f (m + 1) before r
unfolding row
written_more {f} {m} {s} {before} {t} w l e d =
    subst (Written f (m + 1) before) (sym d) (record { long = length-set t m s ∙ w.long; rows = λ v b. go v b (ℕ_discrete v m) })
  where
    go : (v : ℕ) → v < m + 1 → Dec (v ≡ m) → row (slice_set t m s) v ≡ f v
    go v b (yes z) = subst (λ (u : ℕ). row (slice_set t m s) u ≡ f u) (sym z) (get_or-set_same t m s 0 l ∙ e)
    go v b (no nz) = get_or-set_other t m v s 0 nz ∙ w.rows v (omega arith)

-- ---- each kind of row is near

pub record NearAt (g : List ℕ) (ask : Request) (v r : ℕ) : Type 0 where
  pub low : r < 2 ^ length g
  pub near : (x : ℕ) → Listed g ask x → In v x → (u : ℕ) → In u x → u ≢ v → In u r

module _ {g : List ℕ} {ask : Request} {v : ℕ} where
  pub full_near : NearAt g ask v (full (length g))
  full_near = record { low = omega (arith, pow_pos (length g)); near = λ x h hv u hu ne. bit-full (length g) u (in_below _ x u h.below hu) }

  module _ (ok : Valid g) where
    -- what is near, sifted by pairs
    pub pair_row_near : (a s w : ℕ) → Pairs g ask a s → NearAt g ask v w → NearAt g ask v (pair_row g ask.slack ask.floor s (bit_and a w) v)
    unfolding pair_row
    pair_row_near a s w pairs wide =
        record {
          low = set_of_below _ (length g);
          near = λ x h hv u hu ne.
              pair_row_in h ok 0 s ask.floor (λ z. omega (arith, bit_none z)) (λ z. omega (arith, bit_none z)) (pairs.counts x h) (omega arith)
              (bit_and a w) v u hv hu (λ e. ne (sym e))
              (omega (arith, bit-bit_and a w u, in_of_sub x a u (pairs.holds x h) hu, wide.near x h hv u hu ne));
        }

    module _ (big : 2 * ask.slack ≤ ask.floor + 1) where
      pub reach_near : NearAt g ask v (reach g v)
      reach_near =
          record {
            low = reach_below g v;
            near = λ x h hv u hu ne.
                in_of_sub x (reach g v) u (plex-reach g ask.slack x v ok h.below h.top.0 (omega (arith, listed_size g ask h)) hv) hu;
          }

    pub reach_row_near : (r : Bool) → (r ≡ true → 2 * ask.slack ≤ ask.floor + 1) → NearAt g ask v (reach_row g r v)
    unfolding reach_row
    reach_row_near true big = reach_near (big refl)
    reach_row_near false big = full_near

-- whatever is switched on
module _ {g : List ℕ} {ask : Request} {a s : ℕ} (ok : Valid g) (h : Pairs g ask a s) (r p : Bool) (big : r ≡ true → 2 * ask.slack ≤ ask.floor + 1) where
  near_row_near : (v : ℕ) → NearAt g ask v (near_row g ask.slack ask.floor a s r p v)
  unfolding near_row
  near_row_near v = go p
    where
      go : (p : Bool) → NearAt g ask v (cond p (pair_row g ask.slack ask.floor s (bit_and a (reach_row g r v)) v) (reach_row g r v))
      go true = pair_row_near ok a s (reach_row g r v) h (reach_row_near ok r big)
      go false = reach_row_near ok r big

  -- so the table is
  pub written_filled : {m : ℕ} {before t : List ℕ} → length g ≤ m → Written (near_row g ask.slack ask.floor a s r p) m before t → Filled g ask before t
  written_filled all w =
      record {
        long = w.long;
        low = λ v l. rw (w.rows v (le_trans l all)) (near_row_near v).low;
        near = λ v x l i hv u hu ne. rw (w.rows v (le_trans l all)) ((near_row_near v).near x i hv u hu ne);
      }
