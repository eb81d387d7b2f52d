-- Laws of a pass that looks only at members in doubt. A member that has enough neighbours loses none of them while only vertices that it is not adjacent to
-- are taken out; so what is not in doubt would stay where the pass looked at it, and to pass it by changes nothing.
--
--   Looked v e d e' d'             a look at v takes what is sure from the vertices below e outside d to those below e' outside d'
--   FirstPass g m s v kept doubt   the first pass has gone by the vertices below v
--   LaterPass g m s kept left ..   a later pass has come to some vertex: left is still to be looked at, and next in the next pass
use Rattle.std.specs.Prelude.{◌≡◌, ℕ, suc, ◌+◌, ◌*◌, ◌^◌, ◌<◌, ◌≤◌, List, length}
use Rattle.std.proofs.Common.{le_refl, le_trans, lt_of_not-le, le_of_suc-le-suc, le_antisymm, not-suc-le-zero, suc-mul, mul-le-mul_right, arith, sym, ap, subst, ◌∙◌}
use Rattle.std.specs.Prelude.{refl}
use Rattle.std.specs.Int.Bits.{bit_and, bit_or}
use Rattle.sets.specs.Set.{bit, In, Sub, without, full, minus}
use Rattle.sets.specs.Words.{Lowest}
use Rattle.sets.specs.Graph.{row}
use Rattle.sets.specs.BitLaws.{ext, bit-bit_and, bit-bit_or, bit-minus, bit-pow_same, bit_le}
use Rattle.sets.specs.PointLaws.{by_bit, bit_none, in_single, single_out, bit_without, none_out}
use Rattle.sets.specs.SizeLaws.{size_mono, minus_below}
use Rattle.sets.specs.SubsetLaws.{in_below, in_of_sub, sub_below}
use Rattle.sets.specs.WordLaws.{bit-full, bit-full_out}
use Rattle.sets.specs.WalkLaws.{without_less}
use Rattle.judging.specs.Graph.{degree, Valid}
use Rattle.bounds.specs.Core.{pass_to, pass}
use Rattle.bounds.specs.PassSetting.{Sure, Doubtable, Passes}
use Rattle.bounds.specs.PassLaws.{look_stays, look_goes, look_none, pass_to_next, pass_to_same}

-- a vertex that is not adjacent to v loses nothing with it
degree_apart : (g : List ℕ) (s u v : ℕ) → bit (row g u) v ≡ 0 → degree g s u ≤ degree g (without s v) u
unfolding degree
degree_apart g s u v out =
    size_mono (bit_and s (row g u)) (bit_and (without s v) (row g u)) (λ w.
    omega (arith, bit-bit_and s (row g u) w, bit-bit_and (without s v) (row g u) w, bit_without s v w, single_out (row g u) v w out))

-- t in two parts, those in f and the others, each joined to a set of its own
split_or : (a b t f : ℕ) → bit_or (bit_or a (minus t f)) (bit_or b (bit_and t f)) ≡ bit_or (bit_or a b) t
split_or a b t f = exchanged (minus t f) (bit_and t f) ∙ ap (bit_or (bit_or a b)) whole
  where
    exchanged : (x y : ℕ) → bit_or (bit_or a x) (bit_or b y) ≡ bit_or (bit_or a b) (bit_or x y)
    exchanged x y =
        ext (bit_or (bit_or a x) (bit_or b y)) (bit_or (bit_or a b) (bit_or x y)) (λ u.
        omega (arith, bit-bit_or (bit_or a x) (bit_or b y) u, bit-bit_or a x u, bit-bit_or b y u, bit-bit_or (bit_or a b) (bit_or x y) u, bit-bit_or a b u, bit-bit_or x y u))

    whole : bit_or (minus t f) (bit_and t f) ≡ t
    whole =
        ext (bit_or (minus t f) (bit_and t f)) t (λ u.
        omega (arith, bit-bit_or (minus t f) (bit_and t f) u, bit-minus t f u, bit-bit_and t f u, bit_le t u, bit_le f u))

-- ---- a look at v

other_below : (u v : ℕ) → u < v + 1 → bit (2 ^ v) u ≡ 0 → u < v
other_below u v l other = lt_of_not-le (λ here. omega (arith, ap (λ (x : ℕ). bit (2 ^ x) u) (le_antisymm here (omega arith)), bit-pow_same u))

abbrev Looked : ℕ → ℕ → ℕ → ℕ → ℕ → Type 0
Looked v e d e' d' = (u : ℕ) → u < e' → bit (2 ^ v) u ≡ 0 → bit d' u ≡ 0 → (u < e) × (bit d u ≡ 0)

module _ {g : List ℕ} {m e kept d : ℕ} (v : ℕ) (h : Sure g m e kept d) (e' d' : ℕ) (looked : Looked v e d e' d') where
  sure_stays : m ≤ degree g kept v → Sure g m e' kept d'
  sure_stays many =
      record {
        enough = λ u l i o.
            by_bit (2 ^ v) u
            (λ here. omega (arith, ap (degree g kept) (in_single v u here)))
            (λ other. h.enough u (looked u l other o).0 i (looked u l other o).1);
      }

  -- those that are adjacent to v come into doubt
  sure_goes : Valid g → v < length g → e' ≤ length g → Sure g m e' (without kept v) (bit_or d' (bit_and (without kept v) (row g v)))
  sure_goes valid b most =
      record {
        enough = λ u l i o.
            by_bit (2 ^ v) u
            (λ here. absurd (omega (arith, i, bit_without kept v u, here, bit_le kept u)))
            (λ other.
            let touched = bit-bit_or d' (bit_and (without kept v) (row g v)) u in
            let clear : bit d' u ≡ 0 = omega (arith, o, touched) in
            let out : bit (row g v) u ≡ 0 = omega (arith, i, o, touched, bit-bit_and (without kept v) (row g v) u) in
            le_trans
            (h.enough u (looked u l other clear).0 (omega (arith, i, bit_without kept v u, bit_le kept u)) (looked u l other clear).1)
            (degree_apart g kept u v (sym (valid.mutually v u b (omega arith)) ∙ out)));
      }

-- ---- the first pass

pub record FirstPass (g : List ℕ) (m s v kept doubt : ℕ) : Type 0 where
  pub done : kept ≡ pass_to g m s v
  pub sure : Sure g m v kept doubt
  pub most : v ≤ length g

pub first_pass_none : {g : List ℕ} {m s d : ℕ} → FirstPass g m s 0 s d
unfolding pass_to
first_pass_none = record { done = refl; sure = record { enough = λ u l i o. absurd (not-suc-le-zero l) }; most = omega arith }

module _ {g : List ℕ} {m s v kept doubt d : ℕ} (p : FirstPass g m s v kept doubt) (b : v < length g) (deg : d ≡ degree g kept v) where
  looked : Looked v v doubt (v + 1) doubt
  looked u l other o = (other_below u v l other, o)

  pub first_pass_stays : m ≤ d → FirstPass g m s (v + 1) kept doubt
  first_pass_stays many =
      let enough : m ≤ degree g kept v = omega arith in
      record {
        done = pass_to_next g m s v p.done (look_stays g m kept v enough);
        sure = sure_stays v p.sure (v + 1) doubt looked enough;
        most = omega arith;
      }

  pub first_pass_goes : Valid g → d < m → FirstPass g m s (v + 1) (without kept v) (bit_or doubt (bit_and (without kept v) (row g v)))
  first_pass_goes valid few =
      record {
        done = pass_to_next g m s v p.done (look_goes g m kept v (omega arith));
        sure = sure_goes v p.sure (v + 1) doubt looked valid b (omega arith);
        most = omega arith;
      }

-- what was taken out since it came into doubt is not looked at again
pub first_pass_all : {g : List ℕ} {m s v kept doubt : ℕ} → FirstPass g m s v kept doubt → length g ≤ v → Passes g m s kept (bit_and kept doubt)
unfolding pass
first_pass_all {g} {m} {s} {v} {kept} {doubt} p l =
    let end : v ≡ length g = omega (arith, p.most) in
    record {
      left = p.done ∙ ap (pass_to g m s) end;
      part = λ u. omega (arith, bit-bit_and kept doubt u);
      sure = record { enough = λ u b i o. p.sure.enough u (omega arith) i (omega (arith, i, o, bit-bit_and kept doubt u)) };
    }

-- ---- a later pass

pub record LaterPass (g : List ℕ) (m s kept left next : ℕ) : Type 0 where
  pub cursor : ℕ
  pub most : cursor ≤ length g
  pub done : kept ≡ pass_to g m s cursor
  pub ahead : (u : ℕ) → u < cursor → bit left u ≡ 0
  pub behind : (u : ℕ) → cursor ≤ u → bit next u ≡ 0
  pub part : Sub left kept × Sub next kept
  pub below : kept < 2 ^ length g
  pub sure : Sure g m (length g) kept (bit_or left next)

pub later_pass_none : {g : List ℕ} {m s d : ℕ} → Doubtable g m s d → LaterPass g m s s d 0
unfolding pass_to
later_pass_none {g} {m} {s} {d} p =
    record {
      cursor = 0;
      most = omega arith;
      done = refl;
      ahead = λ u l. absurd (not-suc-le-zero l);
      behind = λ u l. bit_none u;
      part = (p.part, λ u. omega (arith, bit_none u));
      below = p.judgeable.inside.below;
      sure = record { enough = λ u l i o. p.sure.enough u l i (omega (arith, o, bit-bit_or d 0 u)) };
    }

module _ {g : List ℕ} {m s kept left next : ℕ} (p : LaterPass g m s kept left next) where
  -- none that is not in doubt would go: the pass is as far as the next that is
  skipped : (v : ℕ) → p.cursor ≤ v → v ≤ length g → ((u : ℕ) → u < v → bit left u ≡ 0) → kept ≡ pass_to g m s v
  skipped v l b none =
      pass_to_same g m s p.cursor v l p.done (λ u from to.
      by_bit kept u
      (λ i. look_stays g m kept u (p.sure.enough u (omega arith) i (omega (arith, none u to, p.behind u from, bit-bit_or left next u))))
      (λ o. look_none g m kept u o))

  -- none is left
  pub later_pass_all : left ≡ 0 → Passes g m s kept next
  unfolding pass
  later_pass_all z =
      record {
        left = skipped (length g) p.most (le_refl (length g)) (λ u l. none_out z u);
        part = p.part.1;
        sure = record { enough = λ u l i o. p.sure.enough u l i (omega (arith, o, bit-bit_or left next u, none_out z u)) };
      }

  -- v is looked at
  module _ {v : ℕ} (here : Lowest left v) where
    member : In v kept
    member = in_of_sub left kept v p.part.0 here.member

    pub later_pass_vertex : v < length g
    later_pass_vertex = in_below (length g) kept v p.below member

    after_cursor : p.cursor ≤ v
    after_cursor = le_of_suc-le-suc (lt_of_not-le (λ l. omega (arith, here.member, p.ahead v l)))

    so_far : kept ≡ pass_to g m s v
    so_far = skipped v after_cursor (omega (arith, later_pass_vertex)) here.least

    gone_by : (u : ℕ) → u < v + 1 → bit (without left v) u ≡ 0
    gone_by u l =
        by_bit (2 ^ v) u
        (λ same. omega (arith, same, bit_without left v u, bit_le left u))
        (λ other. omega (arith, bit_without left v u, here.least u (other_below u v l other)))

    looked_later : Looked v (length g) (bit_or left next) (length g) (bit_or (without left v) next)
    looked_later u l other o = (l, omega (arith, o, other, bit-bit_or (without left v) next u, bit-bit_or left next u, bit_without left v u))

    module _ {d : ℕ} (deg : d ≡ degree g kept v) where
      pub later_pass_stays : m ≤ d → LaterPass g m s kept (without left v) next
      later_pass_stays many =
          let enough : m ≤ degree g kept v = omega arith in
          record {
            cursor = v + 1;
            most = omega (arith, later_pass_vertex);
            done = pass_to_next g m s v so_far (look_stays g m kept v enough);
            ahead = gone_by;
            behind = λ u l. p.behind u (omega (arith, after_cursor));
            part = (λ u. omega (arith, p.part.0 u, bit_without left v u), p.part.1);
            below = p.below;
            sure = sure_stays v p.sure (length g) (bit_or (without left v) next) looked_later enough;
          }

      -- t are those left that are adjacent to v
      module _ (few : d < m) (valid : Valid g) {t : ℕ} (e : t ≡ bit_and (without kept v) (row g v)) where
        pub later_pass_goes : LaterPass g m s (without kept v) (bit_or (without left v) (minus t (full (v + 1)))) (bit_or next (bit_and t (full (v + 1))))
        later_pass_goes =
            record {
              cursor = v + 1;
              most = omega (arith, later_pass_vertex);
              done = pass_to_next g m s v so_far (look_goes g m kept v (omega arith));
              ahead = λ u l.
                  omega (arith, gone_by u l, bit-bit_or (without left v) (minus t seen) u, bit-minus t seen u, bit-full (v + 1) u l, bit_le t u);
              behind = λ u l.
                  omega (arith, p.behind u (omega (arith, after_cursor)), bit-bit_or next (bit_and t seen) u, bit-bit_and t seen u, bit-full_out (v + 1) u l);
              part = (to_look, for_next);
              below = minus_below (length g) kept (2 ^ v) p.below;
              sure = subst (Sure g m (length g) (without kept v)) (sym in_doubt) doubted;
            }
          where
            seen : ℕ
            seen = full (v + 1)

            within : (u : ℕ) → bit t u ≤ bit (without kept v) u
            within u = omega (arith, ap (λ (x : ℕ). bit x u) e, bit-bit_and (without kept v) (row g v) u)

            to_look : Sub (bit_or (without left v) (minus t seen)) (without kept v)
            to_look u =
                omega (arith, within u, p.part.0 u, bit-bit_or (without left v) (minus t seen) u, bit-minus t seen u, bit_without left v u, bit_without kept v u)

            for_next : Sub (bit_or next (bit_and t seen)) (without kept v)
            for_next u =
                omega (
                  arith,
                  within u,
                  p.part.1 u,
                  bit-bit_or next (bit_and t seen) u,
                  bit-bit_and t seen u,
                  bit_without kept v u,
                  single_out next v u (p.behind v after_cursor),
                  bit_le kept u,
                )

            in_doubt : bit_or (bit_or (without left v) (minus t seen)) (bit_or next (bit_and t seen))
                ≡ bit_or (bit_or (without left v) next) (bit_and (without kept v) (row g v))
            in_doubt = split_or (without left v) next t seen ∙ ap (bit_or (bit_or (without left v) next)) e

            doubted : Sure g m (length g) (without kept v) (bit_or (bit_or (without left v) next) (bit_and (without kept v) (row g v)))
            doubted = sure_goes v p.sure (length g) (bit_or (without left v) next) looked_later valid later_pass_vertex (le_refl (length g))

        pub later_pass_goes_falls : without kept v * 2 ^ length g + bit_or (without left v) (minus t (full (v + 1))) < kept * 2 ^ length g + left
        later_pass_goes_falls =
            let n = 2 ^ length g in
            let less : suc (without kept v) * n ≤ kept * n = mul-le-mul_right n (without_less kept v member) in
            omega (
              arith,
              less,
              suc-mul (without kept v) n,
              sub_below (length g) _ (without kept v) later_pass_goes.part.0 later_pass_goes.below,
            )

    pub later_pass_stays_falls : kept * 2 ^ length g + without left v < kept * 2 ^ length g + left
    later_pass_stays_falls = omega (arith, without_less left v here.member)
