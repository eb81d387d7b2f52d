-- Laws of a sweep: each step takes a vertex v of those to take, adds what is found with v and the waiting candidates that v is adjacent to, and lets v wait.
-- So a clique comes at the highest of its vertices that are to be taken.
--
--   Step g s b m t v j r w b2 t2        one step takes v out of t: the candidates with v are r, and b and t become b2 and t2
--   Swept g ask s b m t .. b2 t2 ..     a sweep on its way: b and t have become b2 and t2, and what was to be added so far is in the slots
use Rattle.std.specs.Prelude.{◌≡◌, ℕ, ◌+◌, ◌-◌, ◌^◌, ◌<◌, ◌≤◌, min, max, Bool, T, ◌⊎◌, List, length}
use Rattle.std.proofs.Common.{arith, ap, ◌∙◌, inl, inr}
use Rattle.std.proofs.Math.Decide.{ℕ_discrete}
use Rattle.std.specs.Prelude.{refl}
use Rattle.std.specs.Int.Bits.{bit_and, bit_or}
use Rattle.sets.specs.Set.{bit, In, with, without}
use Rattle.sets.specs.Graph.{row}
use Rattle.sets.specs.Words.{Lowest}
use Rattle.sets.specs.BitLaws.{ext, bit_le, bit-bit_and, bit-bit_or, bit-minus}
use Rattle.sets.specs.PointLaws.{bit_with, single_in, single_out, by_bit, none_out, none_by}
use Rattle.sets.specs.RangeLaws.{or_cases, or_left, or_right, test_same}
use Rattle.sets.specs.SubsetLaws.{sub_trans, sub_number, with_sub, with_same, sub_with, positive, positive_of}
use Rattle.sets.specs.WalkLaws.{without_less}
use Rattle.judging.specs.Request.{Request}
use Rattle.judging.specs.Plex.{Plex}
use Rattle.lists.specs.Placing.{union, Apart, Adds}
use Rattle.lists.specs.PlacingLaws.{adds_none, adds_same, adds_both}
use Rattle.search.specs.Found.{found, Found, AddsFound}
use Rattle.search.specs.FoundLaws.{found_holds, found_test}
use Rattle.search.specs.Cliques.{touched, Taking, Sweeping}
use Rattle.search.specs.CliqueLaws.{clique_near, common_apart, common_vertex, touched_holds, touched_test}
use Rattle.search.specs.TakeLaws.{Joined, joined, take_with}

-- ---- pointwise

bit_taken : (s b r v u : ℕ) → bit (bit_or (with s v) (bit_and b r)) u ≡ max (max (bit s u) (bit (2 ^ v) u)) (min (bit b u) (bit r u))
bit_taken s b r v u = rw (bit-bit_or, bit_with, bit-bit_and)

bit_left : (x t v u : ℕ) → bit (bit_and x (without t v)) u ≡ min (bit x u) (bit t u - bit (2 ^ v) u)
bit_left x t v u = rw (bit-bit_and, bit-minus)

-- ---- one step of a sweep: v of t is taken, with the candidates of b that it is adjacent to, and waits from then on

module _ {g : List ℕ} {s b m t : ℕ} (h : Sweeping g s b m t) (v : ℕ) (i : In v t) where
  pub sweep_near : In v m
  sweep_near = omega (arith, h.taking.part v, bit-bit_or b t v, bit_le m v)

  pub sweep_vertex : v < length g
  sweep_vertex = common_vertex h.taking.valid h.taking.common v sweep_near

  -- b with v and t without it
  same : bit_or (with b v) (without t v) ≡ bit_or b t
  same =
      ext (bit_or (with b v) (without t v)) (bit_or b t) (λ u.
      omega (arith, bit-bit_or (with b v) (without t v) u, bit-bit_or b t u, bit_with b v u, bit-minus t (2 ^ v) u, single_in t v u i, bit_le t u, bit_le b u))

  left_sweeping : Sweeping g s (with b v) m (without t v)
  left_sweeping =
      record {
        taking = rw same h.taking;
        apart = λ u. omega (arith, bit_with b v u, bit-minus t (2 ^ v) u, h.apart u, single_in t v u i, bit_le t u);
      }

  -- the candidates with v
  taken_falls : bit_and b (row g v) < bit_or b t
  taken_falls =
      omega (
        arith,
        sub_number (bit_and b (row g v)) (without (bit_or b t) v) (λ u.
            omega (arith, bit-bit_and b (row g v) u, bit-minus (bit_or b t) (2 ^ v) u, bit-bit_or b t u, single_out b v u (omega (arith, h.apart v)))),
        without_less (bit_or b t) v (omega (arith, bit-bit_or b t v, bit_le b v)),
      )

-- ---- what a step adds: what is found with v and the candidates of b that v is adjacent to, and what is touched by the rest of t

abbrev first : List ℕ → Request → ℕ → ℕ → ℕ → ℕ → Bool
first g ask s b v = found g ask (with s v) (bit_and b (row g v))

abbrev rest : List ℕ → Request → ℕ → ℕ → ℕ → ℕ → ℕ → Bool
rest g ask s b t v = touched g ask s (with b v) (without t v)

module _ {g : List ℕ} (ask : Request) (one : ask.slack ≡ 1) {s b m t : ℕ} (h : Sweeping g s b m t) where
  -- nothing is left to be taken
  sweep_none : t ≡ 0 → (slots : List ℕ) (count : ℕ) → Adds (2 ^ length g) (touched g ask s b t) slots count slots count
  sweep_none z slots count =
      adds_none (2 ^ length g) (touched g ask s b t) slots count (λ x l k.
      omega (arith, (touched_holds g ask s b t x l k).1, none_by (bit_and x t) (λ u. omega (arith, bit-bit_and x t u, none_out z u))))

  module _ (v : ℕ) (i : In v t) where
    -- what is touched by t has v and nothing else of t, or is touched by the rest of t
    module _ (x : ℕ) where
      taken : Found g ask s (bit_or b t) x → In v x → bit_and x (without t v) ≡ 0 → Found g ask (with s v) (bit_and b (row g v)) x
      taken f j z = record { lower = with_sub s v x f.lower j; upper = within; listed = f.listed }
        where
          waits : (u : ℕ) → bit x u ≤ bit s u + bit b u + bit (2 ^ v) u
          waits u = omega (arith, f.upper u, bit-bit_or s (bit_or b t) u, bit-bit_or b t u, none_out z u, bit_left x t v u)

          within : (u : ℕ) → bit x u ≤ bit (bit_or (with s v) (bit_and b (row g v))) u
          within u =
              let clique : Plex g 1 x = rw one at f.listed.top.0 in
              omega (arith, waits u, clique_near g h.taking.valid x v f.listed.below clique j u, bit_taken s b (row g v) v u, bit_le x u)

      given : Found g ask (with s v) (bit_and b (row g v)) x → Found g ask s (bit_or b t) x
      given f =
          record {
            lower = sub_trans s (with s v) x (sub_with s v) f.lower;
            upper = λ u. omega (arith, f.upper u, bit_taken s b (row g v) v u, bit-bit_or s (bit_or b t) u, bit-bit_or b t u, single_in t v u i);
            listed = f.listed;
          }

      -- no clique is in both
      alone : Found g ask (with s v) (bit_and b (row g v)) x → bit_and x (without t v) ≡ 0
      alone f =
          none_by (bit_and x (without t v)) (λ u.
          let out : bit s u + bit t u ≤ 1 = omega (arith, common_apart h.taking.valid h.taking.common u, h.taking.part u, bit-bit_or b t u) in
          omega (arith, f.upper u, bit_taken s b (row g v) v u, bit_left x t v u, h.apart u, bit_le t u))

      fewer : bit_and x (without t v) ≤ bit_and x t
      fewer = sub_number (bit_and x (without t v)) (bit_and x t) (λ u. omega (arith, bit_left x t v u, bit-bit_and x t u))

      -- a clique that meets t and not the rest of t has v
      only : bit_and x (without t v) ≡ 0 → 0 < bit_and x t → In v x
      only z l = by_bit x v (λ j. j) (λ o. absurd (omega (arith, missed o)))
        where
          missed : bit x v ≡ 0 → bit_and x t ≡ 0
          missed o = none_by (bit_and x t) (λ u. omega (arith, none_out z u, bit_left x t v u, bit-bit_and x t u, single_out x v u o))

    sweep_apart : Apart (2 ^ length g) (first g ask s b v) (rest g ask s b t v)
    sweep_apart x l y z =
        omega (arith, alone x (found_holds g ask (with s v) (bit_and b (row g v)) x l y), (touched_holds g ask s (with b v) (without t v) x l z).1)

    sweep_split : (x : ℕ) → x < 2 ^ length g → union (first g ask s b v) (rest g ask s b t v) x ≡ touched g ask s b t x
    sweep_split x l =
        test_same (union (first g ask s b v) (rest g ask s b t v) x) (touched g ask s b t x)
        (λ y. back (or_cases (first g ask s b v x) (rest g ask s b t v x) y))
        (λ y. let w = touched_holds g ask s b t x l y in into w.0 w.1 (ℕ_discrete (bit_and x (without t v)) 0))
      where
        back : T (first g ask s b v x) ⊎ T (rest g ask s b t v x) → T (touched g ask s b t x)
        back (inl y) =
            let f = found_holds g ask (with s v) (bit_and b (row g v)) x l y in
            touched_test g ask s b t x (given x f) (positive (bit_and x t) v (omega (arith, bit-bit_and x t v, f.lower v, with_same s v, bit_le x v)))
        back (inr y) =
            let w = touched_holds g ask s (with b v) (without t v) x l y in
            touched_test g ask s b t x (rw (same h v i) at w.0) (omega (arith, fewer x))

        into : Found g ask s (bit_or b t) x → 0 < bit_and x t → Dec (bit_and x (without t v) ≡ 0) → T (union (first g ask s b v) (rest g ask s b t v) x)
        into f k (yes z) =
            or_left (first g ask s b v x) (rest g ask s b t v x)
            (found_test g ask (with s v) (bit_and b (row g v)) x (taken x f (only x z k) z))
        into f k (no n) =
            or_right (first g ask s b v x) (rest g ask s b t v x)
            (touched_test g ask s (with b v) (without t v) x (rw (same h v i) f) (positive_of (bit_and x (without t v)) n))

    sweep_adds : (before between after : List ℕ) (count n o : ℕ) → Adds (2 ^ length g) (first g ask s b v) before count between n
        → Adds (2 ^ length g) (rest g ask s b t v) between n after o → Adds (2 ^ length g) (touched g ask s b t) before count after o
    sweep_adds before between after count n o x y =
        adds_same (2 ^ length g) (union (first g ask s b v) (rest g ask s b t v)) (touched g ask s b t) before after count o sweep_split
        (adds_both (2 ^ length g) (first g ask s b v) (rest g ask s b t v) before between after count n o sweep_apart x y)

-- ---- the step as the code takes it

pub record Step (g : List ℕ) (s b m t v j r w b2 t2 : ℕ) : Type 0 where
  pub member : In v t
  pub joined : Joined g s m v j w
  pub inside : r ≡ bit_and b (row g v)
  pub waiting : b2 ≡ with b v
  pub left : t2 ≡ without t v

pub step : {g : List ℕ} {s b m t v y j r w b2 t2 : ℕ} → Lowest t v → y ≡ row g v → j ≡ with s v → r ≡ bit_and b y → w ≡ bit_and m y
    → t2 ≡ without t v → b2 ≡ with b v → Step g s b m t v j r w b2 t2
step {b = b} low ey ej er ew et eb = record { member = low.member; joined = joined ej ey ew; inside = er ∙ ap (bit_and b) ey; waiting = eb; left = et }

pub step_taking : {g : List ℕ} {s b m t v j r w b2 t2 : ℕ} → Sweeping g s b m t → Step g s b m t v j r w b2 t2 → Taking g j r w
step_taking {g} {s} {b} {m} {t} {v} h d =
    take_with h.taking (sweep_near h v d.member) d.joined (rw (d.inside, d.joined.beside) (λ u.
    omega (arith, bit-bit_and b (row g v) u, bit-bit_and m (row g v) u, h.taking.part u, bit-bit_or b t u)))

-- ---- a sweep on its way

pub record Swept (g : List ℕ) (ask : Request) (s b m t : ℕ) (before : List ℕ) (count b2 t2 : ℕ) (after : List ℕ) (n : ℕ) : Type 0 where
  pub one : ask.slack ≡ 1
  pub sweeping : Sweeping g s b2 m t2
  pub same : bit_or b2 t2 ≡ bit_or b t
  pub onward : (last : List ℕ) (o : ℕ) → Adds (2 ^ length g) (touched g ask s b2 t2) after n last o
      → Adds (2 ^ length g) (touched g ask s b t) before count last o

pub swept_none : {g : List ℕ} (ask : Request) {s b m t : ℕ} → ask.slack ≡ 1 → Sweeping g s b m t → (slots : List ℕ) (count : ℕ)
    → Swept g ask s b m t slots count b t slots count
swept_none ask one h slots count = record { one = one; sweeping = h; same = refl; onward = λ last o x. x }

module _ {g : List ℕ} {ask : Request} {s b m t : ℕ} {before : List ℕ} {count b2 t2 : ℕ} {after : List ℕ} {n : ℕ}
    (k : Swept g ask s b m t before count b2 t2 after n) where
  pub swept_all : t2 ≡ 0 → Adds (2 ^ length g) (touched g ask s b t) before count after n
  swept_all z = k.onward after n (sweep_none ask k.one k.sweeping z after n)

  module _ {v j r w b3 t3 : ℕ} (d : Step g s b2 m t2 v j r w b3 t3) where
    pub swept_falls : r < bit_or b t
    swept_falls = rw (d.inside, ← k.same) (taken_falls k.sweeping v d.member)

    pub swept_more : {last : List ℕ} {o : ℕ} → AddsFound g ask j r after n last o → Swept g ask s b m t before count b3 t3 last o
    swept_more {last} {o} x =
        rw (d.waiting, d.left) (record {
          one = k.one;
          sweeping = left_sweeping k.sweeping v d.member;
          same = same k.sweeping v d.member ∙ k.same;
          onward = λ end p y.
              k.onward end p (sweep_adds ask k.one k.sweeping v d.member after last end n o p (rw (d.joined.clique, d.inside) at x) y);
        })
