-- Laws of the rows of a list of edges: they are the only rows that say what the edges say, they are those of a valid graph, and one edge more is set in two
-- of them.
use Rattle.std.specs.Prelude.{ℕ, ◌*◌, ◌^◌, ◌≤◌, ◌<◌, ◌≡◌, Bool, ◌&&◌, ◌||◌, cond, ◌≢◌, ◌⊎◌, T, eqb, take, set}
use Rattle.std.proofs.Common.{arith, sym, ◌∙◌, inl, inr, eqb→eq, eq-eqb, length-take-le, get_or-take, ext_get_or}
use Rattle.std.proofs.Math.Decide.{ℕ_discrete}
use Rattle.std.proofs.Math.Path.{ap, subst}
use mathlib.Core.List.{List, [], ◌∷◌}
use Rattle.std.proofs.Math.ListN.{length, length-set}
use Rattle.std.proofs.lemmas.List.{length-replicate, get_or-replicate}
use Rattle.sets.specs.Set.{bit, In, with, set_of}
use Rattle.sets.specs.Graph.{row}
use Rattle.sets.specs.Words.{width, per_set, masks}
use Rattle.sets.specs.Words.Groups.{blank}
use Rattle.sets.specs.Words.Masks.{blank_masks}
use Rattle.sets.specs.PointLaws.{bit_none}
use Rattle.sets.specs.RangeLaws.{and_left, and_right, both, or_cases, or_left, or_right, is_false, true_holds, test_same}
use Rattle.sets.specs.ListLaws.{get_or-map_range, map-range-length, row-set, row_other}
use Rattle.sets.specs.SubsetLaws.{with_same, with_other, with_below, in_of_sub, sub_with}
use Rattle.sets.specs.MemberLaws.{set_of_below, bit-set_of, set_of_in, set_of_holds, set_of_unique, below_members}
use Rattle.judging.specs.Graph.{Valid}
use Rattle.dimacs.specs.Dimacs.{Edge, is_edge, joins, rows_of}
use Rattle.dimacs.specs.Setting.{added, linked, Proper}

-- ---- the test whether an edge joins two vertices

pub edge_cases : (e : Edge) (a b : ℕ) → T (is_edge e a b) → ((e.one ≡ a) × (e.two ≡ b)) ⊎ ((e.one ≡ b) × (e.two ≡ a))
unfolding is_edge
edge_cases e a b t = go (or_cases (eqb e.one a && eqb e.two b) (eqb e.one b && eqb e.two a) t)
  where
    pair : (x y : ℕ) → T (eqb e.one x && eqb e.two y) → (e.one ≡ x) × (e.two ≡ y)
    pair x y s =
        (eqb→eq e.one x (and_left (eqb e.one x) (eqb e.two y) s), eqb→eq e.two y (and_right (eqb e.one x) (eqb e.two y) s))

    go : T (eqb e.one a && eqb e.two b) ⊎ T (eqb e.one b && eqb e.two a)
        → ((e.one ≡ a) × (e.two ≡ b)) ⊎ ((e.one ≡ b) × (e.two ≡ a))
    go (inl s) = inl (pair a b s)
    go (inr s) = inr (pair b a s)

pub edge_one : (e : Edge) (a b : ℕ) → e.one ≡ a → e.two ≡ b → T (is_edge e a b)
unfolding is_edge
edge_one e a b p q =
    or_left (eqb e.one a && eqb e.two b) _
    (both (eqb e.one a) (eqb e.two b) (true_holds (eqb e.one a) (eq-eqb e.one a p)) (true_holds (eqb e.two b) (eq-eqb e.two b q)))

edge_two : (e : Edge) (a b : ℕ) → e.one ≡ b → e.two ≡ a → T (is_edge e a b)
unfolding is_edge
edge_two e a b p q =
    or_right (eqb e.one a && eqb e.two b) _
    (both (eqb e.one b) (eqb e.two a) (true_holds (eqb e.one b) (eq-eqb e.one b p)) (true_holds (eqb e.two a) (eq-eqb e.two a q)))

edge_turned : (e : Edge) (a b : ℕ) → T (is_edge e a b) → T (is_edge e b a)
edge_turned e a b t = go (edge_cases e a b t)
  where
    go : ((e.one ≡ a) × (e.two ≡ b)) ⊎ ((e.one ≡ b) × (e.two ≡ a)) → T (is_edge e b a)
    go (inl p) = edge_two e b a p.0 p.1
    go (inr p) = edge_one e b a p.0 p.1

joins-turned : (es : List Edge) (a b : ℕ) → T (joins es a b) → T (joins es b a)
unfolding joins
joins-turned [] a b t = t
joins-turned (e ∷ es) a b t = go (or_cases (is_edge e a b) (joins es a b) t) (joins-turned es a b)
  where
    go : T (is_edge e a b) ⊎ T (joins es a b) → (T (joins es a b) → T (joins es b a)) → T (is_edge e b a || joins es b a)
    go (inl s) h = or_left (is_edge e b a) (joins es b a) (edge_turned e a b s)
    go (inr s) h = or_right (is_edge e b a) (joins es b a) (h s)

pub joins_mutual : (es : List Edge) (a b : ℕ) → joins es a b ≡ joins es b a
joins_mutual es a b = test_same (joins es a b) (joins es b a) (joins-turned es a b) (joins-turned es b a)

-- ---- the rows by what they say

pub rows_length : (n : ℕ) (es : List Edge) → length (rows_of n es) ≡ n
unfolding rows_of
rows_length n es = map-range-length (λ a. set_of n (joins es a)) n

pub row_of : (n a : ℕ) (es : List Edge) → a < n → row (rows_of n es) a ≡ set_of n (joins es a)
unfolding rows_of row
row_of n a es l = get_or-map_range (λ a. set_of n (joins es a)) n a l

pub rows_unique : (n : ℕ) (es : List Edge) (g : List ℕ) → length g ≡ n → ((a : ℕ) → a < n → row g a < 2 ^ n)
    → ((a b : ℕ) → a < n → b < n → In b (row g a) → T (joins es a b)) → ((a b : ℕ) → a < n → b < n → T (joins es a b) → In b (row g a))
    → g ≡ rows_of n es
unfolding row
rows_unique n es g e low f h =
    ext_get_or 0 g (rows_of n es) (e ∙ sym (rows_length n es)) (λ a l.
    let k : a < n = omega arith in
    set_of_unique (joins es a) n (row g a) (low a k) (λ b. f a b k) (λ b. h a b k) ∙ sym (row_of n a es k))

-- without edges they are empty, as a blank table is
pub table_blank : masks (blank (width * per_set)) ≡ rows_of width []
unfolding joins row
table_blank =
    blank_masks width
    ∙ rows_unique width [] (blank width) (length-replicate {A = ℕ} width 0) (λ a k. omega (arith, get_or-replicate {A = ℕ} width a 0 0 k))
    (λ a b k l i. absurd (omega (arith, ap (λ (s : ℕ). bit s b) (get_or-replicate {A = ℕ} width a 0 0 k) ∙ bit_none b, i))) (λ a b k l t. absurd t)

module _ (n : ℕ) (es : List Edge) (a b : ℕ) (k : a < n) where
  pub row-joins : In b (row (rows_of n es) a) → T (joins es a b)
  row-joins i = (set_of_holds (joins es a) n b (sym (ap (λ (s : ℕ). bit s b) (row_of n a es k)) ∙ i)).1

  pub joins-row : b < n → T (joins es a b) → In b (row (rows_of n es) a)
  joins-row l t = ap (λ (s : ℕ). bit s b) (row_of n a es k) ∙ set_of_in (joins es a) n b l t

-- ---- proper edges

pub proper_none : (n : ℕ) → Proper n []
unfolding joins
proper_none n = record { inside = λ a b t. absurd t; loopless = λ a t. t }

pub proper_more : (n : ℕ) (e : Edge) (es : List Edge) → e.one < n → e.two < n → e.one ≢ e.two → Proper n es → Proper n (e ∷ es)
unfolding joins
proper_more n e es p q d h =
    record {
      inside = λ a b t. within a b (or_cases (is_edge e a b) (joins es a b) t);
      loopless = λ a t. apart a (or_cases (is_edge e a a) (joins es a a) t);
    }
  where
    within : (a b : ℕ) → T (is_edge e a b) ⊎ T (joins es a b) → (a < n) × (b < n)
    within a b (inl s) = ends (edge_cases e a b s)
      where
        ends : ((e.one ≡ a) × (e.two ≡ b)) ⊎ ((e.one ≡ b) × (e.two ≡ a)) → (a < n) × (b < n)
        ends (inl r) = omega (arith, r.0, r.1)
        ends (inr r) = omega (arith, r.0, r.1)
    within a b (inr s) = h.inside a b s

    apart : (a : ℕ) → T (is_edge e a a) ⊎ T (joins es a a) → ⊥
    apart a (inl s) = same (edge_cases e a a s)
      where
        same : ((e.one ≡ a) × (e.two ≡ a)) ⊎ ((e.one ≡ a) × (e.two ≡ a)) → ⊥
        same (inl r) = d (r.0 ∙ sym r.1)
        same (inr r) = d (r.0 ∙ sym r.1)
    apart a (inr s) = h.loopless a s

-- document 02: the rows are mutual, without loops and within n
pub rows_valid : (n : ℕ) (es : List Edge) → Proper n es → Valid (rows_of n es)
rows_valid n es h =
    record {
      low = λ a l. subst (λ (m : ℕ). row (rows_of n es) a < 2 ^ m) (sym (rows_length n es)) (low a (in_rows a l));
      loopless = λ a l. none a (in_rows a l);
      mutually = λ a b l m. same a b (in_rows a l) (in_rows b m);
    }
  where
    in_rows : (a : ℕ) → a < length (rows_of n es) → a < n
    in_rows a l = omega (arith, rows_length n es)

    low : (a : ℕ) → a < n → row (rows_of n es) a < 2 ^ n
    low a k = omega (arith, row_of n a es k, set_of_below (joins es a) n)

    by_test : (a b : ℕ) → a < n → b < n → bit (row (rows_of n es) a) b ≡ cond (joins es a b) 1 0
    by_test a b k m = ap (λ (s : ℕ). bit s b) (row_of n a es k) ∙ bit-set_of (joins es a) n b m

    none : (a : ℕ) → a < n → bit (row (rows_of n es) a) a ≡ 0
    none a k = by_test a a k k ∙ ap (λ (t : Bool). cond t 1 0) (sym (is_false (joins es a a) (h.loopless a)))

    same : (a b : ℕ) → a < n → b < n → bit (row (rows_of n es) a) b ≡ bit (row (rows_of n es) b) a
    same a b k m = by_test a b k m ∙ ap (λ (t : Bool). cond t 1 0) (joins_mutual es a b) ∙ sym (by_test b a m k)

-- a table with room for more vertices has the rows in front
pub rows_front : (n w : ℕ) (es : List Edge) → Proper n es → n ≤ w → take n (rows_of w es) ≡ rows_of n es
unfolding row
rows_front n w es h l =
    rows_unique n es (take n (rows_of w es)) (length-take-le n (rows_of w es) (omega (arith, rows_length w es)))
    (λ a k. below_members n (row (take n (rows_of w es)) a) (λ b i. (h.inside a b (row-joins w es a b (omega arith) (shown a b k i))).1))
    (λ a b k m i. row-joins w es a b (omega arith) (shown a b k i))
    (λ a b k m t. ap (λ (s : ℕ). bit s b) (same a k) ∙ joins-row w es a b (omega arith) (omega arith) t)
  where
    same : (a : ℕ) → a < n → row (take n (rows_of w es)) a ≡ row (rows_of w es) a
    same a k = get_or-take n (rows_of w es) a 0 k

    shown : (a b : ℕ) → a < n → In b (row (take n (rows_of w es)) a) → In b (row (rows_of w es) a)
    shown a b k i = sym (ap (λ (s : ℕ). bit s b) (same a k)) ∙ i

-- ---- one edge more

-- as the code puts b into row a
pub row-added : (g : List ℕ) (a b : ℕ) {r x : ℕ} {after : List ℕ} → r ≡ row g a → x ≡ with r b → after ≡ set g a x → after ≡ added g a b
unfolding added
row-added g a b e f h = h ∙ ap (set g a) (f ∙ ap (λ (s : ℕ). with s b) e)

-- and then a into row b
module _ (g : List ℕ) (a b : ℕ) {h : List ℕ} (e : h ≡ added g a b) where
  pub row_stays : length h ≡ length g
  unfolding added
  row_stays = ap length e ∙ length-set g a (with (row g a) b)

  pub both_added : {k : List ℕ} → k ≡ added h b a → k ≡ linked g a b
  unfolding linked
  both_added f = f ∙ ap (λ (x : List ℕ). added x b a) e

-- y is put into row x
module _ (g : List ℕ) (x y : ℕ) (p : x < length g) where
  added_in : (a b : ℕ) → In b (row (added g x y) a) → ((a ≡ x) × (b ≡ y)) ⊎ In b (row g a)
  unfolding added
  added_in a b i = go (ℕ_discrete a x) (ℕ_discrete b y)
    where
      here : a ≡ x → bit (row (added g x y) a) b ≡ bit (with (row g a) y) b
      here e = ap (λ (s : ℕ). bit s b) (subst (λ (z : ℕ). row (added g x y) z ≡ with (row g z) y) (sym e) (row-set g x (with (row g x) y) p))

      go : Dec (a ≡ x) → Dec (b ≡ y) → ((a ≡ x) × (b ≡ y)) ⊎ In b (row g a)
      go (yes e) (yes f) = inl (e, f)
      go (yes e) (no nf) = inr (sym (with_other (row g a) y b (λ q. nf (sym q))) ∙ sym (here e) ∙ i)
      go (no ne) q = inr (sym (ap (λ (s : ℕ). bit s b) (row_other g x a (with (row g x) y) ne)) ∙ i)

  added_new : In y (row (added g x y) x)
  unfolding added
  added_new = ap (λ (s : ℕ). bit s y) (row-set g x (with (row g x) y) p) ∙ with_same (row g x) y

  added-row : (a : ℕ) → (P : ℕ → Type 0) → P (row g a) → P (with (row g a) y) → P (row (added g x y) a)
  unfolding added
  added-row a P old new = go (ℕ_discrete a x)
    where
      go : Dec (a ≡ x) → P (row (added g x y) a)
      go (yes e) = subst P (sym (subst (λ (z : ℕ). row (added g x y) z ≡ with (row g z) y) (sym e) (row-set g x (with (row g x) y) p))) new
      go (no ne) = subst P (sym (row_other g x a (with (row g x) y) ne)) old

  added_old : (a b : ℕ) → In b (row g a) → In b (row (added g x y) a)
  added_old a b i = added-row a (λ s. In b s) i (in_of_sub (row g a) (with (row g a) y) b (sub_with (row g a) y) i)

  added_low : (n a : ℕ) → y < n → row g a < 2 ^ n → row (added g x y) a < 2 ^ n
  added_low n a q l = added-row a (λ s. s < 2 ^ n) l (with_below n (row g a) y l q)

  added_length : length (added g x y) ≡ length g
  unfolding added
  added_length = length-set g x (with (row g x) y)

pub rows_linked : (n : ℕ) (e : Edge) (es : List Edge) → e.one < n → e.two < n → linked (rows_of n es) e.one e.two ≡ rows_of n (e ∷ es)
unfolding joins linked
rows_linked n e es p q =
    rows_unique n (e ∷ es) (linked g x y) (added_length h y x q' ∙ added_length g x y p' ∙ rows_length n es)
    (λ a k. added_low h y x q' n a p (added_low g x y p' n a q (omega (arith, row_of n a es k, set_of_below (joins es a) n))))
    (λ a b k l i. said a b k (added_in h y x q' a b i))
    (λ a b k l t. shown a b k l (or_cases (is_edge e a b) (joins es a b) t))
  where
    g : List ℕ
    g = rows_of n es

    x : ℕ
    x = e.one

    y : ℕ
    y = e.two

    p' : x < length g
    p' = omega (arith, rows_length n es)

    h : List ℕ
    h = added g x y

    q' : y < length h
    q' = omega (arith, added_length g x y p', rows_length n es)

    said : (a b : ℕ) → a < n → ((a ≡ y) × (b ≡ x)) ⊎ In b (row h a) → T (is_edge e a b || joins es a b)
    said a b k (inl r) = or_left (is_edge e a b) (joins es a b) (edge_two e a b (sym r.1) (sym r.0))
    said a b k (inr i) = before (added_in g x y p' a b i)
      where
        before : ((a ≡ x) × (b ≡ y)) ⊎ In b (row g a) → T (is_edge e a b || joins es a b)
        before (inl r) = or_left (is_edge e a b) (joins es a b) (edge_one e a b (sym r.0) (sym r.1))
        before (inr j) = or_right (is_edge e a b) (joins es a b) (row-joins n es a b k j)

    shown : (a b : ℕ) → a < n → b < n → T (is_edge e a b) ⊎ T (joins es a b) → In b (row (linked g x y) a)
    shown a b k l (inl t) = ends (edge_cases e a b t)
      where
        ends : ((x ≡ a) × (y ≡ b)) ⊎ ((x ≡ b) × (y ≡ a)) → In b (row (linked g x y) a)
        ends (inl r) = added_old h y x q' a b (subst (λ (z : ℕ). In b (row h z)) r.0 (subst (λ (z : ℕ). In z (row h x)) r.1 (added_new g x y p')))
        ends (inr r) = subst (λ (z : ℕ). In b (row (linked g x y) z)) r.1 (subst (λ (z : ℕ). In z (row (linked g x y) y)) r.0 (added_new h y x q'))
    shown a b k l (inr t) = added_old h y x q' a b (added_old g x y p' a b (joins-row n es a b k l t))
