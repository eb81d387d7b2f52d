-- Laws of the first cause that holds: how lists of causes are put together, and what is known of an input that passes.
use Rattle.std.specs.Prelude.{ℕ, ◌*◌, ◌-◌, ◌^◌, ◌≤◌, ◌<◌, ◌≡◌, Bool, ◌&&◌, ◌||◌, T}
use Rattle.std.proofs.Common.{arith, le_refl, le_of_eq, ap₂, ◌∙◌, le→leb}
use Rattle.std.proofs.Math.Nat.{lt_of_not-le}
use Rattle.std.proofs.Math.Path.{refl, sym, ap}
use Rattle.std.proofs.Math.Bool.{true, false, not, cond}
use mathlib.Core.List.{List, [], ◌∷◌, ◌++◌}
use Rattle.std.proofs.Math.Dec.{leb, ltb, T_not, not_T}
use Rattle.std.proofs.Math.ListN.{length}
use borrow.Author.Tests.{ltb-true, ltb-false, leb-true, leb-false, lt-ltb, le-ltb, le-leb, lt-leb}
use Rattle.sets.specs.Ranges.{range, first}
use Rattle.sets.specs.Set.{bit, In, has}
use Rattle.sets.specs.Graph.{row}
use Rattle.sets.specs.RangeLaws.{mem_range, range_mem, any_elim, any_intro, first_none, first_at}
use Rattle.sets.specs.RangeLaws.{and_left, and_right, both, or_left, or_right, is_true, is_false, true_holds}
use Rattle.sets.specs.BitLaws.{bit_le}
use Rattle.sets.specs.PointLaws.{by_bit}
use Rattle.sets.specs.SubsetLaws.{in_below, has_in, in_has, not_in, not_has}
use Rattle.judging.specs.Graph.{adjacent, Valid}
use Rattle.judging.specs.Request.{Request}
use Rattle.judging.specs.Refusal.{Reply, refused, answered, Cause, first_cause, most_vertices, most_slack, outside, vertex_cause, slack_cause, floor_cause}
use Rattle.judging.specs.Refusal.{bad_row, one_way, lowest_row, row_cause, edge_cause, graph_causes, set_cause, vertex_out_cause}
use Rattle.judging.specs.Calls.{passed, graph_check, slack_check, number_check, floor_check, request_check}
use Rattle.judging.specs.Setting.{Sized}

-- ---- one cause after the other

module _ {A : Type 0} where
  pub first_holds : (c : Cause) (cs : List Cause) (r : Reply A) → c.holds ≡ true → first_cause (c ∷ cs) r ≡ refused c.number c.value
  unfolding first_cause
  first_holds c cs r e = ap (λ (b : Bool). cond b (refused c.number c.value) (first_cause cs r)) e

  pub first_skips : (c : Cause) (cs : List Cause) (r : Reply A) → c.holds ≡ false → first_cause (c ∷ cs) r ≡ first_cause cs r
  unfolding first_cause
  first_skips c cs r e = ap (λ (b : Bool). cond b (refused c.number c.value) (first_cause cs r)) e

  pub first_append : (xs ys : List Cause) (r : Reply A) → first_cause (xs ++ ys) r ≡ first_cause xs (first_cause ys r)
  unfolding first_cause
  first_append [] ys r = refl
  first_append (c ∷ xs) ys r = ap (λ (z : Reply A). cond c.holds (refused c.number c.value) z) (first_append xs ys r)

-- the causes stop every call in the same way, or let every call through
data Outcome (cs : List Cause) : Type 1 where
  stops : (n v : ℕ) → ((A : Type 0) (r : Reply A) → first_cause cs r ≡ refused n v) → Outcome cs
  goes : ((A : Type 0) (r : Reply A) → first_cause cs r ≡ r) → Outcome cs

outcome : (cs : List Cause) → Outcome cs
unfolding first_cause
outcome [] = goes (λ A r. refl)
outcome (c ∷ cs) = go c.holds refl (outcome cs)
  where
    go : (b : Bool) → c.holds ≡ b → Outcome cs → Outcome (c ∷ cs)
    go true e o = stops c.number c.value (λ A r. first_holds c cs r e)
    go false e (stops n v f) = stops n v (λ A r. first_skips c cs r e ∙ f A r)
    go false e (goes f) = goes (λ A r. first_skips c cs r e ∙ f A r)

module _ {A : Type 0} where
  -- a check that was refused refuses whatever comes after it, and one that passed lets it through
  pub first_refused : (xs : List Cause) (n v : ℕ) (r : Reply A) → first_cause xs passed ≡ refused n v → first_cause xs r ≡ refused n v
  first_refused xs n v r e = go (outcome xs)
    where
      go : Outcome xs → first_cause xs r ≡ refused n v
      go (stops m w f) = cc (f _ r, f _ passed)
      go (goes f) = cc (f _ passed)

  pub first_passed : (xs : List Cause) (r : Reply A) → first_cause xs passed ≡ passed → first_cause xs r ≡ r
  first_passed xs r e = go (outcome xs)
    where
      go : Outcome xs → first_cause xs r ≡ r
      go (stops m w f) = cc (f _ passed)
      go (goes f) = f _ r

  -- a call that succeeds passed its checks, and a refusal does not hang on what a success would answer
  pub answered_passed : (cs : List Cause) (v w : ℕ) (a b : A) → first_cause cs (answered v a) ≡ answered w b → first_cause cs passed ≡ passed
  answered_passed cs v w a b e = go (outcome cs)
    where
      go : Outcome cs → first_cause cs passed ≡ passed
      go (stops m x f) = cc (f _ (answered v a))
      go (goes f) = f _ passed

  pub refused_passed : (cs : List Cause) (v m x : ℕ) (a : A) → first_cause cs (answered v a) ≡ refused m x → first_cause cs passed ≡ refused m x
  refused_passed cs v m x a e = go (outcome cs)
    where
      go : Outcome cs → first_cause cs passed ≡ refused m x
      go (stops n w f) = cc (f _ (answered v a), f _ passed)
      go (goes f) = cc (f _ (answered v a))

  -- a success answers what was to be answered
  answered_same : (cs : List Cause) (v : ℕ) {w : ℕ} (a : A) {b : A} → first_cause cs (answered v a) ≡ answered w b → answered v a ≡ answered w b
  answered_same cs v a e = sym (first_passed cs (answered v a) (answered_passed cs v _ a _ e)) ∙ e

  pub answered_value : (cs : List Cause) (v : ℕ) {w : ℕ} (a : A) {b : A} → first_cause cs (answered v a) ≡ answered w b → w ≡ v
  answered_value cs v a e = cc (answered_same cs v a e)

  pub answered_found : (cs : List Cause) (v : ℕ) {w : ℕ} (a : A) {b : A} → first_cause cs (answered v a) ≡ answered w b → b ≡ a
  answered_found cs v a e = cc (answered_same cs v a e)

-- what passed has no cause that holds
pub passed_head : (c : Cause) (cs : List Cause) → first_cause (c ∷ cs) passed ≡ passed → c.holds ≡ false
passed_head c cs e = go c.holds refl
  where
    go : (b : Bool) → c.holds ≡ b → c.holds ≡ false
    go true p = cc (first_holds c cs passed p)
    go false p = p

pub passed_tail : (c : Cause) (cs : List Cause) → first_cause (c ∷ cs) passed ≡ passed → first_cause cs passed ≡ passed
passed_tail c cs e = sym (first_skips c cs passed (passed_head c cs e)) ∙ e

pub passed_front : (xs ys : List Cause) → first_cause (xs ++ ys) passed ≡ passed → first_cause xs passed ≡ passed
unfolding first_cause
passed_front [] ys e = refl
passed_front (c ∷ xs) ys e = first_skips c xs passed (passed_head c (xs ++ ys) e) ∙ passed_front xs ys (passed_tail c (xs ++ ys) e)

pub passed_back : (xs ys : List Cause) → first_cause (xs ++ ys) passed ≡ passed → first_cause ys passed ≡ passed
passed_back [] ys e = e
passed_back (c ∷ xs) ys e = passed_back xs ys (passed_tail c (xs ++ ys) e)

-- ---- ranges of numbers

pub within_range : (lo hi n : ℕ) → outside lo hi n ≡ false → (lo ≤ n) × (n ≤ hi)
unfolding outside
within_range lo hi n e = go (ltb n lo) (ltb hi n) refl refl e
  where
    go : (a b : Bool) → ltb n lo ≡ a → ltb hi n ≡ b → (a || b) ≡ false → (lo ≤ n) × (n ≤ hi)
    go false false p q z = (ltb-false n lo p, ltb-false hi n q)
    go true b p q z = absurd (let w : ◌≡◌ {A = ℕ} 0 1 = cc in omega arith)
    go false true p q z = absurd (let w : ◌≡◌ {A = ℕ} 0 1 = cc in omega arith)

pub inside_range : (lo hi n : ℕ) → lo ≤ n → n ≤ hi → outside lo hi n ≡ false
unfolding outside
inside_range lo hi n l h = ap₂ ◌||◌ (le-ltb n lo l) (le-ltb hi n h)

-- below lo, and from lo on, where hi decides
pub below_low : (lo hi n : ℕ) → n < lo → false ≡ not (outside lo hi n)
unfolding outside
below_low lo hi n a = ap (λ (x : Bool). not (x || ltb hi n)) (sym (lt-ltb n lo a))

pub above_low : (lo hi n : ℕ) → lo ≤ n → leb n hi ≡ not (outside lo hi n)
unfolding outside
above_low lo hi n a = go (leb n hi) refl ∙ ap (λ (x : Bool). not (x || ltb hi n)) (sym (le-ltb n lo a))
  where
    go : (b : Bool) → leb n hi ≡ b → b ≡ not (ltb hi n)
    go true e = ap not (sym (le-ltb hi n (leb-true n hi e)))
    go false e = ap not (sym (lt-ltb hi n (leb-false n hi e)))

-- numbers that pass have an accepted n first
pub numbers_vertices : (n k q : ℕ) → first_cause (number_check n k q) passed ≡ passed → (1 ≤ n) × (n ≤ most_vertices)
unfolding number_check vertex_cause
numbers_vertices n k q e = within_range 1 most_vertices n (passed_head _ _ e)

-- ---- the table

module _ (g : List ℕ) where
  pub no_row : (p : ℕ → Bool) → ltb (lowest_row p (length g)) (length g) ≡ false → (a : ℕ) → a < length g → T (p a) → ⊥
  unfolding lowest_row
  no_row p h a l t =
      first_none p (length g) (range (length g)) (range_mem (length g))
      (λ k. omega (arith, ltb-false (first p (length g) (range (length g))) (length g) h)) a (mem_range (length g) a l) t

  no_bad_row : (row_cause g).holds ≡ false → (a : ℕ) → a < length g → T (bad_row g a) → ⊥
  unfolding row_cause
  no_bad_row h = no_row (bad_row g) h

  pub rows_below : (row_cause g).holds ≡ false → (a : ℕ) → a < length g → row g a < 2 ^ length g
  unfolding bad_row
  rows_below h a l =
      lt_of_not-le (λ k. no_bad_row h a l (or_right (has (row g a) a) (leb (2 ^ length g) (row g a)) (le→leb (2 ^ length g) (row g a) k)))

  -- a row with its own bit, and a row without
  pub own_bit : (a : ℕ) → has (row g a) a ≡ true → bad_row g a ≡ true
  unfolding bad_row
  own_bit a e = ap (λ (x : Bool). x || leb (2 ^ length g) (row g a)) e

  pub reaches : (a : ℕ) (b : Bool) → has (row g a) a ≡ false → b ≡ ltb (row g a) (2 ^ length g) → not b ≡ bad_row g a
  unfolding bad_row
  reaches a b e h = go b h ∙ ap (λ (x : Bool). x || leb (2 ^ length g) (row g a)) (sym e)
    where
      go : (b : Bool) → b ≡ ltb (row g a) (2 ^ length g) → not b ≡ leb (2 ^ length g) (row g a)
      go true h = sym (lt-leb (2 ^ length g) (row g a) (ltb-true (row g a) (2 ^ length g) (sym h)))
      go false h = sym (le-leb (2 ^ length g) (row g a) (ltb-false (row g a) (2 ^ length g) (sym h)))

  -- a row with a unanswered link, and a row without
  unanswered : ℕ → ℕ → Bool
  unanswered a b = adjacent g a b && not (adjacent g b a)

  one_way_test : (a b : ℕ) → b < length g → In b (row g a) → T (not (has (row g b) a)) → T (one_way g a)
  unfolding one_way unanswered adjacent
  one_way_test a b l i o =
      any_intro (unanswered a) (range (length g)) b (mem_range (length g) b l)
      (both (adjacent g a b) (not (adjacent g b a)) (in_has (row g a) b i) o)

  pub one_way_found : (a b : ℕ) → b < length g → In b (row g a) → has (row g b) a ≡ false → one_way g a ≡ true
  one_way_found a b l i h = sym (is_true (one_way g a) (one_way_test a b l i (true_holds (not (has (row g b) a)) (ap not h))))

  pub one_way_none : (a : ℕ) → ((b : ℕ) → In b (row g a) → has (row g b) a ≡ true) → one_way g a ≡ false
  unfolding one_way unanswered adjacent
  one_way_none a f =
      sym (is_false (one_way g a) (λ t.
      let r = any_elim (unanswered a) (range (length g)) t in
      let b = r.0 in
      T_not (adjacent g b a) (and_right (adjacent g a b) (not (adjacent g b a)) r.2)
      (true_holds (has (row g b) a) (f b (has_in (row g a) b (and_left (adjacent g a b) (not (adjacent g b a)) r.2))))))

  graph_valid : first_cause (graph_causes g) passed ≡ passed → Valid g
  unfolding graph_causes edge_cause bad_row
  graph_valid e = record { low = rows_below h4; loopless = loopless; mutually = mutually }
    where
      h4 : (row_cause g).holds ≡ false
      h4 = passed_head _ _ e

      h5 : (edge_cause g).holds ≡ false
      h5 = passed_head _ _ (passed_tail _ _ e)

      loopless : (a : ℕ) → a < length g → bit (row g a) a ≡ 0
      loopless a l =
          not_in (row g a) a
          (not_T (has (row g a) a) (λ t. no_bad_row h4 a l (or_left (has (row g a) a) (leb (2 ^ length g) (row g a)) t)))

      never : (a b : ℕ) → a < length g → b < length g → In b (row g a) → bit (row g b) a ≡ 0 → ⊥
      never a b la lb i o = no_row (one_way g) h5 a la (one_way_test a b lb i (not_has (row g b) a o))

      half : (a b : ℕ) → a < length g → b < length g → bit (row g a) b ≤ bit (row g b) a
      half a b la lb =
          by_bit (row g b) a (λ i. omega (arith, bit_le (row g a) b)) (λ o.
          by_bit (row g a) b (λ i. absurd (never a b la lb i o)) (λ z. omega arith))

      mutually : (a b : ℕ) → a < length g → b < length g → bit (row g a) b ≡ bit (row g b) a
      mutually a b la lb = omega (arith, half a b la lb, half b a lb la)

  -- ---- what is known of an input that passes

  pub sized : outside 1 most_vertices (length g) ≡ false → Sized g
  sized e = let r = within_range 1 most_vertices (length g) e in record { some = r.0; most = omega (arith, r.1) }

  pub vertices_accepted : first_cause (graph_check g) passed ≡ passed → (1 ≤ length g) × (length g ≤ most_vertices)
  unfolding graph_check vertex_cause
  vertices_accepted e = within_range 1 most_vertices (length g) (passed_head _ _ e)

  pub graph_sized : first_cause (graph_check g) passed ≡ passed → Sized g
  unfolding graph_check vertex_cause
  graph_sized e = sized (passed_head _ _ e)

  pub graph_checked : first_cause (graph_check g) passed ≡ passed → Valid g
  unfolding graph_check
  graph_checked e = graph_valid (passed_tail _ _ e)

  -- and a valid graph with so many vertices passes
  module _ (z : (1 ≤ length g) × (length g ≤ most_vertices)) (v : Valid g) where
    passes_all : (p : ℕ → Bool) → ((a : ℕ) → a < length g → p a ≡ false) → ltb (lowest_row p (length g)) (length g) ≡ false
    unfolding lowest_row
    passes_all p f = le-ltb _ (length g) (le_of_eq (sym (first_at p (length g) (length g) (le_refl (length g)) f (λ l. absurd (omega arith)))))

    good_row : (a : ℕ) → a < length g → bad_row g a ≡ false
    good_row a l =
        sym (reaches a true (sym (is_false (has (row g a) a) (λ t. omega (arith, v.loopless a l, has_in (row g a) a t))))
        (sym (lt-ltb (row g a) (2 ^ length g) (v.low a l))))

    both_ways : (a : ℕ) → a < length g → one_way g a ≡ false
    both_ways a l =
        one_way_none a (λ b i.
        let below = in_below (length g) (row g a) b (v.low a l) i in
        sym (is_true (has (row g b) a) (in_has (row g b) a (sym (v.mutually a b l below) ∙ i))))

    pub valid_checked : first_cause (graph_check g) passed ≡ passed
    unfolding graph_check graph_causes vertex_cause row_cause edge_cause first_cause
    valid_checked =
        first_skips (vertex_cause (length g)) (graph_causes g) passed (inside_range 1 most_vertices (length g) z.0 z.1)
        ∙ first_skips (row_cause g) (edge_cause g ∷ []) passed (passes_all (bad_row g) good_row)
        ∙ first_skips (edge_cause g) [] passed (passes_all (one_way g) both_ways)

  pub slack_accepted : (k : ℕ) → first_cause (slack_check g k) passed ≡ passed → (1 ≤ k) × (k ≤ most_slack)
  unfolding slack_check slack_cause
  slack_accepted k e = within_range 1 most_slack k (passed_head _ _ (passed_tail _ _ e))

  pub slack_graph : (k : ℕ) → first_cause (slack_check g k) passed ≡ passed → first_cause (graph_check g) passed ≡ passed
  unfolding slack_check graph_check
  slack_graph k e = first_skips _ _ passed (passed_head _ _ e) ∙ passed_tail _ _ (passed_tail _ _ e)

  pub set_below : (s : ℕ) → (set_cause g s).holds ≡ false → s < 2 ^ length g
  unfolding set_cause
  set_below s e = leb-false (2 ^ length g) s e

  pub floor_slack : (k q : ℕ) → first_cause (floor_check g k q) passed ≡ passed → first_cause (slack_check g k) passed ≡ passed
  unfolding slack_check floor_check number_check
  floor_slack k q e =
      let after = passed_tail _ _ e in
      first_skips _ _ passed (passed_head _ _ e)
      ∙ first_skips _ _ passed (passed_head _ _ after)
      ∙ passed_tail _ _ (passed_tail _ _ after)

  pub floor_accepted : (k q : ℕ) → first_cause (floor_check g k q) passed ≡ passed → (2 * k - 1 ≤ q) × (q ≤ most_vertices)
  unfolding floor_check number_check floor_cause
  floor_accepted k q e = within_range (2 * k - 1) most_vertices q (passed_head _ _ (passed_tail _ _ (passed_tail _ _ e)))

  -- a request that passes has a slack, a floor and a graph that pass, and a silent set within the graph
  module _ (ask : Request) (e : first_cause (request_check g ask) passed ≡ passed) where
    numbers : List Cause
    numbers = number_check (length g) ask.slack ask.floor

    pub request_floor : first_cause (floor_check g ask.slack ask.floor) passed ≡ passed
    unfolding floor_check request_check numbers
    request_floor =
        first_append numbers (graph_causes g) passed
        ∙ first_passed numbers _ (passed_front numbers _ e)
        ∙ passed_tail _ _ (passed_back numbers _ e)

    pub request_slack : first_cause (slack_check g ask.slack) passed ≡ passed
    request_slack = floor_slack ask.slack ask.floor request_floor

    pub request_graph : first_cause (graph_check g) passed ≡ passed
    request_graph = slack_graph ask.slack request_slack

    pub silent_accepted : ask.silent < 2 ^ length g
    unfolding request_check numbers
    silent_accepted = set_below ask.silent (passed_head _ _ (passed_back numbers _ e))

  pub vertex_below : (v : ℕ) → (vertex_out_cause g v).holds ≡ false → v < length g
  unfolding vertex_out_cause
  vertex_below v e = leb-false (length g) v e
