-- What reading a graph means, from the definition of the reading alone: the rows are those of a valid graph of n vertices; two vertices are adjacent exactly
-- where a line `e u v` of the text joins them; so that neither the order of the e lines nor a repeated one changes the rows.
--
--   EdgeLine u v ls     one of the lines ls is `e u v`
use Rattle.std.specs.Prelude.{ℕ, suc, ◌+◌, ◌-◌, ◌^◌, ◌≤◌, ◌<◌, ◌≡◌, ◌⊎◌, length}
use Rattle.std.proofs.Common.{arith, sym, ap, ◌∙◌, eqb-true, ltb-false}
use Rattle.std.proofs.Math.Path.{refl, ap₂, subst}
use Rattle.std.proofs.Math.Logic.{inl, inr}
use mathlib.Core.List.{List, [], ◌∷◌}
use Rattle.std.proofs.Math.Dec.{T}
use Rattle.std.proofs.lemmas.Bool.{not-false}
use Rattle.sets.specs.Set.{In}
use Rattle.sets.specs.Graph.{row}
use Rattle.sets.specs.RangeLaws.{or_cases, or_left, or_right}
use Rattle.judging.specs.Graph.{adjacent, Valid}
use Rattle.judging.specs.GraphLaws.{adjacent_in, in_adjacent}
use Rattle.judging.specs.Refusal.{Reply, refused, answered, first_cause, most_vertices}
use Rattle.judging.specs.Calls.{passed, graph_check}
use Rattle.judging.specs.RefusalLaws.{answered_passed, answered_found, answered_value, passed_head, passed_tail, valid_checked}
use Rattle.sheets.specs.Sheet.{room_cause}
use Rattle.dimacs.specs.Lines.{Line, lines, Kind, comment, problem, edge, other, kind_of}
use Rattle.dimacs.specs.Dimacs.{Edge, edge_of, is_edge, joins, rows_of, State, start, graph, next, and_then, read_lines, count_cause, finish, reading}
use Rattle.dimacs.specs.Setting.{Accepted, Sound, edges_in}
use Rattle.dimacs.specs.RowLaws.{edge_cases, edge_one, rows_length, rows_valid, rows_unique, row-joins, joins-row, joins_mutual}
use Rattle.dimacs.specs.StateLaws.{with_edge, FromOne, After, next_after}

pub data EdgeLine (u v : ℕ) : List Line → Type 0 where
  here : {x : Line} {xs : List Line} → kind_of x ≡ edge u v → EdgeLine u v (x ∷ xs)
  there : {x : Line} {xs : List Line} → EdgeLine u v xs → EdgeLine u v (x ∷ xs)

refused_answered : {A : Type 0} {c v w : ℕ} {a : A} → refused c v ≡ answered w a → ⊥
refused_answered {A} e = subst Refuses e tt
  where
    Refuses : Reply A → Type 0
    Refuses (refused c v) = Unit {0}
    Refuses (answered w a) = ⊥

-- ---- one line after the other

-- the state after the first line, and the reading of the others from there
record First (l : ℕ) (s : State) (x : Line) (xs : List Line) (w : ℕ) (s' : State) : Type 0 where
  number : ℕ
  state : State
  step : next l s (kind_of x) ≡ answered number state
  others : read_lines (l + 1) state xs ≡ answered w s'

first : (l : ℕ) (s : State) (x : Line) (xs : List Line) {w : ℕ} {s' : State} → read_lines l s (x ∷ xs) ≡ answered w s' → First l s x xs w s'
unfolding read_lines and_then
first l s x xs {w} {s'} e = go (next l s (kind_of x)) refl e
  where
    go : (r : Reply State) → next l s (kind_of x) ≡ r → and_then r (λ t. read_lines (l + 1) t xs) ≡ answered w s' → First l s x xs w s'
    go (refused c v) p q = absurd (refused_answered q)
    go (answered v t) p q = record { number = v; state = t; step = p; others = q }

lines_sound : (l : ℕ) (s : State) (xs : List Line) {w : ℕ} {s' : State} → read_lines l s xs ≡ answered w s' → Sound s → Sound s'
unfolding read_lines
lines_sound l s [] {w} {s'} e h = let same : s ≡ s' = cc e in subst Sound same h
lines_sound l s (x ∷ xs) e h =
    let f = first l s x xs e in
    lines_sound (l + 1) f.state xs f.others ((next_after l s (kind_of x) f.step).sound h)

module _ (a b : ℕ) where
  -- an edge that is there stays
  line_keeps : (k : Kind) (es : List Edge) → T (joins es a b) → T (joins (with_edge k es) a b)
  unfolding joins
  line_keeps comment es t = t
  line_keeps (problem n m) es t = t
  line_keeps (edge u v) es t = or_right (is_edge (edge_of u v) a b) (joins es a b) t
  line_keeps other es t = t

  lines_keep : (l : ℕ) (s : State) (xs : List Line) {w : ℕ} {s' : State} → read_lines l s xs ≡ answered w s' → T (joins (edges_in s) a b)
      → T (joins (edges_in s') a b)
  unfolding read_lines
  lines_keep l s [] {w} {s'} e t = let same : s ≡ s' = cc e in subst (λ (x : State). T (joins (edges_in x) a b)) same t
  lines_keep l s (x ∷ xs) e t =
      let f = first l s x xs e in
      let more = subst (λ (es : List Edge). T (joins es a b)) (sym (next_after l s (kind_of x) f.step).edges) (line_keeps (kind_of x) (edges_in s) t) in
      lines_keep (l + 1) f.state xs f.others more

  -- an edge that a line brought is that of an e line, with vertices from 1
  line_brings : (x : Line) (xs : List Line) (k : Kind) (es : List Edge) → kind_of x ≡ k → FromOne k → T (joins (with_edge k es) a b)
      → T (joins es a b) ⊎ (EdgeLine (suc a) (suc b) (x ∷ xs) ⊎ EdgeLine (suc b) (suc a) (x ∷ xs))
  unfolding joins
  line_brings x xs comment es q h t = inl t
  line_brings x xs (problem n m) es q h t = inl t
  line_brings x xs other es q h t = inl t
  line_brings x xs (edge u v) es q h t = go (or_cases (is_edge (edge_of u v) a b) (joins es a b) t)
    where
      ends : ((u - 1 ≡ a) × (v - 1 ≡ b)) ⊎ ((u - 1 ≡ b) × (v - 1 ≡ a))
          → T (joins es a b) ⊎ (EdgeLine (suc a) (suc b) (x ∷ xs) ⊎ EdgeLine (suc b) (suc a) (x ∷ xs))
      ends (inl p) = inr (inl (here (q ∙ ap₂ edge (omega (arith, h, p)) (omega (arith, h, p)))))
      ends (inr p) = inr (inr (here (q ∙ ap₂ edge (omega (arith, h, p)) (omega (arith, h, p)))))

      go : T (is_edge (edge_of u v) a b) ⊎ T (joins es a b)
          → T (joins es a b) ⊎ (EdgeLine (suc a) (suc b) (x ∷ xs) ⊎ EdgeLine (suc b) (suc a) (x ∷ xs))
      go (inl r) = ends (edge_cases (edge_of u v) a b r)
      go (inr r) = inl r

  lines_bring : (l : ℕ) (s : State) (xs : List Line) {w : ℕ} {s' : State} → read_lines l s xs ≡ answered w s' → T (joins (edges_in s') a b)
      → T (joins (edges_in s) a b) ⊎ (EdgeLine (suc a) (suc b) xs ⊎ EdgeLine (suc b) (suc a) xs)
  unfolding read_lines
  lines_bring l s [] {w} {s'} e t = let same : s ≡ s' = cc e in inl (subst (λ (x : State). T (joins (edges_in x) a b)) (sym same) t)
  lines_bring l s (x ∷ xs) e t =
      let f = first l s x xs e in
      go (next_after l s (kind_of x) f.step) (lines_bring (l + 1) f.state xs f.others t)
    where
      go : {t : State} → After s (kind_of x) t → T (joins (edges_in t) a b) ⊎ (EdgeLine (suc a) (suc b) xs ⊎ EdgeLine (suc b) (suc a) xs)
          → T (joins (edges_in s) a b) ⊎ (EdgeLine (suc a) (suc b) (x ∷ xs) ⊎ EdgeLine (suc b) (suc a) (x ∷ xs))
      go h (inl j) = line_brings x xs (kind_of x) (edges_in s) refl h.numbered (subst (λ (es : List Edge). T (joins es a b)) h.edges j)
      go h (inr (inl i)) = inr (inl (there i))
      go h (inr (inr i)) = inr (inr (there i))

-- an e line brings its edge
lines-set : (a b l : ℕ) (s : State) (xs : List Line) {w : ℕ} {s' : State} → read_lines l s xs ≡ answered w s' → EdgeLine (suc a) (suc b) xs
    → T (joins (edges_in s') a b)
unfolding joins
lines-set a b l s [] e k = elim k [ ]
lines-set a b l s (x ∷ xs) e (here q) =
    let f = first l s x xs e in
    let one = edge_of (suc a) (suc b) in
    let h = next_after l s (kind_of x) f.step in
    let brought : edges_in f.state ≡ edge_of (suc a) (suc b) ∷ edges_in s = h.edges ∙ ap (λ (k : Kind). with_edge k (edges_in s)) q in
    lines_keep a b (l + 1) f.state xs f.others
    (subst (λ (es : List Edge). T (joins es a b)) (sym brought)
    (or_left (is_edge one a b) (joins (edges_in s) a b) (edge_one one a b (omega arith) (omega arith))))
lines-set a b l s (x ∷ xs) e (there i) = let f = first l s x xs e in lines-set a b (l + 1) f.state xs f.others i

no_edge : (a b : ℕ) → T (joins [] a b) → ⊥
unfolding joins
no_edge a b t = t

-- ---- a graph that is read

record Reading (t : List ℕ) (room n : ℕ) (g : List ℕ) : Type 0 where
  last : ℕ
  edge_count : ℕ
  edges : List Edge
  lines_read : read_lines 1 start (lines t) ≡ answered last (graph n edge_count edges)
  rows_read : g ≡ rows_of n edges
  counted : length edges ≡ edge_count
  fits : n ≤ room

read : (t : List ℕ) (room : ℕ) {n : ℕ} {g : List ℕ} → reading t room ≡ answered n g → Reading t room n g
unfolding reading finish room_cause
read t room {n} {g} e = go (read_lines 1 start (lines t)) refl e
  where
    go : (r : Reply State) → read_lines 1 start (lines t) ≡ r → finish room r ≡ answered n g → Reading t room n g
    go (refused c v) p q = absurd (refused_answered q)
    go (answered l start) p q = absurd (refused_answered q)
    go (answered l (graph k m es)) p q =
        let causes = count_cause es m ∷ room_cause room k ∷ [] in
        let passes = answered_passed causes k n (rows_of k es) g q in
        let same : n ≡ k = answered_value causes k (rows_of k es) q in
        record {
          last = l;
          edge_count = m;
          edges = es;
          lines_read = p ∙ ap (λ (x : ℕ). answered l (graph x m es)) (sym same);
          rows_read = answered_found causes k (rows_of k es) q ∙ ap (λ (x : ℕ). rows_of x es) (sym same);
          counted = eqb-true (length es) m (not-false _ (passed_head (count_cause es m) (room_cause room k ∷ []) passes));
          fits =
              omega (
                arith,
                same,
                ltb-false room k (passed_head (room_cause room k) [] (passed_tail (count_cause es m) (room_cause room k ∷ []) passes)),
              );
        }

module _ (t : List ℕ) (room : ℕ) {n : ℕ} {g : List ℕ} (e : reading t room ≡ answered n g) where
  got : Reading t room n g
  got = read t room e

  sound : Accepted n got.edges
  sound = lines_sound 1 start (lines t) got.lines_read tt

  pub read_fits : (1 ≤ n) × (n ≤ most_vertices) × (n ≤ room)
  read_fits = (sound.some, sound.most, got.fits)

  pub read_length : length g ≡ n
  read_length = ap length got.rows_read ∙ rows_length n got.edges

  -- document 02: the rows are mutual, shown from the reading alone
  pub read_valid : Valid g
  read_valid = subst Valid (sym got.rows_read) (rows_valid n got.edges sound.proper)

  -- so that no call on rows declines them with 1, 4 or 5
  pub read_accepted : first_cause (graph_check g) passed ≡ passed
  read_accepted = valid_checked g (omega (arith, sound.some, sound.most, read_length)) read_valid

  module _ (a b : ℕ) (k : a < n) where
    -- no other edge is set
    pub read_only : T (adjacent g a b) → EdgeLine (suc a) (suc b) (lines t) ⊎ EdgeLine (suc b) (suc a) (lines t)
    read_only h = go (lines_bring a b 1 start (lines t) got.lines_read joined)
      where
        joined : T (joins got.edges a b)
        joined = row-joins n got.edges a b k (subst (λ (h : List ℕ). In b (row h a)) got.rows_read (adjacent_in g a b h))

        go : T (joins [] a b) ⊎ (EdgeLine (suc a) (suc b) (lines t) ⊎ EdgeLine (suc b) (suc a) (lines t))
            → EdgeLine (suc a) (suc b) (lines t) ⊎ EdgeLine (suc b) (suc a) (lines t)
        go (inl j) = absurd (no_edge a b j)
        go (inr i) = i

    -- every edge is set, either way round
    pub read_edge : b < n → EdgeLine (suc a) (suc b) (lines t) ⊎ EdgeLine (suc b) (suc a) (lines t) → T (adjacent g a b)
    read_edge l i = in_adjacent g a b (subst (λ (h : List ℕ). In b (row h a)) (sym got.rows_read) (joins-row n got.edges a b k l (joined i)))
      where
        joined : EdgeLine (suc a) (suc b) (lines t) ⊎ EdgeLine (suc b) (suc a) (lines t) → T (joins got.edges a b)
        joined (inl i) = lines-set a b 1 start (lines t) got.lines_read i
        joined (inr i) = subst T (joins_mutual got.edges b a) (lines-set b a 1 start (lines t) got.lines_read i)

-- the order of the e lines and repeated ones do not change the rows: the same e lines give the same graph
pub same_rows : (t t' : List ℕ) (room room' : ℕ) {n : ℕ} {g g' : List ℕ} → reading t room ≡ answered n g → reading t' room' ≡ answered n g'
    → ((u v : ℕ) → EdgeLine u v (lines t) → EdgeLine u v (lines t')) → ((u v : ℕ) → EdgeLine u v (lines t') → EdgeLine u v (lines t)) → g ≡ g'
same_rows t t' room room' {n} {g} {g'} e e' f f' =
    rows_unique n es g (read_length t room e) low (λ a b k l i. said a b k l (adjacent_after a b k l (in_adjacent g a b i)))
    (λ a b k l j. adjacent_in g a b (read_edge t room e a b k l (moved f' (read_only t' room' e' a b k (shown a b k l j)))))
    ∙ sym last.rows_read
  where
    last : Reading t' room' n g'
    last = read t' room' e'

    es : List Edge
    es = last.edges

    moved : {a b : ℕ} {xs ys : List Line} → ((u v : ℕ) → EdgeLine u v xs → EdgeLine u v ys) → EdgeLine (suc a) (suc b) xs ⊎ EdgeLine (suc b) (suc a) xs
        → EdgeLine (suc a) (suc b) ys ⊎ EdgeLine (suc b) (suc a) ys
    moved {a} {b} h (inl i) = inl (h (suc a) (suc b) i)
    moved {a} {b} h (inr i) = inr (h (suc b) (suc a) i)

    low : (a : ℕ) → a < n → row g a < 2 ^ n
    low a k =
        subst (λ (m : ℕ). row g a < 2 ^ m) (read_length t room e) ((read_valid t room e).low a (omega (arith, read_length t room e)))

    adjacent_after : (a b : ℕ) → a < n → b < n → T (adjacent g a b) → T (adjacent g' a b)
    adjacent_after a b k l h = read_edge t' room' e' a b k l (moved f (read_only t room e a b k h))

    said : (a b : ℕ) → a < n → b < n → T (adjacent g' a b) → T (joins es a b)
    said a b k l h = row-joins n es a b k (subst (λ (x : List ℕ). In b (row x a)) last.rows_read (adjacent_in g' a b h))

    shown : (a b : ℕ) → a < n → b < n → T (joins es a b) → T (adjacent g' a b)
    shown a b k l j = in_adjacent g' a b (subst (λ (x : List ℕ). In b (row x a)) (sym last.rows_read) (joins-row n es a b k l j))
