-- Laws of the state from line to line: what the code makes of a line is what the definition makes of it, also where it is told a capped number.
use Rattle.std.specs.Prelude.{ℕ, suc, ◌+◌, ◌-◌, ◌≤◌, ◌<◌, ◌≡◌, ◌≢◌, Bool, true, false, ◌||◌, ltb, length, is_some, Option, None, Some, Result, Ok, Err}
use Rattle.std.proofs.Common.{arith, sym, ◌∙◌, lt-ltb}
use Rattle.std.proofs.Math.Decide.{dec_le}
use Rattle.std.proofs.Math.Path.{refl, ap, ap₂, subst}
use mathlib.Core.List.{List, [], ◌∷◌}
use Rattle.std.proofs.Math.Dec.{eqb}
use Rattle.std.proofs.lemmas.Bool.{eqb-false}
use Rattle.sets.specs.Words.{width}
use Rattle.sets.specs.RangeLaws.{true_is_not_false}
use Rattle.judging.specs.Refusal.{Reply, refused, answered, reply_number, first_cause, most_vertices, outside, vertex_cause}
use Rattle.judging.specs.RefusalLaws.{first_holds, first_skips, answered_passed, answered_found, passed_head, within_range}
use Rattle.judging.specs.declared.Refusal.{Refusal}
use Rattle.judging.specs.declared.Refusal.TheVariants.{DimacsLine, Vertices}
use Rattle.dimacs.specs.Lines.{Kind, comment, problem, edge, other}
use Rattle.dimacs.specs.Dimacs.{Edge, edge_of, State, start, graph, line_cause, is_wrong, next}
use Rattle.dimacs.specs.Setting.{capped, kind_told, capped_kind, linked, Sound, edges_in, Stands, Comes}
use Rattle.dimacs.specs.RowLaws.{proper_none, proper_more, rows_linked}
use Rattle.dimacs.specs.declared.lines.Kind.{Kind as ToldKind}
use Rattle.dimacs.specs.declared.state.Progress.{Progress}

or_true : (b : Bool) → (b || true) ≡ true
or_true true = refl
or_true false = refl

-- ---- the vertices of an e line

pub outside_above : (lo hi n : ℕ) → hi < n → outside lo hi n ≡ true
unfolding outside
outside_above lo hi n l = ap (λ (b : Bool). ltb n lo || b) (lt-ltb hi n l) ∙ or_true (ltb n lo)

module _ (n u v : ℕ) where
  pub wrong_by : (a b c : Bool) → outside 1 n u ≡ a → outside 1 n v ≡ b → eqb u v ≡ c → is_wrong n u v ≡ (a || b || c)
  unfolding is_wrong
  wrong_by a b c p q r = ap₂ (λ (x y : Bool). x || y || eqb u v) p q ∙ ap (λ (z : Bool). a || b || z) r

  pub wrong_first : outside 1 n u ≡ true → is_wrong n u v ≡ true
  wrong_first p = wrong_by true _ _ p refl refl

  pub wrong_second : outside 1 n v ≡ true → is_wrong n u v ≡ true
  wrong_second p = wrong_by (outside 1 n u) true (eqb u v) refl p refl ∙ ap (λ (b : Bool). b || eqb u v) (or_true (outside 1 n u))

  pub wrong_same : outside 1 n u ≡ false → outside 1 n v ≡ false → is_wrong n u v ≡ eqb u v
  wrong_same p q = wrong_by false false _ p q refl

  pub record Right : Type 0 where
    pub first : (1 ≤ u) × (u ≤ n)
    pub second : (1 ≤ v) × (v ≤ n)
    pub apart : u ≢ v

  pub right : is_wrong n u v ≡ false → Right
  right e = go (outside 1 n u) (outside 1 n v) (eqb u v) refl refl refl
    where
      go : (a b c : Bool) → outside 1 n u ≡ a → outside 1 n v ≡ b → eqb u v ≡ c → Right
      go true b c p q r = absurd (true_is_not_false (sym (wrong_by true b c p q r) ∙ e))
      go false true c p q r = absurd (true_is_not_false (sym (wrong_by false true c p q r) ∙ e))
      go false false true p q r = absurd (true_is_not_false (sym (wrong_by false false true p q r) ∙ e))
      go false false false p q r = record { first = within_range 1 n u p; second = within_range 1 n v q; apart = eqb-false u v r }

-- ---- capped numbers are as good

vertices_refused : {A : Type 0} (n : ℕ) (r : Reply A) → most_vertices < n → first_cause (vertex_cause n ∷ []) r ≡ refused 1 0
unfolding vertex_cause
vertices_refused n r k = first_holds (vertex_cause n) [] r (outside_above 1 most_vertices n k)

next_problem : (l n m : ℕ) → next l start (problem (capped n) m) ≡ next l start (problem n m)
unfolding next
next_problem l n m = go (dec_le n most_vertices)
  where
    go : Dec (n ≤ most_vertices)
        → first_cause (vertex_cause (capped n) ∷ []) (answered 0 (graph (capped n) m [])) ≡ first_cause (vertex_cause n ∷ []) (answered 0 (graph n m []))
    go (yes k) =
        let same : capped n ≡ n = omega arith in
        ap (λ (x : ℕ). first_cause (vertex_cause x ∷ []) (answered 0 (graph x m []))) same
    go (no nk) = vertices_refused (capped n) _ (omega arith) ∙ sym (vertices_refused n _ (omega arith))

next_edge : (l n m u v : ℕ) (es : List Edge) → n ≤ width → next l (graph n m es) (edge (capped u) (capped v)) ≡ next l (graph n m es) (edge u v)
unfolding next
next_edge l n m u v es w = go (dec_le u n) (dec_le v n)
  where
    refuse : (x y : ℕ) → is_wrong n x y ≡ true → first_cause (line_cause (is_wrong n x y) l ∷ []) (answered 0 (graph n m (edge_of x y ∷ es))) ≡ refused 15 l
    refuse x y e = first_holds (line_cause (is_wrong n x y) l) [] _ e

    go : Dec (u ≤ n) → Dec (v ≤ n)
        → first_cause (line_cause (is_wrong n (capped u) (capped v)) l ∷ []) (answered 0 (graph n m (edge_of (capped u) (capped v) ∷ es)))
        ≡ first_cause (line_cause (is_wrong n u v) l ∷ []) (answered 0 (graph n m (edge_of u v ∷ es)))
    go (yes p) (yes q) =
        let one : capped u ≡ u = omega arith in
        let two : capped v ≡ v = omega arith in
        ap₂ (λ (x y : ℕ). first_cause (line_cause (is_wrong n x y) l ∷ []) (answered 0 (graph n m (edge_of x y ∷ es)))) one two
    go (no np) q =
        refuse (capped u) (capped v) (wrong_first n (capped u) (capped v) (outside_above 1 n (capped u) (omega arith)))
        ∙ sym (refuse u v (wrong_first n u v (outside_above 1 n u (omega arith))))
    go (yes p) (no nq) =
        refuse (capped u) (capped v) (wrong_second n (capped u) (capped v) (outside_above 1 n (capped v) (omega arith)))
        ∙ sym (refuse u v (wrong_second n u v (outside_above 1 n v (omega arith))))

pub next_capped : (l : ℕ) (s : State) → Sound s → (k : Kind) → next l s (capped_kind k) ≡ next l s k
unfolding next
next_capped l s h comment = refl
next_capped l s h other = refl
next_capped l start h (problem n m) = next_problem l n m
next_capped l (graph n' m' es) h (problem n m) = refl
next_capped l start h (edge u v) = refl
next_capped l (graph n m es) h (edge u v) = next_edge l n m u v es h.most

-- ---- what a line leaves: a sound state stays one, and an e line with vertices from 1 adds its edge

abbrev pub with_edge : Kind → List Edge → List Edge
with_edge comment es = es
with_edge (problem n m) es = es
with_edge (edge u v) es = edge_of u v ∷ es
with_edge other es = es

abbrev pub FromOne : Kind → Type 0
FromOne comment = Unit {0}
FromOne (problem n m) = Unit {0}
FromOne (edge u v) = (1 ≤ u) × (1 ≤ v)
FromOne other = Unit {0}

pub record After (s : State) (k : Kind) (s' : State) : Type 0 where
  pub sound : Sound s → Sound s'
  pub edges : edges_in s' ≡ with_edge k (edges_in s)
  pub numbered : FromOne k

after_comment : {s s' : State} {v : ℕ} → answered 0 s ≡ answered v s' → After s comment s'
after_comment {s} {s'} e =
    let same : s ≡ s' = cc e in
    subst (After s comment) same (record { sound = λ h. h; edges = refl; numbered = tt })

after_problem : (n m : ℕ) {v : ℕ} {s : State} → first_cause (vertex_cause n ∷ []) (answered 0 (graph n m [])) ≡ answered v s → After start (problem n m) s
unfolding vertex_cause
after_problem n m {v} {s} e =
    let passes = answered_passed (vertex_cause n ∷ []) 0 v (graph n m []) s e in
    let range = within_range 1 most_vertices n (passed_head (vertex_cause n) [] passes) in
    subst (After start (problem n m)) (sym (answered_found (vertex_cause n ∷ []) 0 (graph n m []) e))
    (record { sound = λ h. record { some = range.0; most = range.1; proper = proper_none n }; edges = refl; numbered = tt })

after_edge : (l n m u v : ℕ) (es : List Edge) {w : ℕ} {s : State}
    → first_cause (line_cause (is_wrong n u v) l ∷ []) (answered 0 (graph n m (edge_of u v ∷ es))) ≡ answered w s → After (graph n m es) (edge u v) s
after_edge l n m u v es {w} {s} e =
    let state = graph n m (edge_of u v ∷ es) in
    let c = line_cause (is_wrong n u v) l in
    let passes = answered_passed (line_cause (is_wrong n u v) l ∷ []) 0 w (graph n m (edge_of u v ∷ es)) s e in
    let r = right n u v (passed_head c [] passes) in
    let apart : (u - 1 ≢ v - 1) = λ q. r.apart (omega (arith, r.first, r.second)) in
    subst (After (graph n m es) (edge u v)) (sym (answered_found (c ∷ []) 0 state e))
    (record {
      sound = λ h.
          record {
            some = h.some;
            most = h.most;
            proper = proper_more n (edge_of u v) es (omega (arith, r.first)) (omega (arith, r.second)) apart h.proper;
          };
      edges = refl;
      numbered = (r.first.0, r.second.0);
    })

pub next_after : (l : ℕ) (s : State) (k : Kind) {v : ℕ} {s' : State} → next l s k ≡ answered v s' → After s k s'
unfolding next
next_after l start comment e = after_comment e
next_after l (graph n m es) comment e = after_comment e
next_after l start other e = absurd (omega (arith, ap reply_number e))
next_after l (graph n m es) other e = absurd (omega (arith, ap reply_number e))
next_after l start (problem n m) e = after_problem n m e
next_after l (graph n' m' es) (problem n m) e = absurd (omega (arith, ap reply_number e))
next_after l start (edge u v) e = absurd (omega (arith, ap reply_number e))
next_after l (graph n m es) (edge u v) e = after_edge l n m u v es e

pub edge_more : (k : Kind) (es : List Edge) → length (with_edge k es) ≤ suc (length es)
edge_more comment es = omega arith
edge_more (problem n m) es = omega arith
edge_more (edge u v) es = omega arith
edge_more other es = omega arith

-- ---- a line of another shape, and a comment

pub other_comes : {k : Option ToldKind} → k ≡ None → (l : ℕ) (ms : List ℕ) (s : State) → Comes (next l s (kind_told k)) (Err (DimacsLine l)) ms
unfolding next
other_comes e l ms s = subst (λ (k : Option ToldKind). Comes (next l s (kind_told k)) (Err (DimacsLine l)) ms) (sym e) (go s)
  where
    go : (s : State) → Comes (next l s other) (Err (DimacsLine l)) ms
    go start = refl
    go (graph n m es) = refl

pub comment_comes : (k : Option ToldKind) → kind_told k ≡ comment → (l : ℕ) (p : Option Progress) (ms : List ℕ) (s : State) → Stands s p ms
    → Comes (next l s (kind_told k)) (Ok p) ms
unfolding next
comment_comes k e l p ms s h = subst (λ (k : Kind). Comes (next l s k) (Ok p) ms) (sym e) (go s h)
  where
    go : (s : State) → Stands s p ms → Comes (next l s comment) (Ok p) ms
    go start h = h
    go (graph n m es) h = h

-- ---- a p line

module _ (l n m : ℕ) (ms : List ℕ) where
  pub problem_again : (p : Option Progress) → true ≡ is_some p → (s : State) → Stands s p ms → Comes (next l s (problem n m)) (Err (DimacsLine l)) ms
  unfolding next
  problem_again None e s h = absurd (true_is_not_false e)
  problem_again (Some p) e start h = absurd h.said
  problem_again (Some p) e (graph n' m' es) h = refl

  pub problem_outside : (p : Option Progress) → false ≡ is_some p → outside 1 most_vertices n ≡ true → (s : State) → Stands s p ms
      → Comes (next l s (problem n m)) (Err Vertices) ms
  unfolding next vertex_cause
  problem_outside (Some p) e f s h = absurd (true_is_not_false (sym e))
  problem_outside None e f (graph n' m' es) h = absurd h.said
  problem_outside None e f start h =
      subst (λ (x : Reply State). Comes x (Err Vertices) ms) (sym (first_holds (vertex_cause n) [] (answered 0 (graph n m [])) f)) refl

  pub problem_comes : (p : Option Progress) → false ≡ is_some p → outside 1 most_vertices n ≡ false → (s : State) → Stands s p ms
      → Comes (next l s (problem n m)) (Ok (Some (record { vertices = n; edges = m; read = 0 }))) ms
  unfolding next vertex_cause first_cause
  problem_comes (Some p) e f s h = absurd (true_is_not_false (sym e))
  problem_comes None e f (graph n' m' es) h = absurd h.said
  problem_comes None e f start h =
      let done = first_skips (vertex_cause n) [] (answered 0 (graph n m [])) f in
      subst (λ (x : Reply State). Comes x (Ok (Some (record { vertices = n; edges = m; read = 0 }))) ms) (sym done)
      (record {
        sound = (after_problem n m done).sound tt;
        said = record { vertices = refl; edges = refl; read = refl };
        rows = h.rows;
      })

-- ---- an e line

pub edge_early : {q : Option Progress} → q ≡ None → (l u v : ℕ) (ms : List ℕ) (s : State) → Stands s q ms → Comes (next l s (edge u v)) (Err (DimacsLine l)) ms
unfolding next
edge_early {q} e l u v ms s h = go s (subst (λ (q : Option Progress). Stands s q ms) e h)
  where
    go : (s : State) → Stands s None ms → Comes (next l s (edge u v)) (Err (DimacsLine l)) ms
    go start h = refl
    go (graph n m es) h = absurd h.said

module _ {q : Option Progress} {p : Progress} (kept : q ≡ Some p) (l u v : ℕ) (ms : List ℕ) where
  -- n, m and the edges: what the definition asks of n is asked of the number kept
  in_graph : {b : Bool} (r : Result (Option Progress) Refusal) (after : List ℕ) (s : State) → Stands s q ms → is_wrong p.vertices u v ≡ b
      → ((n m : ℕ) (es : List Edge) → Stands (graph n m es) (Some p) ms → is_wrong n u v ≡ b → Comes (next l (graph n m es) (edge u v)) r after)
      → Comes (next l s (edge u v)) r after
  in_graph {b} r after s h e f = go s (subst (λ (q : Option Progress). Stands s q ms) kept h)
    where
      go : (s : State) → Stands s (Some p) ms → Comes (next l s (edge u v)) r after
      go start h = absurd h.said
      go (graph n m es) h = f n m es h (ap (λ (k : ℕ). is_wrong k u v) (sym h.said.vertices) ∙ e)

  pub edge_refused : (after : List ℕ) (s : State) → Stands s q ms → is_wrong p.vertices u v ≡ true → Comes (next l s (edge u v)) (Err (DimacsLine l)) after
  unfolding next
  edge_refused after s h e =
      in_graph (Err (DimacsLine l)) after s h e (λ n m es h wrong.
      subst (λ (x : Reply State). Comes x (Err (DimacsLine l)) after) (sym (first_holds (line_cause (is_wrong n u v) l) [] _ wrong)) refl)

  pub edge_comes : (s : State) {after : List ℕ} → Stands s q ms → is_wrong p.vertices u v ≡ false → after ≡ linked ms (u - 1) (v - 1)
      → Comes (next l s (edge u v)) (Ok (Some (record { vertices = p.vertices; edges = p.edges; read = p.read + 1 }))) after
  unfolding next first_cause
  edge_comes s {after} h e f =
      in_graph _ after s h e (λ n m es h fits.
      let r = right n u v fits in
      let o = h.said in
      let done = first_skips (line_cause (is_wrong n u v) l) [] (answered 0 (graph n m (edge_of u v ∷ es))) fits in
      subst (λ (x : Reply State). Comes x (Ok (Some (record { vertices = p.vertices; edges = p.edges; read = p.read + 1 }))) after) (sym done)
      (record {
        sound = (after_edge l n m u v es done).sound h.sound;
        said = record { vertices = o.vertices; edges = o.edges; read = omega (arith, o.read) };
        rows =
            f ∙ ap (λ (g : List ℕ). linked g (u - 1) (v - 1)) h.rows
            ∙ rows_linked width (edge_of u v) es (omega (arith, r.first, h.sound.most)) (omega (arith, r.second, h.sound.most));
      }))
