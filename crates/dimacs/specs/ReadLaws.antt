-- Laws of the reading as a whole: the loop over lines, the end, and what the call then leaves in the rows.
use Rattle.std.specs.Prelude.{ℕ, ◌+◌, ◌^◌, ◌≤◌, ◌<◌, ◌≡◌, Option, None, Some, Result, Ok, Err}
use Rattle.std.specs.Option.{ForSome}
use native.Mathlib.Omega.{arith}
use Rattle.std.proofs.Math.Path.{refl, sym, ap, ap₂, subst}
use Rattle.std.proofs.Common.{◌∙◌}
use Rattle.std.proofs.Math.Bool.{not}
use mathlib.Core.List.{List, [], ◌∷◌, ◌++◌}
use borrow.Author.Tests.{lt-ltb, le-ltb, eq-eqb, ne_eqb}
use Rattle.std.proofs.Math.ListN.{length, take, drop, length-drop, drop_of_length-le}
use Rattle.std.proofs.Math.Seq.{length-take-le}
use Rattle.sets.specs.Words.{width}
use Rattle.judging.specs.Refusal.{Reply, refused, answered, first_cause}
use Rattle.judging.specs.RefusalLaws.{first_holds, first_skips}
use Rattle.judging.specs.declared.Refusal.{Refusal}
use Rattle.judging.specs.declared.Refusal.TheVariants.{DimacsLine, EdgeCount, Room}
use Rattle.sheets.specs.Sheet.{room_cause, over}
use Rattle.dimacs.specs.Lines.{lines, kind_of}
use Rattle.dimacs.specs.Dimacs.{Edge, rows_of, State, start, graph, next, and_then, read_lines, count_cause, finish, reading, rows_after}
use Rattle.dimacs.specs.Calls.{count_of, ReadDimacs}
use Rattle.dimacs.specs.Setting.{kind_told, first_line, FirstLine, edges_in, Holds, Stands, Takes, Comes, Scanned, Ends}
use Rattle.dimacs.specs.LineLaws.{lines_first}
use Rattle.dimacs.specs.RowLaws.{rows_length, rows_front}
use Rattle.dimacs.specs.StateLaws.{next_capped, next_after, edge_more}
use Rattle.dimacs.specs.declared.lines.Line.{Line as ToldLine}
use Rattle.dimacs.specs.declared.state.Progress.{Progress}
use Rattle.dimacs.specs.declared.state.Scan.{Scan}

-- ---- lines read one after the other: those before the position at gave the state that p and ms hold, and line l is next

pub record Reads (t : List ℕ) (at l : ℕ) (p : Option Progress) (ms : List ℕ) : Type 0 where
  pub state : State
  pub upto : at ≤ length t
  pub left : read_lines 1 start (lines t) ≡ read_lines l state (lines (drop at t))
  pub stands : Stands state p ms
  pub counted : l ≤ at + 1
  pub few : length (edges_in state) < l

module _ {t : List ℕ} {at l : ℕ} {p : Option Progress} {ms : List ℕ} (h : Reads t at l p ms) where
  -- there is room for the next line, since a text has fewer than 2 ^ 63 bytes
  pub reads_takes : at < length t → length t < 2 ^ 63 → ForSome p (λ q. Takes q ms)
  reads_takes k b q e = go h.state (subst (λ (p : Option Progress). Stands h.state p ms) e h.stands) h.few
    where
      go : (s : State) → Stands s (Some q) ms → length (edges_in s) < l → Takes q ms
      go start i f = absurd i.said
      go (graph n m es) i f =
          record {
            most = omega (arith, i.said.vertices, i.sound.most);
            fits = omega (arith, i.said.read, h.counted);
            wide = ap length i.rows ∙ rows_length width es;
          }

  pub reads_all : length t ≤ at → Scanned (read_lines 1 start (lines t)) (Ok (record { number = l; progress = p })) ms
  unfolding read_lines lines
  reads_all k =
      let none = drop_of_length-le t k in
      subst (λ (x : Reply State). Scanned x (Ok (record { number = l; progress = p })) ms)
      (sym (h.left ∙ ap (λ (u : List ℕ). read_lines l h.state (lines u)) none)) (refl, h.stands)

  module _ (k : at < length t) {r : ToldLine} (f : FirstLine t at r) where
    -- what is left is what the next line makes, and then the lines behind it
    one_more : read_lines 1 start (lines t) ≡ and_then (next l h.state (kind_told r.kind)) (λ s. read_lines (l + 1) s (lines (drop r.next t)))
    unfolding read_lines
    one_more =
        let u = drop at t in
        let some : 0 < length (drop at t) = omega (arith, length-drop at t) in
        let kind = ap (next l h.state) f.told ∙ next_capped l h.state h.stands.sound (kind_of (first_line (drop at t))) in
        h.left ∙ ap (read_lines l h.state) (lines_first u some)
        ∙ ap₂ (λ (x : Reply State) (v : List ℕ). and_then x (λ s. read_lines (l + 1) s (lines v))) (sym kind) (sym f.rest)

    pub reads_stop : (d : Refusal) (after : List ℕ) → Comes (next l h.state (kind_told r.kind)) (Err d) after
        → Scanned (read_lines 1 start (lines t)) (Err d) after
    unfolding and_then
    reads_stop d after c =
        subst (λ (x : Reply State). Scanned x (Err d) after) (sym one_more) (go (next l h.state (kind_told r.kind)) c)
      where
        go : (x : Reply State) → Comes x (Err d) after → Scanned (and_then x (λ s. read_lines (l + 1) s (lines (drop r.next t)))) (Err d) after
        go (refused n v) e = e
        go (answered v s) e = absurd e

    pub reads_more : (p' : Option Progress) (after : List ℕ) → Comes (next l h.state (kind_told r.kind)) (Ok p') after
        → Reads t r.next (l + 1) p' after
    unfolding and_then
    reads_more p' after c = go (next l h.state (kind_told r.kind)) refl c
      where
        go : (x : Reply State) → next l h.state (kind_told r.kind) ≡ x → Comes x (Ok p') after → Reads t r.next (l + 1) p' after
        go (refused n v) e c = absurd c
        go (answered v s) e c =
            record {
              state = s;
              upto = f.upto;
              left = one_more ∙ ap (λ (x : Reply State). and_then x (λ s. read_lines (l + 1) s (lines (drop r.next t)))) e;
              stands = c;
              counted = omega (arith, h.counted, f.more);
              few =
                  omega (
                    arith,
                    h.few,
                    ap length (next_after l h.state (kind_told r.kind) e).edges,
                    edge_more (kind_told r.kind) (edges_in h.state),
                  );
            }

-- ---- the end

pub end_unsaid : {q : Option Progress} → q ≡ None → (room l : ℕ) (ms : List ℕ) (s : State) → Stands s q ms
    → Ends room (finish room (answered l s)) (Err (DimacsLine l)) ms
unfolding finish
end_unsaid {q} e room l ms s h = go s (subst (λ (q : Option Progress). Stands s q ms) e h)
  where
    go : (s : State) → Stands s None ms → Ends room (finish room (answered l s)) (Err (DimacsLine l)) ms
    go start h = refl
    go (graph n m es) h = absurd h.said

-- the p line was there: what decides is the number of e lines, and then the room
module _ {q : Option Progress} {p : Progress} (kept : q ≡ Some p) (room l : ℕ) (ms : List ℕ) where
  -- n, m and the edges
  in_graph : (r : Result ℕ Refusal) (s : State) → Stands s q ms
      → ((n m : ℕ) (es : List Edge) → Stands (graph n m es) (Some p) ms → Ends room (finish room (answered l (graph n m es))) r ms)
      → Ends room (finish room (answered l s)) r ms
  in_graph r s h f = go s (subst (λ (q : Option Progress). Stands s q ms) kept h)
    where
      go : (s : State) → Stands s (Some p) ms → Ends room (finish room (answered l s)) r ms
      go start h = absurd h.said
      go (graph n m es) h = f n m es h

  counted : {n m : ℕ} (es : List Edge) → Holds n m es p → p.read ≡ p.edges
      → finish room (answered l (graph n m es)) ≡ first_cause (room_cause room n ∷ []) (answered n (rows_of n es))
  unfolding finish
  counted {n} {m} es o f = first_skips (count_cause es m) _ _ (ap not (eq-eqb (length es) m (omega (arith, o.read, o.edges))))

  pub end_counted : (s : State) → Stands s q ms → (p.read ≡ p.edges → ⊥) → Ends room (finish room (answered l s)) (Err EdgeCount) ms
  unfolding finish
  end_counted s h f =
      in_graph (Err EdgeCount) s h (λ n m es h.
      let o = h.said in
      let other = ne_eqb (length es) m (λ q. f (omega (arith, o.read, o.edges))) in
      subst (λ (x : Reply (List ℕ)). Ends room x (Err EdgeCount) ms) (sym (first_holds (count_cause es m) _ _ (ap not other))) refl)

  pub end_short : (s : State) → Stands s q ms → p.read ≡ p.edges → room < p.vertices
      → Ends room (finish room (answered l s)) (Err (Room p.vertices)) ms
  unfolding room_cause
  end_short s h f k =
      in_graph (Err (Room p.vertices)) s h (λ n m es h.
      let same = h.said.vertices in
      subst (λ (x : Reply (List ℕ)). Ends room x (Err (Room p.vertices)) ms)
      (sym (counted es h.said f ∙ first_holds (room_cause room n) [] _ (lt-ltb room n (omega (arith, same))))) (ap (refused 9) same))

  pub end_read : (s : State) → Stands s q ms → p.read ≡ p.edges → p.vertices ≤ room
      → Ends room (finish room (answered l s)) (Ok p.vertices) ms
  unfolding room_cause first_cause
  end_read s h f k =
      in_graph (Ok p.vertices) s h (λ n m es h.
      let same = h.said.vertices in
      let most = h.sound.most in
      subst (λ (x : Reply (List ℕ)). Ends room x (Ok p.vertices) ms)
      (sym (counted es h.said f ∙ first_skips (room_cause room n) [] _ (le-ltb room n (omega (arith, same))))) (
        same,
        k,
        omega (arith, ap length h.rows, rows_length width es),
        ap₂ take same h.rows ∙ rows_front n width es h.sound.proper most,
      ))

-- ---- the whole call

module _ (t old : List ℕ) where
  -- a refusal leaves the rows
  refused_end : (d : Refusal) (ms : List ℕ) → Ends (length old) (reading t (length old)) (Err d) ms → ReadDimacs t old old (Err d)
  refused_end d ms h = go (reading t (length old)) refl h
    where
      go : (x : Reply (List ℕ)) → reading t (length old) ≡ x → Ends (length old) x (Err d) ms → ReadDimacs t old old (Err d)
      go (refused c v) e k = record { reply = k ∙ ap count_of (sym e); rows = ap (λ (x : Reply (List ℕ)). rows_after x old) (sym e) }
      go (answered v g) e k = absurd k

  -- at a line
  pub lines_refused : (d : Refusal) (ms : List ℕ) → Scanned (read_lines 1 start (lines t)) (Err d) ms → ReadDimacs t old old (Err d)
  unfolding reading finish
  lines_refused d ms h = refused_end d ms (go (read_lines 1 start (lines t)) h)
    where
      go : (x : Reply State) → Scanned x (Err d) ms → Ends (length old) (finish (length old) x) (Err d) ms
      go (refused c v) h = h
      go (answered v s) h = absurd h

  -- all lines passed, and the end is judged
  module _ {room : ℕ} (e : Scan) (ms : List ℕ) (h : Scanned (read_lines 1 start (lines t)) (Ok e) ms) (fits : room ≡ length old) where
    judged : (r : Result ℕ Refusal)
        → ((s : State) (us : List ℕ) → Stands s e.progress us → Ends room (finish room (answered e.number s)) r us)
        → Ends (length old) (reading t (length old)) r ms
    unfolding reading
    judged r f = subst (λ (k : ℕ). Ends k (finish k (read_lines 1 start (lines t))) r ms) fits (go (read_lines 1 start (lines t)) h)
      where
        go : (x : Reply State) → Scanned x (Ok e) ms → Ends room (finish room x) r ms
        go (refused c v) k = absurd k
        go (answered v s) k = subst (λ (l : ℕ). Ends room (finish room (answered l s)) r ms) k.0 (f s ms k.1)

    pub end_refused : (d : Refusal)
        → ((s : State) (us : List ℕ) → Stands s e.progress us → Ends room (finish room (answered e.number s)) (Err d) us)
        → ReadDimacs t old old (Err d)
    end_refused d f = refused_end d ms (judged _ f)

    module _ {n : ℕ} (f : (s : State) (us : List ℕ) → Stands s e.progress us → Ends room (finish room (answered e.number s)) (Ok n) us) where
      -- what is read has room, in the table as in the rows
      pub read_room : (n ≤ length ms) × (n ≤ length old)
      read_room = go (reading t (length old)) (judged _ f)
        where
          go : (x : Reply (List ℕ)) → Ends (length old) x (Ok n) ms → (n ≤ length ms) × (n ≤ length old)
          go (refused c v) k = absurd k
          go (answered v g) k = (k.2, k.1)

      pub read_stored : (new : List ℕ) → new ≡ take n ms ++ drop n old → ReadDimacs t old new (Ok n)
      unfolding over
      read_stored new q = go (reading t (length old)) refl (judged _ f)
        where
          go : (x : Reply (List ℕ)) → reading t (length old) ≡ x → Ends (length old) x (Ok n) ms → ReadDimacs t old new (Ok n)
          go (refused c v) e k = absurd k
          go (answered v g) e k =
              let long : n ≡ length g = sym (ap length (sym k.3) ∙ length-take-le n ms k.2) in
              record {
                reply = ap (λ (m : ℕ). answered m tt) k.0 ∙ ap count_of (sym e);
                rows = q ∙ ap₂ (λ (u : List ℕ) (m : ℕ). u ++ drop m old) k.3 long ∙ ap (λ (x : Reply (List ℕ)). rows_after x old) (sym e);
              }
