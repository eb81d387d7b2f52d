-- Reading: from what the code found to the reply and the rows of the definition.
use Rattle.std.specs.Prelude.{ℕ, ◌-◌, ◌*◌, ◌≤◌, ◌<◌, ◌≡◌, Ok, Err, take}
use Rattle.std.proofs.Common.{arith, ◌∙◌, lt-ltb, le-ltb}
use Rattle.std.proofs.Math.Path.{sym, ap, ap₂}
use mathlib.Core.List.{List, [], ◌∷◌, ◌++◌}
use borrow.Author.Rules.{part_to_end}
use Rattle.std.proofs.Math.ListN.{length, drop}
use Rattle.std.proofs.Math.Seq.{take_at, length-take-le}
use Rattle.sets.specs.Words.{per_set, width, masks}
use Rattle.sets.specs.declared.Set.{Set}
use Rattle.sets.specs.Words.Masks.{offset_fits, lent_before, lent_length, back_before}
use Rattle.judging.specs.Request.{Request, request, asked}
use Rattle.judging.specs.Refusal.{Reply, answered, first_cause}
use Rattle.judging.specs.Calls.{passed, refusal}
use Rattle.judging.specs.RefusalLaws.{first_append, first_holds, first_skips, first_passed, numbers_vertices}
use Rattle.judging.specs.CallLaws.{front_refused}
use Rattle.judging.specs.declared.Refusal.{Refusal}
use Rattle.judging.specs.declared.Refusal.TheVariants.{Room}
use Rattle.judging.specs.Setting.{Sized}
use Rattle.judging.specs.declared.Request as asks
use Rattle.sheets.specs.declared.Sheet as code
use Rattle.sheets.specs.declared.heading.Heading as first
use Rattle.sheets.specs.Setting.{SaysFields, SaysSets, SaysSheet}
use Rattle.sheets.specs.Sheet.{heading_length, row_digits, row_length, vertex_field, slack_field, floor_field}
use Rattle.sheets.specs.Sheet.{body, silent_in, rows_in, request_in, Sheet, sheet, sheet_of, room_cause, heading_causes, body_causes, sheet_causes}
use Rattle.sheets.specs.Sheet.{reading, over, rows_after}
use Rattle.sheets.specs.Calls.{heading, heading_of, ReadSheet}
use Rattle.sheets.specs.LineLaws.{numbers-length}
use Rattle.sheets.specs.SheetLaws.{passed_fields, passed_heading}

read_refused : {t ms : List ℕ} {f : Refusal} → reading t (length ms) ≡ refusal f → ReadSheet t ms ms (Err f)
read_refused {t} {ms} e = record { reply = sym (ap heading_of e); rows = sym (ap (λ (x : Reply Sheet). rows_after x ms) e) }

read_answered : {t ms after : List ℕ} {n : ℕ} {request : asks.Request} (g : List ℕ) → reading t (length ms) ≡ answered 0 (sheet g (asked request))
    → length g ≡ n → after ≡ g ++ drop n ms → ReadSheet t ms after (Ok (record { vertices = n; request = request }))
unfolding over
read_answered {ms = ms} {request = request} g e l p =
    record {
      reply = ap (λ (m : ℕ). answered 0 (heading m (asked request))) (sym l) ∙ sym (ap heading_of e);
      rows = p ∙ ap (λ (m : ℕ). g ++ drop m ms) (sym l) ∙ sym (ap (λ (x : Reply Sheet). rows_after x ms) e);
    }

-- ---- where the text is refused

pub sheet_refused : {t ms : List ℕ} {f : Refusal} → refusal f ≡ first_cause (sheet_causes t) passed → ReadSheet t ms ms (Err f)
unfolding reading
sheet_refused {t} {ms} {f} e =
    read_refused (sym (front_refused (sheet_causes t) (room_cause (length ms) (vertex_field t) ∷ []) (answered 0 (sheet_of t)) f e))

-- in line 1
pub heading_told : (t : List ℕ) (f : Refusal) → refusal f ≡ first_cause (heading_causes t) passed → refusal f ≡ first_cause (sheet_causes t) passed
unfolding sheet_causes
heading_told t f e = front_refused (heading_causes t) (body_causes (vertex_field t) (body t)) passed f e

-- ---- once line 1 has passed

-- what stands below line 1, as the code lends it
abbrev pub lent_body : List ℕ → List ℕ
lent_body t = take (length t - heading_length) (drop heading_length t)

module _ (t : List ℕ) (e : first_cause (heading_causes t) passed ≡ passed) where
  pub vertices_read : {n : ℕ} → n ≡ vertex_field t → (1 ≤ n) × (n ≤ width)
  vertices_read f = let r = numbers_vertices (vertex_field t) (slack_field t) (floor_field t) (passed_fields t e) in (omega arith, omega arith)

  -- what is below it decides
  pub body_judged : {n : ℕ} {r : Reply (Unit {0})} → n ≡ vertex_field t → r ≡ first_cause (body_causes n (lent_body t)) passed
      → r ≡ first_cause (sheet_causes t) passed
  unfolding sheet_causes
  body_judged f h =
      h ∙ ap₂ (λ (m : ℕ) (u : List ℕ). first_cause (body_causes m u) passed) f (part_to_end t heading_length)
      ∙ sym (first_append (heading_causes t) (body_causes (vertex_field t) (body t)) passed
      ∙ first_passed (heading_causes t) (first_cause (body_causes (vertex_field t) (body t)) passed) e)

-- what the code reads of lines 1 and 2
pub request_read : (t : List ℕ) {k q z : ℕ} → k ≡ slack_field t → q ≡ floor_field t → z ≡ silent_in (lent_body t) → request k q z ≡ request_in t
request_read t e f h = rw (e, f, h, part_to_end t heading_length)

-- what the code reads of line 1 and of the lines below it, whose rows it stores in the words ws up to the word `end`
module _ (t ws : List ℕ) {h : first.Heading} (s : SaysFields t h) (e : passed ≡ first_cause (heading_causes t) passed) (l : width ≤ length (masks ws)) where
  pub vertices_fit : h.vertices ≤ length (masks ws)
  vertices_fit = omega (arith, vertices_read t (sym e) s.vertices)

  module _ {end : ℕ} (at : end ≡ h.vertices * per_set) where
    pub table_end : end ≤ length ws
    table_end = offset_fits h.vertices end ws at vertices_fit

    rows_lent : length (masks (take end ws)) ≡ h.vertices
    rows_lent = lent_length ws h.vertices end at vertices_fit

    pub table_sized : Sized (masks (take end ws))
    table_sized = let n = vertices_read t (sym e) s.vertices in record { some = omega (arith, n, rows_lent); most = omega (arith, n, rows_lent) }

    pub body_told : {r : Reply (Unit {0})} → r ≡ first_cause (body_causes (length (masks (take end ws))) (lent_body t)) passed
        → r ≡ first_cause (sheet_causes t) passed
    body_told r = body_judged t (sym e) (rows_lent ∙ s.vertices) r

    pub sheet_said : (last : List ℕ) {z : Set} → length last ≡ length (take end ws) → SaysSets (length (masks (take end ws))) (lent_body t) (masks last) z
        → SaysSheet t (masks (last ++ drop end ws))
        (record { vertices = h.vertices; request = record { slack = h.slack; floor = h.floor; silent = z } })
    sheet_said last long r =
        let front : masks last ≡ rows_in h.vertices (body t) =
        r.rows ∙ ap₂ (λ (m : ℕ) (u : List ℕ). rows_in m u) rows_lent (part_to_end t heading_length) in
        record {
          vertices = s.vertices;
          request = request_read t s.slack s.floor r.silent;
          rows =
              ap (take h.vertices) (back_before ws h.vertices end at last (long ∙ length-take-le end ws table_end))
              ∙ take_at (masks last) (drop h.vertices (masks ws)) h.vertices (ap length front ∙ numbers-length row_digits h.vertices (drop row_length (body t)))
              ∙ front;
        }

-- ---- once the whole text has

module _ (t : List ℕ) (e : first_cause (sheet_causes t) passed ≡ passed) where
  room_left : (room : ℕ) {n : ℕ} → n ≡ vertex_field t → reading t room ≡ first_cause (room_cause room n ∷ []) (answered 0 (sheet_of t))
  unfolding reading
  room_left room f =
      first_append (sheet_causes t) (room_cause room (vertex_field t) ∷ []) (answered 0 (sheet_of t))
      ∙ first_passed (sheet_causes t) (first_cause (room_cause room (vertex_field t) ∷ []) (answered 0 (sheet_of t))) e
      ∙ ap (λ (m : ℕ). first_cause (room_cause room m ∷ []) (answered 0 (sheet_of t))) (sym f)

  pub room_refused : {ms : List ℕ} {n : ℕ} → n ≡ vertex_field t → length ms < n → ReadSheet t ms ms (Err (Room n))
  unfolding room_cause
  room_refused {ms} {n} f l =
      read_refused (room_left (length ms) f ∙ first_holds (room_cause (length ms) n) [] (answered 0 (sheet_of t)) (lt-ltb (length ms) n l))

  -- what was read is in the words of the table up to the word `end`, which come to stand in front of the lent ones
  module _ (table : List ℕ) {s : code.Sheet} {end : ℕ} (r : SaysSheet t (masks table) s) (at : end ≡ s.vertices * per_set)
      (k : width ≤ length (masks table)) where
    pub read_end : end ≤ length table
    read_end = offset_fits s.vertices end table at (omega (arith, vertices_read t (passed_heading t e) r.vertices))

    pub rows_read : (ws : List ℕ) {part : List ℕ} → s.vertices ≤ length (masks ws) → part ≡ take end table
        → ReadSheet t (masks ws) (masks (part ++ drop end ws)) (Ok s)
    unfolding room_cause first_cause sheet_of
    rows_read ws {part} l p =
        let n = s.vertices in
        let room = length (masks ws) in
        let few : n ≤ length (masks table) = omega (arith, vertices_read t (passed_heading t e) r.vertices) in
        let front : masks part ≡ rows_in n (body t) = ap masks p ∙ lent_before table n end at few ∙ r.rows in
        let long : length part ≡ end = ap length p ∙ length-take-le end table read_end in
        let found : reading t (length (masks ws)) ≡ answered 0 (sheet (rows_in n (body t)) (asked s.request)) =
        room_left room r.vertices ∙ first_skips (room_cause room n) [] (answered 0 (sheet_of t)) (le-ltb room n l)
        ∙ ap₂ (λ (m : ℕ) (a : Request). answered 0 (sheet (rows_in m (body t)) a)) (sym r.vertices) (sym r.request) in
        read_answered (rows_in n (body t)) found (numbers-length row_digits n (drop row_length (body t)))
        (back_before ws n end at part long ∙ ap (λ (u : List ℕ). u ++ drop n (masks ws)) front)
