-- From what was read, listed and written to the answer of the definitions.
use Rattle.std.specs.Prelude.{ℕ, ◌*◌, ◌≤◌, refl, length, take, drop, Result, Ok}
use Rattle.std.proofs.Common.{arith, sym, ◌∙◌, length-append}
use Rattle.std.proofs.Math.Path.{◌≡◌, ap, subst}
use mathlib.Core.List.{List}
use Rattle.sets.specs.Words.{per_set, masks}
use Rattle.sets.specs.Words.Masks.{count_masks, lent_before}
use Rattle.judging.specs.Request.{Request, asked}
use Rattle.judging.specs.Refusal.{Reply, refused, answered, most_vertices}
use Rattle.judging.specs.Calls.{refusal, number_of, value_of}
use Rattle.judging.specs.declared.Refusal.{Refusal}
use Rattle.sheets.specs.Sheet.{Sheet, reading, rows_after}
use Rattle.sheets.specs.OverLaws.{over_fits, over_front}
use Rattle.sheets.specs.Calls.{Heading, heading, heading_of, read_reply, ReadSheet}
use Rattle.sheets.specs.declared.Sheet as code
use Rattle.lists.specs.Listing.{listing}
use Rattle.search.specs.Calls.{Lists}
use Rattle.search.specs.OutcomeLaws.{list_count, list_room, slots_list, slots_first}
use Rattle.answers.specs.Output.{list_text, refusal_text, reply_text, list_length, refusal_length, Writes}
use Rattle.answers.specs.Answer.{with_list, answer_of, slots_of, answer_text, slots_left, WritesList, Answers, Room}

pub writes_fit : (new old out : List ℕ) (r : ℕ) → Writes new old out r → r ≤ length out
writes_fit new old out r w = omega (arith, w.count, ap length w.text, over_fits new old)

-- so many slots, and bytes for the longest answer to them
pub room_fits : (words : List ℕ) {out : List ℕ} (slots bytes : ℕ) → length words ≡ slots * per_set → length out ≡ bytes → list_length slots ≤ bytes
    → refusal_length ≤ bytes → Room (masks words) out
room_fits words slots bytes e f l h = record { list = omega (arith, count_masks words); refusal = omega arith }

-- ---- the call that lists

-- it gave m, and left the words ws in the slots
module _ {g : List ℕ} {ask : Request} {before : List ℕ} {m : ℕ} (ws : List ℕ) (h : Lists g ask before (masks ws) (Ok m)) where
  pub listed_fits : m ≤ length (masks ws)
  listed_fits =
      omega (
        arith,
        list_count g ask (length before) (sym h.reply),
        ap length (h.slots ∙ slots_list g ask before (sym h.reply)),
        length-append (listing g ask) (drop m before),
      )

  -- the list ends at the word `end`
  module _ {end : ℕ} (z : end ≡ m * per_set) where
    listed_front : masks (take end ws) ≡ listing g ask
    listed_front = lent_before ws m end z listed_fits ∙ ap (take m) h.slots ∙ slots_first g ask before (sym h.reply)

    pub listed_few : length (masks (take end ws)) ≤ length before
    listed_few =
        let e = sym h.reply in
        omega (arith, ap length listed_front, list_count g ask (length before) e, list_room g ask (length before) e)

    pub listed_out : {old out : List ℕ} {r : ℕ} → Writes (list_text (masks (take end ws))) old out r → WritesList g ask before (masks ws) old out r
    listed_out {old} {out} {r} w =
        record {
          written =
              subst (λ (x : Reply (Unit {0})). Writes (reply_text (with_list x (listing g ask))) old out r) h.reply
              (subst (λ (l : List ℕ). Writes (list_text l) old out r) listed_front w);
          slots = h.slots;
        }

-- ---- the sheet that was read

-- reading the text t gave n and the request, and its rows are the first n of those that were lent
pub record GaveSheet (t : List ℕ) (n : ℕ) (ask : Request) (rest ws : List ℕ) : Type 0 where
  pub reply : answered 0 (heading n ask) ≡ heading_of (reading t most_vertices)
  pub rows : masks ws ≡ rows_after (reading t most_vertices) rest

-- a row was lent for each vertex
pub read_whole : {t rest after : List ℕ} {r : Result code.Sheet Refusal} → length rest ≡ most_vertices → ReadSheet t rest after r
    → read_reply r ≡ heading_of (reading t most_vertices)
read_whole room h = rw room at h.reply

pub gave_sheet : {t : List ℕ} {s : code.Sheet} {rest : List ℕ} (ws : List ℕ) → length rest ≡ most_vertices → ReadSheet t rest (masks ws) (Ok s)
    → GaveSheet t s.vertices (asked s.request) rest ws
gave_sheet ws room h = record { reply = read_whole room h; rows = rw room at h.rows }

module _ {t : List ℕ} {n : ℕ} {ask : Request} {rest ws : List ℕ} (h : GaveSheet t n ask rest ws) where
  pub rows_fit : n ≤ length (masks ws)
  rows_fit = go (reading t most_vertices) h.reply h.rows
    where
      go : (x : Reply Sheet) → answered 0 (heading n ask) ≡ heading_of x → masks ws ≡ rows_after x rest → n ≤ length (masks ws)
      go (refused c v) z y = let w : ◌≡◌ {A = ℕ} 0 1 = cc in absurd (omega arith)
      go (answered v s) z y =
          let same : heading n ask ≡ heading (length s.rows) s.request = cc in
          omega (arith, ap (λ (x : Heading). x.vertices) same, ap length y, over_fits s.rows rest)

  pub answer_listed : {end : ℕ} {before after old out : List ℕ} {r : ℕ} → end ≡ n * per_set → WritesList (masks (take end ws)) ask before after old out r
      → Answers t before after old out r
  unfolding answer_text slots_left
  answer_listed {end} {before} {after} {old} {out} {r} at w =
      let a = go (reading t most_vertices) h.reply h.rows in
      record { written = a.0; slots = a.1 }
    where
      go : (x : Reply Sheet) → answered 0 (heading n ask) ≡ heading_of x → masks ws ≡ rows_after x rest
          → Writes (reply_text (answer_of x (length before))) old out r × (after ≡ slots_of x before)
      go (refused c v) z y = let u : ◌≡◌ {A = ℕ} 0 1 = cc in absurd (omega arith)
      go (answered v s) z y =
          let same : heading n ask ≡ heading (length s.rows) s.request = cc in
          let front : masks (take end ws) ≡ s.rows =
          lent_before ws n end at rows_fit ∙ ap (take n) y ∙ over_front s.rows rest (sym (ap (λ (x : Heading). x.vertices) same)) in
          let list : WritesList s.rows s.request before after old out r =
          subst (λ (x : Heading). WritesList s.rows x.request before after old out r) same
          (subst (λ (g : List ℕ). WritesList g ask before after old out r) front w) in
          (list.written, list.slots)

pub answer_refused : {t before old out : List ℕ} {r : ℕ} (f : Refusal) → refusal f ≡ heading_of (reading t most_vertices)
    → Writes (refusal_text (number_of f) (value_of f)) old out r → Answers t before before old out r
unfolding answer_text slots_left
answer_refused {t} {before} {old} {out} {r} f e w =
    let a = go (reading t most_vertices) e in
    record { written = a.0; slots = a.1 }
  where
    go : (x : Reply Sheet) → refusal f ≡ heading_of x → Writes (reply_text (answer_of x (length before))) old out r × (before ≡ slots_of x before)
    go (refused n v) z =
        let a : number_of f ≡ n = cc in
        let b : value_of f ≡ v = cc in
        (subst (λ (i : ℕ). Writes (refusal_text i v) old out r) a (subst (λ (j : ℕ). Writes (refusal_text (number_of f) j) old out r) b w), refl)
    go (answered v s) z = let y : ◌≡◌ {A = ℕ} 0 1 = cc in absurd (omega arith)
