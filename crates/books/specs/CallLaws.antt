-- Laws of the call that changes a book: from the outcome of the checks, and from what was made of the changed graph, to what the call answers and leaves in the
-- rows and the slots.
use Rattle.std.specs.Prelude.{ℕ, ◌≤◌, ◌<◌, ◌≡◌, refl, ◌≢◌, true, false, length, take, drop}
use Rattle.std.proofs.Common.{arith, ◌∙◌, take_at}
use Rattle.std.proofs.Math.Path.{sym, ap}
use mathlib.Core.List.{List, [], ◌∷◌, ◌++◌}
use borrow.Author.Tests.{le-leb, lt-leb, eq-eqb, ne_eqb, eqb-false}
use Rattle.judging.specs.Request.{Request}
use Rattle.judging.specs.Refusal.{refused, answered, first_cause, vertex_out_cause}
use Rattle.judging.specs.Calls.{refusal, passed, request_check}
use Rattle.judging.specs.RefusalLaws.{first_holds, first_skips, passed_front, passed_back, passed_head, passed_tail, vertex_below}
use Rattle.judging.specs.CallLaws.{front_refused, front_accepted}
use Rattle.judging.specs.declared.Refusal.{Refusal}
use Rattle.judging.specs.declared.Refusal.TheVariants.{Slots}
use Rattle.lists.specs.Listing.{listing}
use Rattle.search.specs.Start.{Accepted}
use Rattle.search.specs.Calls.{Collects}
use Rattle.search.specs.CallLaws.{accepted_holds}
use Rattle.search.specs.RoomLaws.{room_refused, room_fits, room_short}
use Rattle.std.specs.Prelude.{Ok, Err}
use Rattle.books.specs.Book.{Change, already_so, changed_graph}
use Rattle.books.specs.Calls.{loop_cause, unchanged_cause, pair_causes, change_check, change_reply, rows_changed, slots_changed, Changes, Changeable, Renews}
use Rattle.books.specs.EdgeLaws.{changed_length, changed_valid}

-- ---- the two vertices: each cause once those before it do not hold

module _ (g : List ℕ) (c : Change) where
  pub one_outside : length g ≤ c.one → refused 7 0 ≡ first_cause (pair_causes g c) passed
  unfolding pair_causes vertex_out_cause
  one_outside l = sym (first_holds _ _ passed (le-leb (length g) c.one l))

  module _ (p : c.one < length g) where
    past_one : first_cause (pair_causes g c) passed ≡ first_cause (vertex_out_cause g c.other ∷ loop_cause c ∷ unchanged_cause g c ∷ []) passed
    unfolding pair_causes vertex_out_cause
    past_one = first_skips _ _ passed (lt-leb (length g) c.one p)

    pub other_outside : length g ≤ c.other → refused 7 0 ≡ first_cause (pair_causes g c) passed
    unfolding vertex_out_cause
    other_outside l = sym (past_one ∙ first_holds _ _ passed (le-leb (length g) c.other l))

    module _ (q : c.other < length g) where
      past_other : first_cause (pair_causes g c) passed ≡ first_cause (loop_cause c ∷ unchanged_cause g c ∷ []) passed
      unfolding vertex_out_cause
      past_other = past_one ∙ first_skips _ _ passed (lt-leb (length g) c.other q)

      pub loop_refused : c.one ≡ c.other → refused 12 0 ≡ first_cause (pair_causes g c) passed
      unfolding loop_cause
      loop_refused e = sym (past_other ∙ first_holds _ _ passed (eq-eqb c.one c.other e))

      module _ (ne : c.one ≢ c.other) where
        past_loop : first_cause (pair_causes g c) passed ≡ first_cause (unchanged_cause g c ∷ []) passed
        unfolding loop_cause
        past_loop = past_other ∙ first_skips _ _ passed (ne_eqb c.one c.other ne)

        pub unchanged_refused : already_so g c ≡ true → refused 13 0 ≡ first_cause (pair_causes g c) passed
        unfolding unchanged_cause
        unchanged_refused e = sym (past_loop ∙ first_holds _ _ passed e)

        pub pair_accepted : already_so g c ≡ false → passed ≡ first_cause (pair_causes g c) passed
        unfolding unchanged_cause first_cause
        pair_accepted e = sym (past_loop ∙ first_skips _ [] passed e)

  -- what is known of a change that passes
  module _ (e : first_cause (pair_causes g c) passed ≡ passed) where
    pub pair_changeable : Changeable g c
    unfolding pair_causes loop_cause
    pair_changeable =
        let rest = passed_tail _ _ (passed_tail _ _ e) in
        record {
          one = vertex_below g c.one (passed_head _ _ e);
          other = vertex_below g c.other (passed_head _ _ (passed_tail _ _ e));
          apart = eqb-false c.one c.other (passed_head _ _ rest);
        }

    pub pair_new : already_so g c ≡ false
    unfolding pair_causes unchanged_cause
    pair_new = passed_head _ _ (passed_tail _ _ (passed_tail _ _ (passed_tail _ _ e)))

-- ---- the book's own entries, and then the two vertices

module _ (g : List ℕ) (ask : Request) (c : Change) where
  pub request_refused : (f : Refusal) → refusal f ≡ first_cause (request_check g ask) passed → refusal f ≡ first_cause (change_check g ask c) passed
  unfolding change_check
  request_refused f h = front_refused (request_check g ask) (pair_causes g c) passed f h

  pub request_accepted : passed ≡ first_cause (request_check g ask) passed
      → first_cause (change_check g ask c) passed ≡ first_cause (pair_causes g c) passed
  unfolding change_check
  request_accepted h = front_accepted (request_check g ask) (pair_causes g c) passed h

  -- a change that passes
  module _ (e : first_cause (change_check g ask c) passed ≡ passed) where
    pub change_accepted : Accepted g ask
    unfolding change_check
    change_accepted = accepted_holds g ask (passed_front (request_check g ask) (pair_causes g c) e)

    pair : first_cause (pair_causes g c) passed ≡ passed
    unfolding change_check
    pair = passed_back (request_check g ask) (pair_causes g c) e

    pub change_changeable : Changeable g c
    change_changeable = pair_changeable g c pair

    pub change_new : already_so g c ≡ false
    change_new = pair_new g c pair

-- the changed graph can be searched
pub changed_accepted : {g : List ℕ} {ask : Request} {c : Change} → Accepted g ask → Changeable g c → Accepted (changed_graph g c) ask
changed_accepted x ok =
    let n = changed_length ok in
    record {
      sized = record { some = omega (arith, x.sized.some, n); most = omega (arith, x.sized.most, n) };
      valid = changed_valid ok x.valid;
      slack = x.slack;
      floor = x.floor;
      silent = rw n x.silent;
    }

-- ---- what the call answers

module _ (g : List ℕ) (ask : Request) (c : Change) where
  pub change_refused : (f : Refusal) (slots : List ℕ) → first_cause (change_check g ask c) passed ≡ refusal f → Changes g ask c slots g slots (Err f)
  unfolding change_reply rows_changed slots_changed
  change_refused f slots e = let r = room_refused (change_check g ask c) (length (listing (changed_graph g c) ask)) (length slots) e in record {
    reply = sym r;
    rows = rw r;
    slots = rw r;
  }

  module _ (e : first_cause (change_check g ask c) passed ≡ passed) {before after : List ℕ} {m : ℕ} (x : Renews (changed_graph g c) ask before after m) where
    pub change_short : length before < m → Changes g ask c before g after (Err (Slots m))
    unfolding change_reply rows_changed slots_changed
    change_short l =
        let r = room_short (change_check g ask c) (length (listing (changed_graph g c) ask)) (length before) e (omega (arith, l, x.made.counted)) in
        record { reply = ap (refused 6) x.made.counted ∙ sym r; rows = rw r; slots = x.short l ∙ rw r }

    pub change_fits : {h : List ℕ} → m ≤ length before → h ≡ changed_graph g c → Changes g ask c before h after (Ok m)
    unfolding change_reply rows_changed slots_changed
    change_fits l d =
        let r = room_fits (change_check g ask c) (length (listing (changed_graph g c) ask)) (length before) e (omega (arith, l, x.made.counted)) in
        record {
          reply = ap (λ (n : ℕ). answered n tt) x.made.counted ∙ sym r;
          rows = d ∙ rw r;
          slots = x.made.fits l ∙ rw (r, x.made.counted);
        }

-- ---- the list in the slots, by way of memory of its own

module _ {g : List ℕ} {ask : Request} {held made : List ℕ} {m : ℕ} (x : Collects g ask held made m) {before : List ℕ} where
  pub renews_short : length before < m → Renews g ask before before m
  renews_short l = record { made = record { counted = x.counted; fits = λ u. absurd (omega arith) }; short = λ u. refl }

  pub renews_copied : {after : List ℕ} → m ≤ length before → m ≤ length held → after ≡ take m made ++ drop m before → Renews g ask before after m
  renews_copied {after} l k e = record { made = record { counted = x.counted; fits = λ u. front }; short = λ u. absurd (omega arith) }
    where
      front : after ≡ listing g ask ++ drop m before
      front =
          e ∙ ap (λ (t : List ℕ). take m t ++ drop m before) (x.fits k)
          ∙ ap (λ (t : List ℕ). t ++ drop m before) (take_at (listing g ask) (drop m held) m (sym x.counted))

  pub renews_again : {after : List ℕ} {r : ℕ} → m ≤ length before → Collects g ask before after r → Renews g ask before after r
  renews_again l y = record { made = y; short = λ u. absurd (omega (arith, x.counted, y.counted)) }
