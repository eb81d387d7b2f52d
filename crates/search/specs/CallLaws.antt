-- Laws of the call that lists: from what the search added to what is collected, and from that and the outcome of the checks to what the call
-- answers and leaves in the slots.
use Rattle.std.specs.Prelude.{◌≡◌, ℕ, ◌^◌, ◌<◌, ◌≤◌, List, ◌++◌, length, take, drop, replicate, Ok, Err}
use Rattle.std.proofs.Common.{arith, ap, ◌∙◌, le-leb}
use Rattle.std.proofs.Math.Path.{sym}
use Rattle.std.proofs.lemmas.Bool.{lt-leb}
use Rattle.judging.specs.Request.{Request}
use Rattle.judging.specs.Refusal.{refused, answered, first_cause}
use Rattle.judging.specs.Calls.{refusal, passed, request_check}
use Rattle.judging.specs.RefusalLaws.{graph_sized, graph_checked, slack_accepted, floor_accepted}
use Rattle.judging.specs.RefusalLaws.{request_slack, request_floor, request_graph, silent_accepted}
use Rattle.judging.specs.declared.Refusal.{Refusal}
use Rattle.judging.specs.declared.Refusal.TheVariants.{Slots}
use Rattle.lists.specs.Listing.{listed, listing}
use Rattle.lists.specs.ListingLaws.{listing_counts, listing-placed, listing_sorted}
use Rattle.lists.specs.Order.{Sorts}
use Rattle.lists.specs.Placing.{most_count, Adds}
use Rattle.lists.specs.PlacingLaws.{adds_all}
use Rattle.search.specs.Start.{Accepted}
use Rattle.search.specs.Calls.{list_reply, placed, slots_after, Lists, Collects}
use Rattle.search.specs.RoomLaws.{room_refused, room_fits, room_short}

-- ---- slots that are given a list

placed_fits : (l slots : List ℕ) → length l ≤ length slots → placed l slots ≡ l ++ drop (length l) slots
unfolding placed
placed_fits l slots h = rw (le-leb (length l) (length slots) h)

placed_short : (l slots : List ℕ) → length slots < length l → placed l slots ≡ replicate (length slots) 0
unfolding placed
placed_short l slots h = rw (lt-leb (length l) (length slots) h)

module _ (g : List ℕ) (ask : Request) where
  pub accepted_holds : first_cause (request_check g ask) passed ≡ passed → Accepted g ask
  accepted_holds e =
      let f = floor_accepted g ask.slack ask.floor (request_floor g ask e) in
      let h = slack_accepted g ask.slack (request_slack g ask e) in
      record {
        sized = graph_sized g (request_graph g ask e);
        valid = graph_checked g (request_graph g ask e);
        slack = h;
        floor = (omega (arith, f.0, h.0), omega (arith, f.1));
        silent = silent_accepted g ask e;
      }

  -- a request that is refused leaves the slots
  pub list_refused : (f : Refusal) (slots : List ℕ) → first_cause (request_check g ask) passed ≡ refusal f → Lists g ask slots slots (Err f)
  unfolding list_reply slots_after
  list_refused f slots e =
      record {
        reply = sym (room_refused (request_check g ask) _ _ e);
        slots = rw e;
      }

  -- ---- a request that passes

  module _ (e : first_cause (request_check g ask) passed ≡ passed) where
    -- the slots are given the list
    passed_slots : (slots : List ℕ) → slots_after g ask slots ≡ placed (listing g ask) slots
    unfolding slots_after
    passed_slots slots = rw e

    pub reply_fits : (room : ℕ) → length (listing g ask) ≤ room → list_reply g ask room ≡ answered (length (listing g ask)) tt
    unfolding list_reply
    reply_fits room l = room_fits (request_check g ask) (length (listing g ask)) room e l

    pub reply_short : (room : ℕ) → room < length (listing g ask) → list_reply g ask room ≡ refused 6 (length (listing g ask))
    unfolding list_reply
    reply_short room l = room_short (request_check g ask) (length (listing g ask)) room e l

    pub slots_fits : (slots : List ℕ) → length (listing g ask) ≤ length slots
        → slots_after g ask slots ≡ listing g ask ++ drop (length (listing g ask)) slots
    slots_fits slots l = passed_slots slots ∙ placed_fits (listing g ask) slots l

    pub slots_short : (slots : List ℕ) → length slots < length (listing g ask) → slots_after g ask slots ≡ replicate (length slots) 0
    slots_short slots l = passed_slots slots ∙ placed_short (listing g ask) slots l

    module _ {before after : List ℕ} {m : ℕ} (x : Collects g ask before after m) where
      -- the slots that are given the list
      pub list_fits : m ≤ length before → Lists g ask before after (Ok m)
      list_fits l =
          record {
            reply = ap (λ (n : ℕ). answered n tt) x.counted ∙ sym (reply_fits (length before) (omega (arith, x.counted)));
            slots = x.fits l ∙ ap (λ (n : ℕ). listing g ask ++ drop n before) x.counted ∙ sym (slots_fits before (omega (arith, x.counted)));
          }

      -- there are more plexes than slots: these are cleared
      pub list_short : {exit : List ℕ} → length before < m → exit ≡ replicate (length before) 0 → Lists g ask before exit (Err (Slots m))
      list_short l z =
          record {
            reply = ap (refused 6) x.counted ∙ sym (reply_short (length before) (omega (arith, x.counted)));
            slots = z ∙ sym (slots_short before (omega (arith, x.counted)));
          }

-- ---- what the search added

module _ {g : List ℕ} {ask : Request} (a : Accepted g ask) {before after : List ℕ} {m : ℕ} (x : Adds (2 ^ length g) (listed g ask) before 0 after m) where
  few : length (listing g ask) ≤ most_count
  few = listing_counts g ask (omega (arith, a.slack, a.floor)) a.sized.most

  counted : m ≡ length (listing g ask)
  counted = (listing-placed g ask before after m few x).0

  pub added_length : length after ≡ length before
  added_length = (adds_all (2 ^ length g) (listed g ask) before after m x).long

  -- put in order it is the list
  pub collects_fits : {part exit : List ℕ} → m ≤ length before → Sorts (take m after) part → exit ≡ part ++ drop m after → Collects g ask before exit m
  collects_fits {part} l h z = record { counted = counted; fits = λ k. z ∙ listing_sorted g ask before after part m few x l h }

  pub collects_short : length before < m → Collects g ask before after m
  collects_short l = record { counted = counted; fits = λ k. absurd (omega arith) }
