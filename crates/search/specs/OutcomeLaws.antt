-- What the answer of the call that lists means. An accepted request leaves the list in the slots, or 0 in all of them where it does not fit; where m is 0
-- every number of slots will do. Refusals of the request have the numbers 1 to 5, so number 6 comes from a request that passed its checks.
use Rattle.std.specs.Prelude.{◌≡◌, ℕ, ◌<◌, ◌≤◌, T, List, [], ◌++◌, length, take, drop, replicate}
use Rattle.std.proofs.Common.{arith, sym, ap, ◌∙◌, subst, take_at, drop_at}
use mathlib.Core.List.Memᴰ
use Rattle.std.proofs.Math.Seq.{drop-length}
use Rattle.sets.specs.RangeLaws.{Mem}
use Rattle.sets.specs.Set.{size, full}
use Rattle.judging.specs.Request.{Request, recorded}
use Rattle.judging.specs.Refusal.{refused, answered, first_cause, vertex_cause, slack_cause, floor_cause, row_cause, edge_cause, graph_causes, set_cause}
use Rattle.judging.specs.Calls.{passed, number_check, request_check}
use Rattle.lists.specs.Listing.{listing, Listed}
use Rattle.sets.specs.KeepLaws.{Rising}
use Rattle.lists.specs.ListingLaws.{listing_rising, listing_sound, listing_complete, floor_above}
use Rattle.search.specs.Calls.{list_reply, slots_after}
use Rattle.search.specs.RoomLaws.{lacks, room_accepted, room_value, room_enough, six_accepted, six_value, six_room}
use Rattle.search.specs.CallLaws.{reply_fits, slots_fits, slots_short}

module _ (g : List ℕ) (ask : Request) where
  -- ---- m is answered

  module _ (room : ℕ) {m : ℕ} (e : list_reply g ask room ≡ answered m tt) where
    pub list_accepted : first_cause (request_check g ask) passed ≡ passed
    unfolding list_reply
    list_accepted = room_accepted (request_check g ask) _ room e

    pub list_count : m ≡ length (listing g ask)
    unfolding list_reply
    list_count = room_value (request_check g ask) _ room e

    pub list_room : m ≤ room
    unfolding list_reply
    list_room = room_enough (request_check g ask) (length (listing g ask)) room e

  -- the first m slots hold the list, and the others keep what they held
  module _ (slots : List ℕ) {m : ℕ} (e : list_reply g ask (length slots) ≡ answered m tt) where
    pub slots_list : slots_after g ask slots ≡ listing g ask ++ drop m slots
    slots_list =
        let room = length slots in
        let n = list_count room e in
        slots_fits g ask (list_accepted room e) slots (omega (arith, n, list_room room e)) ∙ ap (λ (x : ℕ). listing g ask ++ drop x slots) (sym n)

    pub slots_first : take m (slots_after g ask slots) ≡ listing g ask
    slots_first = ap (take m) slots_list ∙ take_at (listing g ask) (drop m slots) m (sym (list_count (length slots) e))

    pub slots_others : drop m (slots_after g ask slots) ≡ drop m slots
    slots_others = ap (drop m) slots_list ∙ drop_at (listing g ask) (drop m slots) m (sym (list_count (length slots) e))

    -- each maximal k-plex of at least q members is in one of the first m slots, nothing else is, and they rise
    pub slots_sound : (s : ℕ) → Mem s (take m (slots_after g ask slots)) → Listed g ask s
    slots_sound s h = listing_sound g ask s (subst (Mem s) slots_first h)

    pub slots_complete : (s : ℕ) → Listed g ask s → Mem s (take m (slots_after g ask slots))
    slots_complete s h = subst (Mem s) (sym slots_first) (listing_complete g ask s h)

    pub slots_rising : Rising 0 (take m (slots_after g ask slots))
    slots_rising = subst (Rising 0) (sym slots_first) (listing_rising g ask)

  -- ---- number 6, which none of the request's causes has

  pub request-lacks_six : T (lacks 6 (request_check g ask))
  unfolding request_check number_check set_cause graph_causes vertex_cause slack_cause floor_cause row_cause edge_cause lacks
  request-lacks_six = tt

  module _ (slots : List ℕ) {m : ℕ} (e : list_reply g ask (length slots) ≡ refused 6 m) where
    pub short_accepted : first_cause (request_check g ask) passed ≡ passed
    unfolding list_reply
    short_accepted = six_accepted (request_check g ask) _ (length slots) request-lacks_six e

    pub short_count : m ≡ length (listing g ask)
    unfolding list_reply
    short_count = six_value (request_check g ask) _ (length slots) request-lacks_six e

    pub short_room : length slots < m
    unfolding list_reply
    short_room = six_room (request_check g ask) (length (listing g ask)) (length slots) request-lacks_six e

    pub short_slots : slots_after g ask slots ≡ replicate (length slots) 0
    short_slots = slots_short g ask short_accepted slots (omega (arith, short_count, short_room))

  -- ---- m is 0: any number of slots is accepted, none included, and they are left

  module _ (e : first_cause (request_check g ask) passed ≡ passed) (none : listing g ask ≡ []) where
    zero : length (listing g ask) ≡ 0
    zero = ap length none

    pub none_reply : (room : ℕ) → list_reply g ask room ≡ answered 0 tt
    none_reply room = reply_fits g ask e room (omega (arith, zero)) ∙ ap (λ (n : ℕ). answered n tt) zero

    pub none_slots : (slots : List ℕ) → slots_after g ask slots ≡ slots
    none_slots slots = slots_fits g ask e slots (omega (arith, zero)) ∙ ap (λ (l : List ℕ). l ++ drop (length l) slots) none

  module _ (room : ℕ) (e : list_reply g ask room ≡ answered 0 tt) where
    pub zero_none : listing g ask ≡ []
    zero_none = ap (λ (n : ℕ). drop n (listing g ask)) (list_count room e) ∙ drop-length (listing g ask)

    pub zero_unlisted : (s : ℕ) → Listed g ask s → ⊥
    zero_unlisted s h = Memᴰ.not-nil (subst (Mem s) zero_none (listing_complete g ask s h))

    pub zero_reply : (other : ℕ) → list_reply g ask other ≡ answered 0 tt
    zero_reply = none_reply (list_accepted room e) zero_none

    pub zero_slots : (slots : List ℕ) → slots_after g ask slots ≡ slots
    zero_slots = none_slots (list_accepted room e) zero_none

  -- so it is where the floor is above the number of vertices that are not silent
  module _ (e : first_cause (request_check g ask) passed ≡ passed) (l : size (recorded ask (full (length g))) < ask.floor) where
    pub floor_above_reply : (room : ℕ) → list_reply g ask room ≡ answered 0 tt
    floor_above_reply = none_reply e (floor_above g ask l)

    pub floor_above_slots : (slots : List ℕ) → slots_after g ask slots ≡ slots
    floor_above_slots = none_slots e (floor_above g ask l)
