-- What the answer of the call that changes a book means. An accepted change leaves the changed graph in the rows and its list in the slots; a refused one,
-- number 6 too, leaves both. A set that holds neither vertex is listed before and after, or neither time; a change and the change back give the first list.
use Rattle.std.specs.Prelude.{ℕ, ◌+◌, ◌≤◌, ◌<◌, ◌≡◌, List, ◌++◌, T, length, take, drop}
use Rattle.std.proofs.Math.Path.{refl}
use Rattle.std.proofs.Common.{sym, ap, ◌∙◌, subst, take_at, drop_at}
use Rattle.sets.specs.Set.{bit}
use Rattle.sets.specs.KeepLaws.{Rising}
use Rattle.sets.specs.RangeLaws.{Mem}
use Rattle.judging.specs.Graph.{Valid}
use Rattle.judging.specs.Plex.{plex}
use Rattle.judging.specs.Request.{Request}
use Rattle.judging.specs.Refusal.{refused, answered, first_cause}
use Rattle.judging.specs.Refusal.{vertex_out_cause}
use Rattle.judging.specs.Calls.{passed, request_check}
use Rattle.lists.specs.Listing.{listing, Listed}
use Rattle.lists.specs.ListingLaws.{listing_rising, listing_sound, listing_complete}
use Rattle.search.specs.OutcomeLaws.{request-lacks_six}
use Rattle.search.specs.RoomLaws.{lacks, lacks-append, room_accepted, room_value, room_enough, six_accepted, six_value, six_room}
use Rattle.books.specs.Book.{Change, changed_graph, opened, changed}
use Rattle.books.specs.Calls.{loop_cause, unchanged_cause, pair_causes, change_check, change_reply, rows_changed, slots_changed, Changeable}
use Rattle.books.specs.EdgeLaws.{alike_sym, alike_same, alike_listed, changed_alike, changed_valid, back, change_back}
use Rattle.books.specs.CallLaws.{change_accepted, change_changeable, change_new}

module _ (g : List ℕ) (ask : Request) (c : Change) where
  abbrev h : List ℕ
  h = changed_graph g c

  -- ---- m is answered

  module _ (slots : List ℕ) {m : ℕ} (e : change_reply g ask c (length slots) ≡ answered m tt) where
    accepted : first_cause (change_check g ask c) passed ≡ passed
    unfolding change_reply
    accepted = room_accepted (change_check g ask c) (length (listing h ask)) (length slots) e

    able : Changeable g c
    able = change_changeable g ask c accepted

    pub answer_count : m ≡ length (listing h ask)
    unfolding change_reply
    answer_count = room_value (change_check g ask c) (length (listing h ask)) (length slots) e

    pub answer_room : m ≤ length slots
    unfolding change_reply
    answer_room = room_enough (change_check g ask c) (length (listing h ask)) (length slots) e

    -- the rows are those of the changed graph, which is valid
    pub answer_rows : rows_changed g ask c (length slots) ≡ h
    unfolding rows_changed
    answer_rows = rw e refl

    pub answer_valid : Valid h
    answer_valid = changed_valid able (change_accepted g ask c accepted).valid

    -- the first m slots hold its list, and the others keep what they held
    slots_list : slots_changed g ask c slots ≡ listing h ask ++ drop m slots
    unfolding slots_changed
    slots_list = rw (e, answer_count) refl

    pub answer_list : take m (slots_changed g ask c slots) ≡ listing h ask
    answer_list = ap (take m) slots_list ∙ take_at (listing h ask) (drop m slots) m (sym answer_count)

    pub answer_others : drop m (slots_changed g ask c slots) ≡ drop m slots
    answer_others = ap (drop m) slots_list ∙ drop_at (listing h ask) (drop m slots) m (sym answer_count)

    pub answer_sound : (s : ℕ) → Mem s (take m (slots_changed g ask c slots)) → Listed h ask s
    answer_sound s i = listing_sound h ask s (subst (Mem s) answer_list i)

    pub answer_complete : (s : ℕ) → Listed h ask s → Mem s (take m (slots_changed g ask c slots))
    answer_complete s l = subst (Mem s) (sym answer_list) (listing_complete h ask s l)

    pub answer_rising : Rising 0 (take m (slots_changed g ask c slots))
    answer_rising = subst (Rising 0) (sym answer_list) (listing_rising h ask)

    -- a set that does not hold both vertices is a k-plex in both graphs or in neither
    pub answer-plex : (k s : ℕ) → bit s c.one + bit s c.other ≤ 1 → plex h k s ≡ plex g k s
    answer-plex k s few = alike_same (changed_alike able) k s few

    -- a set that holds neither vertex is in both lists or in neither
    module _ (s : ℕ) (p : bit s c.one ≡ 0) (q : bit s c.other ≡ 0) where
      pub neither_stays : Mem s (listing g ask) → Mem s (listing h ask)
      neither_stays = alike_listed (changed_alike able) able.apart ask s p q

      pub neither_was : Mem s (listing h ask) → Mem s (listing g ask)
      neither_was = alike_listed (alike_sym (changed_alike able)) able.apart ask s p q

    -- the change back gives the first graph, and so the first book with its list
    pub back_graph : changed_graph h (back c) ≡ g
    back_graph = change_back (change_accepted g ask c accepted).valid able (change_new g ask c accepted)

    pub back_book : changed (changed (opened g ask) c) (back c) ≡ opened g ask
    back_book = ap (λ (x : List ℕ). opened x ask) back_graph

  -- ---- a refusal

  module _ (slots : List ℕ) {n v : ℕ} (e : change_reply g ask c (length slots) ≡ refused n v) where
    pub refused_rows : rows_changed g ask c (length slots) ≡ g
    unfolding rows_changed
    refused_rows = rw e refl

    pub refused_slots : slots_changed g ask c slots ≡ slots
    unfolding slots_changed
    refused_slots = rw e refl

  -- number 6 comes from a change that passed its checks, and gives the exact length of the new list
  pair_lacks_six : T (lacks 6 (pair_causes g c))
  unfolding pair_causes loop_cause unchanged_cause vertex_out_cause lacks
  pair_lacks_six = tt

  no_six : T (lacks 6 (change_check g ask c))
  unfolding change_check
  no_six = lacks-append 6 (request_check g ask) (pair_causes g c) (request-lacks_six g ask) pair_lacks_six

  module _ (room : ℕ) {m : ℕ} (e : change_reply g ask c room ≡ refused 6 m) where
    pub six_passed : first_cause (change_check g ask c) passed ≡ passed
    unfolding change_reply
    six_passed = six_accepted (change_check g ask c) (length (listing h ask)) room no_six e

    pub six_count : m ≡ length (listing h ask)
    unfolding change_reply
    six_count = six_value (change_check g ask c) (length (listing h ask)) room no_six e

    pub six_few : room < m
    unfolding change_reply
    six_few = six_room (change_check g ask c) (length (listing h ask)) room no_six e

-- the first list stands in the slots once the change back is answered too, whatever they held
pub back_slots : (g : List ℕ) (ask : Request) (c : Change) (slots later : List ℕ) {m n : ℕ} → change_reply g ask c (length slots) ≡ answered m tt
    → change_reply (changed_graph g c) ask (back c) (length later) ≡ answered n tt
    → take n (slots_changed (changed_graph g c) ask (back c) later) ≡ listing g ask
back_slots g ask c slots later e f =
    answer_list (changed_graph g c) ask (back c) later f ∙ ap (λ (x : List ℕ). listing x ask) (back_graph g ask c slots e)
