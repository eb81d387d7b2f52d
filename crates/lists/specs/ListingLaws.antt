-- Laws of the list: what stands in it, that it rises, that nothing else is such a list, and how long it can be.
use Rattle.std.specs.Prelude.{ℕ, ◌^◌, ◌≤◌, ◌<◌, ◌≡◌, refl, Bool, ◌&&◌, List, [], ◌++◌, T, take, drop}
use Rattle.std.proofs.Common.{lt_of_lt_of_le, ap₂, ◌∙◌, le→leb, pow_pos, pow_mono}
use native.Mathlib.Omega.{arith}
use Rattle.std.proofs.Math.Path.{sym, ap}
use Rattle.std.proofs.Math.Dec.{leb, leb→le}
use Rattle.std.proofs.lemmas.Nat.{ones-le}
use Rattle.std.specs.Int.Count.{ones-ones}
use Rattle.std.proofs.Math.ListN.{length}
use Rattle.sets.specs.Ranges.{range, keep}
use Rattle.sets.specs.Set.{size, minus, full}
use Rattle.sets.specs.BitLaws.{bit-minus}
use Rattle.sets.specs.SizeLaws.{size_mono}
use Rattle.sets.specs.SubsetLaws.{minus_none, minus-sub}
use Rattle.sets.specs.WordLaws.{sub-full}
use Rattle.sets.specs.RangeLaws.{Mem, mem_range, range_mem, keep_mem, mem_keep, and_left, and_right, both, test_same}
use Rattle.judging.specs.Request.{Request, request, recorded}
use Rattle.judging.specs.Plex.{maximal}
use Rattle.judging.proofs.TestLaws.{maximal_holds, maximal_test}
use Rattle.lists.specs.Order.{Shuffled, Sorts}
use Rattle.lists.specs.OrderLaws.{rising_ordered, ordered_unique, rising_unique}
use Rattle.lists.specs.Placing.{number, most_count, Adds}
use Rattle.lists.specs.Listing.{listed, listing, Listed}
use Rattle.sets.specs.KeepLaws.{keep_ext, keep-keep, keep_none, Rising, keep_rising}
use Rattle.lists.specs.PlacingLaws.{number_fits, adds_all}

module _ (g : List ℕ) (ask : Request) where
  -- the test at the floor
  abbrev enough : ℕ → Bool
  enough s = leb ask.floor (size (recorded ask s))

  -- a listed plex has q members at least
  pub listed_size : {s : ℕ} → Listed g ask s → ask.floor ≤ size s
  listed_size {s} h = omega (arith, h.large, size_mono (recorded ask s) s (minus-sub s ask.silent))

  -- the statement behind the test
  pub listed_holds : (s : ℕ) → s < 2 ^ length g → T (listed g ask s) → Listed g ask s
  unfolding listed
  listed_holds s l t = record {
    below = l;
    large = leb→le ask.floor (size (recorded ask s)) (and_left (enough s) (maximal g ask.slack s) t);
    top = maximal_holds g ask.slack s (and_right (enough s) (maximal g ask.slack s) t);
  }

  pub listed_test : (s : ℕ) → Listed g ask s → T (listed g ask s)
  unfolding listed
  listed_test s h =
      both (enough s) (maximal g ask.slack s) (le→leb ask.floor (size (recorded ask s)) h.large) (maximal_test g ask.slack s h.top)

  -- the empty set is no plex of one vertex or more
  pub empty_unlisted : 1 ≤ ask.floor → T (listed g ask 0) → ⊥
  empty_unlisted l t = omega (arith, listed_size (listed_holds 0 (pow_pos (length g)) t), ones-le 0 0 (pow_pos 0))

  pub listing_rising : Rising 0 (listing g ask)
  unfolding listing range
  listing_rising = keep_rising (listed g ask) 0 (2 ^ length g)

  pub listing_sound : (s : ℕ) → Mem s (listing g ask) → Listed g ask s
  unfolding listing
  listing_sound s m =
      let z = keep_mem (listed g ask) (range (2 ^ length g)) s m in
      listed_holds s (range_mem (2 ^ length g) s z.0) z.1

  pub listing_complete : (s : ℕ) → Listed g ask s → Mem s (listing g ask)
  unfolding listing
  listing_complete s h = mem_keep (listed g ask) (range (2 ^ length g)) s (mem_range (2 ^ length g) s h.below) (listed_test s h)

  -- whatever rises and holds just the maximal plexes of at least q vertices is the list
  pub listing_unique : (xs : List ℕ) → Rising 0 xs
      → ((s : ℕ) → Mem s xs → Listed g ask s) → ((s : ℕ) → Listed g ask s → Mem s xs) → xs ≡ listing g ask
  listing_unique xs r f h =
      rising_unique 0 0 xs (listing g ask) r listing_rising (λ s m. listing_complete s (f s m)) (λ s m. h s (listing_sound s m))

  -- a floor above the number of vertices that are not silent gives m = 0
  pub floor_above : size (recorded ask (full (length g))) < ask.floor → listing g ask ≡ []
  unfolding listing
  floor_above l = keep_none (listed g ask) (range (2 ^ length g)) (λ s m t. few s (listed_holds s (range_mem (2 ^ length g) s m) t))
    where
      few : (s : ℕ) → Listed g ask s → ⊥
      few s h = omega (
        arith,
        l,
        h.large,
        size_mono (recorded ask s) (recorded ask (full (length g))) (λ v.
            omega (arith, bit-minus s ask.silent v, bit-minus (full (length g)) ask.silent v, sub-full (length g) s h.below v)),
      )

  -- document 01: and so does one above n
  pub floor_above_all : length g < ask.floor → listing g ask ≡ []
  floor_above_all l =
      let all = full (length g) in
      floor_above (omega (arith, l, size_mono (recorded ask all) all (minus-sub all ask.silent), ones-ones (length g)))

  -- the empty set is not listed: so m fits a word of as many bits as there are vertices
  pub listing_fits : 1 ≤ ask.floor → length (listing g ask) < 2 ^ length g
  unfolding listing
  listing_fits l = number_fits (2 ^ length g) (listed g ask) (pow_pos (length g)) (empty_unlisted l)

  -- ---- the list and placing

  -- so the count of at most 64 vertices never stops short
  pub listing_counts : 1 ≤ ask.floor → length g ≤ 64 → length (listing g ask) ≤ most_count
  listing_counts l n = omega (arith, lt_of_lt_of_le (listing_fits l) (pow_mono {i = length g} {j = 64} n))

  -- what the slots hold when all that is listed is added to none: m is the list's length, and while it fits, the list shuffled and then what was there
  pub listing-placed : (first after : List ℕ) (m : ℕ) → length (listing g ask) ≤ most_count → Adds (2 ^ length g) (listed g ask) first 0 after m
      → (m ≡ length (listing g ask)) × (m ≤ length first → Shuffled (take m after) (listing g ask) × (drop m after ≡ drop m first))
  unfolding listing
  listing-placed first after m f s =
      let h = adds_all (2 ^ length g) (listed g ask) first after m s in
      let exact : m ≡ number (2 ^ length g) (listed g ask) = omega (arith, h.counted) in
      rw exact (refl, h.kept)

  -- so those slots, put in order, are the list
  pub listing_sorted : (first after part : List ℕ) (m : ℕ) → length (listing g ask) ≤ most_count → Adds (2 ^ length g) (listed g ask) first 0 after m
      → m ≤ length first → Sorts (take m after) part → part ++ drop m after ≡ listing g ask ++ drop m first
  listing_sorted first after part m f s l h =
      let p = (listing-placed first after m f s).1 l in
      ap₂ (λ (t u : List ℕ). t ++ u)
      (ordered_unique part (listing g ask) h.ordered (rising_ordered 0 (listing g ask) listing_rising) (λ z. h.same z ∙ p.0 z)) p.1

-- ---- silent vertices (document 02, card 6)

module _ (g : List ℕ) (k q : ℕ) where
  -- with none of them the list is every maximal k-plex of at least q members
  pub silent_none : listing g (request k q 0) ≡ keep (λ s. leb q (size s) && maximal g k s) (range (2 ^ length g))
  unfolding listing listed
  silent_none = keep_ext _ _ (range (2 ^ length g)) (λ s m. ap (λ (x : ℕ). leb q (size x) && maximal g k s) (minus_none s))

  -- with any it is what that list keeps by the test at the floor: a silent set only takes masks away
  module _ (z : ℕ) where
    with_all : Request
    with_all = request k q 0

    with_some : Request
    with_some = request k q z

    passes_both : (s : ℕ) → s < 2 ^ length g → listed g with_all s && enough g with_some s ≡ listed g with_some s
    unfolding with_all with_some
    passes_both s l =
        test_same (listed g with_all s && enough g with_some s) (listed g with_some s)
        (λ t. listed_test g with_some s (record {
          below = l;
          large = leb→le q (size (minus s z)) (and_right (listed g with_all s) (enough g with_some s) t);
          top = (listed_holds g with_all s l (and_left (listed g with_all s) (enough g with_some s) t)).top;
        }))
        (λ t. let h = listed_holds g with_some s l t in both (listed g with_all s) (enough g with_some s)
        (listed_test g with_all s (record { below = l; large = omega (arith, listed_size g with_some h, ap size (minus_none s)); top = h.top }))
        (le→leb q (size (minus s z)) h.large))

    pub silent_keeps : listing g (request k q z) ≡ keep (enough g (request k q z)) (listing g (request k q 0))
    unfolding listing with_all with_some
    silent_keeps =
        sym (keep-keep (listed g with_all) (enough g with_some) (range (2 ^ length g))
        ∙ keep_ext _ _ (range (2 ^ length g)) (λ s m. passes_both s (range_mem (2 ^ length g) s m)))
