-- Laws of masks and of lent words that hold sets, at any number of words per set: how many sets, their parts, blank words. No word of a set is looked at.
use Rattle.std.specs.Prelude.{ℕ, ◌+◌, ◌-◌, ◌*◌, ◌/◌, ◌^◌, ◌≤◌, ◌<◌, ◌≡◌, refl, Bool, true, false, not, cond, List, ◌++◌, ltb, drop}
use Rattle.std.proofs.Common.{le_of_eq, sym, ◌∙◌, append-nil, lt-ltb, le-ltb, pow_pos, length-append, drop_of_length-le, take_all, take_at, length-take-le}
use native.Mathlib.Omega.{arith}
use Rattle.std.proofs.Math.Decide.{dec_lt}
use Rattle.std.proofs.Math.Path.{ap, ap₂}
use Rattle.std.proofs.Math.ListN.{length, take, length-take, length-drop}
use Rattle.std.proofs.lemmas.List.{length-replicate}
use Rattle.sets.specs.Set.{minus, without, full}
use Rattle.sets.specs.SubsetLaws.{minus_none}
use Rattle.sets.specs.declared.Set.{Set}
use Rattle.sets.specs.Words.{per_set, mask, groups, masks}
use Rattle.sets.specs.Words.Groups.{length-groups, append-groups, take-groups, drop-groups}
use Rattle.sets.specs.Words.Groups.{blank, blank-groups, padded, padded-length, padded-groups}

-- ---- answers

pub without_if_mask : (s v : ℕ) (b : Bool) → minus s (cond b (2 ^ v) 0) ≡ cond b (without s v) s
without_if_mask s v true = refl
without_if_mask s v false = minus_none s

-- no mask above that of the vertices below n is below 2 ^ n
pub below_mask : (s f : Set) (n : ℕ) (r : Bool) → mask f ≡ full n → r ≡ ltb (mask f) (mask s) → not r ≡ ltb (mask s) (2 ^ n)
below_mask s f n r e q = ap not (q ∙ ap (λ (x : ℕ). ltb x (mask s)) e) ∙ go (dec_lt (full n) (mask s))
  where
    go : Dec (full n < mask s) → not (ltb (full n) (mask s)) ≡ ltb (mask s) (2 ^ n)
    go (yes l) = ap not (lt-ltb (full n) (mask s) l) ∙ sym (le-ltb (mask s) (2 ^ n) (omega arith))
    go (no nl) = ap not (le-ltb (full n) (mask s) (omega arith)) ∙ sym (lt-ltb (mask s) (2 ^ n) (omega (arith, pow_pos n)))

-- ---- how many sets

pub count_masks : (ws : List ℕ) → length ws / per_set ≡ length (masks ws)
unfolding masks
count_masks ws = sym (length-groups per_set (length ws / per_set) ws)

-- ---- m sets in front of words

pub append_masks : (m : ℕ) (vs ws : List ℕ) → length vs ≡ m * per_set → masks (vs ++ ws) ≡ masks vs ++ masks ws
unfolding masks
append_masks m vs ws e =
    let a : length (vs ++ ws) / per_set ≡ m + length ws / per_set = omega (arith, e, length-append vs ws) in
    let b : m ≡ length vs / per_set = omega (arith, e) in
    ap (λ (k : ℕ). groups per_set k (vs ++ ws)) a ∙ append-groups per_set m (length ws / per_set) vs ws e
    ∙ ap (λ (k : ℕ). groups per_set k vs ++ groups per_set (length ws / per_set) ws) b

-- ---- a part of lent words, up to position n or from it on, and the words when it comes back; the position starts at the word `end`

pub offset_fits : (n end : ℕ) (ws : List ℕ) → end ≡ n * per_set → n ≤ length (masks ws) → end ≤ length ws
offset_fits n end ws e l = omega (arith, e, l, count_masks ws)

module _ (ws : List ℕ) (n end : ℕ) (e : end ≡ n * per_set) where
  pub lent_before : n ≤ length (masks ws) → masks (take end ws) ≡ take n (masks ws)
  unfolding masks
  lent_before l =
      let k : n ≤ length ws / per_set = omega (arith, length-groups per_set (length ws / per_set) ws) in
      let c : n + (length ws / per_set - n) ≡ length ws / per_set = omega arith in
      let m : length (take end ws) / per_set ≡ n = omega (arith, e, length-take end ws) in
      ap₂ (λ (i j : ℕ). groups per_set i (take j ws)) m e
      ∙ take-groups per_set n (length ws / per_set - n) ws (omega arith) ∙ ap (λ (i : ℕ). take n (groups per_set i ws)) c

  pub lent_length : n ≤ length (masks ws) → length (masks (take end ws)) ≡ n
  lent_length l = ap length (lent_before l) ∙ length-take-le n (masks ws) l

  drop_masks : masks (drop end ws) ≡ drop n (masks ws)
  unfolding masks
  drop_masks =
      let m : length (drop end ws) / per_set ≡ length ws / per_set - n = omega (arith, e, length-drop end ws) in
      ap₂ (λ (i j : ℕ). groups per_set i (drop j ws)) m e ∙ drop-groups per_set n (length ws / per_set) ws

  pub lent_from : masks (take (length ws - end) (drop end ws)) ≡ drop n (masks ws)
  lent_from = ap masks (take_all (length ws - end) (drop end ws) (le_of_eq (length-drop end ws))) ∙ drop_masks

  pub back_before : (part : List ℕ) → length part ≡ end → masks (part ++ drop end ws) ≡ masks part ++ drop n (masks ws)
  back_before part h = append_masks n part (drop end ws) (h ∙ e) ∙ ap (λ (t : List ℕ). masks part ++ t) drop_masks

  pub back_from : (part : List ℕ) → n ≤ length (masks ws)
      → masks (take end ws ++ (part ++ drop (length ws - end) (drop end ws))) ≡ take n (masks ws) ++ masks part
  back_from part l =
      let none = drop_of_length-le (drop end ws) {i = length ws - end} (le_of_eq (length-drop end ws)) in
      ap (λ (t : List ℕ). masks (take end ws ++ t)) (ap (λ (t : List ℕ). part ++ t) none ∙ append-nil part)
      ∙ append_masks n (take end ws) part (length-take-le end ws (offset_fits n end ws e l) ∙ e)
      ∙ ap (λ (t : List ℕ). t ++ masks part) (lent_before l)

-- words that came back stand in front of the others
module _ (xs ys : List ℕ) {end : ℕ} (e : length xs ≡ end) where
  pub front_fits : end ≤ length (xs ++ ys)
  front_fits = omega (arith, length-append xs ys)

  pub front_part : take end (xs ++ ys) ≡ xs
  front_part = take_at xs ys end e

  pub front_length : end ≡ length (take end (xs ++ ys))
  front_length = sym (ap length front_part ∙ e)

-- ---- blank words, and numbers as sets

pub blank_masks : (n : ℕ) → masks (blank (n * per_set)) ≡ blank n
unfolding masks
blank_masks n =
    let e : length (blank (n * per_set)) / per_set ≡ n = omega (arith, length-replicate {A = ℕ} (n * per_set) 0) in
    ap (λ (m : ℕ). groups per_set m (blank (n * per_set))) e ∙ blank-groups per_set n

-- numbers of one word each, stored as sets
pub padded_masks : (xs : List ℕ) → masks (padded (per_set - 1) xs) ≡ xs
unfolding masks
padded_masks xs =
    let e : length (padded (per_set - 1) xs) / per_set ≡ length xs = omega (arith, padded-length (per_set - 1) xs) in
    ap (λ (m : ℕ). groups per_set m (padded (per_set - 1) xs)) e ∙ padded-groups (per_set - 1) xs
