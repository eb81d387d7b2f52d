-- Laws of lent words that hold a number in each group of w words: reading, storing, parts, blank words. They hold for any w.
use Prim.Native.Nat.{ℕ, zero, suc, ◌+◌, ◌-◌, ◌*◌, ◌^◌, ◌≤◌, ◌<◌}
use native.Mathlib.Omega.{arith}
use Rattle.std.specs.Prelude.{◌≡◌, get_or, take, drop, set, replicate}
use Rattle.std.proofs.Math.Path.{refl, ap}
use Rattle.std.proofs.Common.{sym, ap₂, ◌∙◌, length-append, take-append-drop, drop-cons, take_at, drop_at, length-take-le}
use mathlib.Core.List.{List, [], ◌∷◌, ◌++◌, append_assoc}
use Rattle.std.proofs.Math.ListN.{length, length-drop}
use Rattle.std.proofs.lemmas.List.{length-replicate, replicate-append-replicate, set_at}
use Rattle.std.proofs.lemmas.List.Edits.{sets, sets-eq}
use Rattle.std.proofs.Math.Seq.{drop-drop, take-append-le, drop-append-le}
use Rattle.sets.specs.Words.{word_bits, number, groups}
use Rattle.sets.specs.Words.Numbers.{Zeros, zeros_number}

module _ (w : ℕ) where
  pub length-groups : (c : ℕ) (ws : List ℕ) → length (groups w c ws) ≡ c
  unfolding groups
  length-groups zero ws = refl
  length-groups (suc c) ws = ap suc (length-groups c (drop w ws))

  pub get_groups : (c i : ℕ) (ws : List ℕ) → i < c → get_or (groups w c ws) i 0 ≡ number (take w (drop (i * w) ws))
  unfolding groups
  get_groups zero i ws l = absurd (omega arith)
  get_groups (suc c) zero ws l = let e : 0 * w ≡ 0 = omega arith in rw e
  get_groups (suc c) (suc i) ws l =
      let e : suc i * w ≡ w + i * w = omega arith in
      rw (e, ← drop-drop (i * w) w ws) (get_groups c i (drop w ws) (omega arith))

  -- ---- parts

  pub append-groups : (m c : ℕ) (vs ws : List ℕ) → length vs ≡ m * w → groups w (m + c) (vs ++ ws) ≡ groups w m vs ++ groups w c ws
  unfolding groups
  append-groups zero c [] ws e = let z : 0 + c ≡ c = omega arith in rw z
  append-groups zero c (x ∷ vs) ws e = absurd (omega (arith, e))
  append-groups (suc m) c vs ws e =
      let z : suc m + c ≡ suc (m + c) = omega arith in
      let l : w ≤ length vs = omega (arith, e) in
      let rest = append-groups m c (drop w vs) ws (omega (arith, e, length-drop w vs)) in
      rw (z, take-append-le w vs ws l, drop-append-le w vs ws l, rest)

  -- the groups before position n, and those from there on
  pub split_groups : (n c : ℕ) (ws : List ℕ) → n * w ≤ length ws
      → groups w (n + c) ws ≡ groups w n (take (n * w) ws) ++ groups w c (drop (n * w) ws)
  split_groups n c ws l =
      ap (groups w (n + c)) (sym (take-append-drop (n * w) ws))
      ∙ append-groups n c (take (n * w) ws) (drop (n * w) ws) (length-take-le (n * w) ws l)

  pub take-groups : (n c : ℕ) (ws : List ℕ) → n * w ≤ length ws → groups w n (take (n * w) ws) ≡ take n (groups w (n + c) ws)
  take-groups n c ws l = sym (ap (take n) (split_groups n c ws l) ∙ take_at _ _ n (length-groups n (take (n * w) ws)))

  pub drop-groups : (n c : ℕ) (ws : List ℕ) → groups w (c - n) (drop (n * w) ws) ≡ drop n (groups w c ws)
  unfolding groups
  drop-groups zero c ws =
      let z : 0 * w ≡ 0 = omega arith in
      let y : c - 0 ≡ c = omega arith in
      rw (y, z)
  drop-groups (suc n) zero ws = let y : 0 - suc n ≡ 0 = omega arith in rw y
  drop-groups (suc n) (suc c) ws =
      let z : suc n * w ≡ w + n * w = omega arith in
      let y : suc c - suc n ≡ c - n = omega arith in
      rw (y, z, ← drop-drop (n * w) w ws) (drop-groups n c (drop w ws))

-- ---- a group read word by word, and stored word by word

unfoldable pub reads : ℕ → List ℕ → ℕ → List ℕ
reads zero ws k = []
reads (suc w) ws k = get_or ws k 0 ∷ reads w ws (suc k)

pub take-reads : (w : ℕ) (ws : List ℕ) (k : ℕ) → k + w ≤ length ws → take w (drop k ws) ≡ reads w ws k
unfolding reads
take-reads zero ws k l = refl
take-reads (suc w) ws k l = rw (drop-cons ws k 0 (omega arith), take-reads w ws (suc k) (omega arith))

pub put_groups : (w i c : ℕ) (ws xs : List ℕ) → length xs ≡ w → (i + suc c) * w ≤ length ws
    → groups w (i + suc c) (sets ws (i * w) xs) ≡ set (groups w (i + suc c) ws) i (number xs)
unfolding groups
put_groups w i c ws xs e l =
    let d = drop (i * w + length xs) ws in
    let same : i * w + length xs ≡ i * w + w = omega (arith, e) in
    ap (groups w (i + suc c)) (sets-eq xs ws (i * w) (omega (arith, e)))
    ∙ ap (groups w (i + suc c)) (append_assoc (take (i * w) ws) xs d)
    ∙ append-groups w i (suc c) (take (i * w) ws) (xs ++ d) (length-take-le (i * w) ws (omega arith))
    ∙ ap (λ (t : List ℕ). groups w i (take (i * w) ws) ++ t)
    (ap₂ (λ (s t : List ℕ). number s ∷ groups w c t) (take_at xs d w e) (drop_at xs d w e ∙ ap (λ (m : ℕ). drop m ws) same ∙ sym (drop-drop w (i * w) ws)))
    ∙ sym (ap (λ (t : List ℕ). set t i (number xs)) (split_groups w i (suc c) ws (omega arith))
    ∙ set_at (groups w i (take (i * w) ws)) _ _ (number xs) i (length-groups w i (take (i * w) ws)))

-- ---- blank words

abbrev pub blank : ℕ → List ℕ
blank n = replicate n 0

blank_zeros : (w : ℕ) → Zeros (blank w)
blank_zeros zero = tt
blank_zeros (suc w) = (refl, blank_zeros w)

pub blank-groups : (w n : ℕ) → groups w n (blank (n * w)) ≡ blank n
unfolding groups
blank-groups w zero = refl
blank-groups w (suc n) =
    let z : suc n * w ≡ w + n * w = omega arith in
    let e : length (blank w) ≡ w = length-replicate w 0 in
    rw (z, ← replicate-append-replicate {A = ℕ} w (n * w) 0, take_at (blank w) (blank (n * w)) w e, drop_at (blank w) (blank (n * w)) w e)
    (ap₂ ◌∷◌ (zeros_number (blank w) (blank_zeros w)) (blank-groups w n))

-- ---- numbers of one word each, kept in groups of more words: none is lost or changed

-- each word with w blank words behind it
unfoldable pub padded : ℕ → List ℕ → List ℕ
padded w [] = []
padded w (x ∷ xs) = x ∷ (blank w ++ padded w xs)

pub padded-length : (w : ℕ) (xs : List ℕ) → length (padded w xs) ≡ length xs * suc w
unfolding padded
padded-length w [] = omega arith
padded-length w (x ∷ xs) =
    omega (arith, length-append (blank w) (padded w xs), length-replicate {A = ℕ} w 0, padded-length w xs)

pub padded-groups : (w : ℕ) (xs : List ℕ) → groups (suc w) (length xs) (padded w xs) ≡ xs
unfolding groups number padded
padded-groups w [] = refl
padded-groups w (x ∷ xs) =
    let e : length (blank w) ≡ w = length-replicate w 0 in
    ap₂ (λ (s t : List ℕ). number (x ∷ s) ∷ groups (suc w) (length xs) t) (take_at (blank w) (padded w xs) w e) (drop_at (blank w) (padded w xs) w e)
    ∙ ap₂ (λ (n : ℕ) (t : List ℕ). (n * 2 ^ word_bits + x) ∷ t) (zeros_number (blank w) (blank_zeros w)) (padded-groups w xs)
    ∙ ap (λ (n : ℕ). n ∷ xs) (omega arith)
