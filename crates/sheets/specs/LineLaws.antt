-- Laws of lines: what is known of lines that were laid out, and of a line that is right; RightLaws of proofs/ goes on from there. The records say what the
-- loops over lines know at each turn.
use Prim.Native.Nat.{ℕ, zero, suc, ◌+◌, ◌-◌, ◌*◌, ◌≤◌, ◌<◌, suc-le-suc}
use Rattle.std.proofs.Math.Nat.{sub-zero, add-zero, add-sub_cancel_left}
use Rattle.std.proofs.Common.{add-suc, suc-add, le_of_eq, zero-add, le_refl, not-suc-le-zero, le_of_suc-le-suc, suc-mul, zero-mul, add_comm, le_of_lt}
use Rattle.std.proofs.Common.{add-one, ◌∙◌, subst, length-drop, drop_of_length-le, length-append, drop-cons, take_at, drop_at, length-take-le, drop-drop}
use Rattle.std.proofs.Common.{take-suc}
use native.Mathlib.Omega.{arith}
use Rattle.std.proofs.Math.Decide.{dec_lt}
use Rattle.std.specs.Prelude.{◌≡◌, refl, Bool, true, false, ◌&&◌, Option, Some, None, take}
use Rattle.std.proofs.Math.Path.{sym, ap, ap₂}
use Rattle.std.proofs.Math.Bool.{cond}
use mathlib.Core.List.{List, [], ◌∷◌, ◌++◌, append_assoc, append-nil}
use Rattle.std.proofs.Math.Dec.{T, eqb, eqb→eq, eqb_refl}
use borrow.Rule.Slice.PartMut.{same_len_mid}
use Rattle.std.proofs.Math.ListN.{length, get_or, drop, set, get_or-eq_default}
use Rattle.std.proofs.Math.Seq.{get_or_at, set_at, append_snoc, take-length}
use Rattle.sets.specs.Ranges.{all}
use Rattle.sets.specs.RangeLaws.{and_left, and_right, both, is_true, true_holds}
use Rattle.sheets.specs.Digits.{is_digit, digits, number}
use Rattle.sheets.specs.DigitLaws.{digits-length, all_digits}
use Rattle.sheets.specs.Lines.{newline, line, lines, is_line, field, right_lines, numbers}
use Rattle.sheets.specs.Sheet.{over}
use Rattle.sheets.specs.Setting.{ReadsNumber, ReadsLine}
use Rattle.sheets.specs.OverLaws.{over_both}

-- ---- one line

pub line_first : (bs t : List ℕ) → line bs ++ t ≡ bs ++ newline ∷ t
unfolding line
line_first bs t = append_assoc bs (newline ∷ []) t

pub line_length_lem : (bs : List ℕ) → length (line bs) ≡ suc (length bs)
unfolding line
line_length_lem bs = omega (arith, length-append bs (newline ∷ []))

-- what is read of a line that was laid out
module _ (w : ℕ) (bs t : List ℕ) (e : length bs ≡ w) where
  pub line-take : take w (line bs ++ t) ≡ bs
  line-take = ap (take w) (line_first bs t) ∙ take_at bs (newline ∷ t) w e

  pub line-drop : drop (suc w) (line bs ++ t) ≡ t
  line-drop = drop_at (line bs) t (suc w) (line_length_lem bs ∙ ap suc e)

  pub line_right : T (all is_digit bs) → is_line w (line bs ++ t) ≡ true
  unfolding is_line
  line_right d =
      sym (is_true (all is_digit (take w (line bs ++ t)) && eqb (get_or (line bs ++ t) w 0) newline)
      (both (all is_digit (take w (line bs ++ t))) (eqb (get_or (line bs ++ t) w 0) newline)
      (subst (λ (l : List ℕ). T (all is_digit l)) (sym line-take) d)
      (subst (λ (x : ℕ). T (eqb x newline)) (sym (ap (λ (l : List ℕ). get_or l w 0) (line_first bs t) ∙ get_or_at bs newline t 0 w e)) (eqb_refl newline))))

-- what is known of a line that is right
module _ (w : ℕ) (t : List ℕ) (r : T (is_line w t)) where
  pub right_digits : T (all is_digit (take w t))
  unfolding is_line
  right_digits = and_left (all is_digit (take w t)) (eqb (get_or t w 0) newline) r

  pub right_end : get_or t w 0 ≡ newline
  unfolding is_line
  right_end = eqb→eq (get_or t w 0) newline (and_right (all is_digit (take w t)) (eqb (get_or t w 0) newline) r)

  pub right_fits : w < length t
  right_fits = go (dec_lt w (length t))
    where
      go : Dec (w < length t) → w < length t
      go (yes l) = l
      go (no nl) = absurd (omega (arith, right_end, get_or-eq_default t 0 {n = w} (omega arith)))

-- ---- lines

pub lines-length : (w : ℕ) (xs : List ℕ) → length (lines w xs) ≡ length xs * suc w
unfolding lines
lines-length w [] = sym (zero-mul (suc w))
lines-length w (x ∷ xs) =
    length-append (line (digits w x)) (lines w xs)
    ∙ ap₂ ◌+◌ (line_length_lem (digits w x) ∙ ap suc (digits-length w x)) (lines-length w xs)
    ∙ add_comm (suc w) (length xs * suc w) ∙ sym (suc-mul (length xs) (suc w))

-- of m lines more than are laid out, the text behind them decides
pub lines_right : (w m : ℕ) (xs t : List ℕ) → right_lines w (length xs + m) (lines w xs ++ t) ≡ length xs + right_lines w m t
unfolding right_lines lines
lines_right w m [] t = simp zero-add
lines_right w m (x ∷ xs) t =
    let n = length xs + m in
    ap (λ (k : ℕ). right_lines w k (lines w (x ∷ xs) ++ t)) (suc-add (length xs) m)
    ∙ ap (λ (l : List ℕ). cond (is_line w l) (suc (right_lines w n (drop (suc w) l))) 0) (append_assoc (line (digits w x)) (lines w xs) t)
    ∙ ap₂ (λ (b : Bool) (l : List ℕ). cond b (suc (right_lines w n l)) 0)
    (line_right w (digits w x) (lines w xs ++ t) (digits-length w x) (all_digits w x)) (line-drop w (digits w x) (lines w xs ++ t) (digits-length w x))
    ∙ ap suc (lines_right w m xs t) ∙ sym (suc-add (length xs) (right_lines w m t))

-- behind one line and a more, or a lines and one more, stands what is behind a + 1 lines
pub line_then_lines : (w a : ℕ) (t : List ℕ) → drop (a * suc w) (drop (suc w) t) ≡ drop (suc a * suc w) t
line_then_lines w a t = drop-drop (a * suc w) (suc w) t ∙ ap (λ (m : ℕ). drop m t) (add_comm (suc w) (a * suc w) ∙ sym (suc-mul a (suc w)))

lines_then_line : (w a : ℕ) (t : List ℕ) → drop (suc w) (drop (a * suc w) t) ≡ drop (suc a * suc w) t
lines_then_line w a t = drop-drop (suc w) (a * suc w) t ∙ ap (λ (m : ℕ). drop m t) (sym (suc-mul a (suc w)))

-- the number in line a + 1, and in line a of what stands below the first
pub field_below : (w a : ℕ) (t : List ℕ) → field ((a + 1) * suc w) w t ≡ field (a * suc w) w (drop (suc w) t)
unfolding field
field_below w a t = rw (line_then_lines w a t, add-one a)

-- of n + 1 lines that are right the first is, and so are the others
pub right_split : (w n : ℕ) (t : List ℕ) → right_lines w (suc n) t ≡ suc n → T (is_line w t) × (right_lines w n (drop (suc w) t) ≡ n)
unfolding right_lines
right_split w n t e = go (is_line w t) refl e
  where
    go : (b : Bool) → is_line w t ≡ b → cond b (suc (right_lines w n (drop (suc w) t))) 0 ≡ suc n → T (is_line w t) × (right_lines w n (drop (suc w) t) ≡ n)
    go true r q = (true_holds (is_line w t) r, omega arith)
    go false r q = absurd (omega arith)

pub right_most : (w n : ℕ) (t : List ℕ) → right_lines w n t ≤ n
unfolding right_lines
right_most w zero t = le_refl 0
right_most w (suc n) t = go (is_line w t) (right_most w n (drop (suc w) t))
  where
    go : (b : Bool) → right_lines w n (drop (suc w) t) ≤ n → cond b (suc (right_lines w n (drop (suc w) t))) 0 ≤ suc n
    go true h = suc-le-suc h
    go false h = omega arith

-- the line at position a of n lines that are right
pub each_right : (w n a : ℕ) (t : List ℕ) → right_lines w n t ≡ n → a < n → T (is_line w (drop (a * suc w) t))
each_right w zero a t e l = absurd (not-suc-le-zero l)
each_right w (suc n) zero t e l = subst (λ (m : ℕ). T (is_line w (drop m t))) (sym (zero-mul (suc w))) (right_split w n t e).0
each_right w (suc n) (suc a) t e l =
    subst (λ (u : List ℕ). T (is_line w u)) (line_then_lines w a t)
    (each_right w n a (drop (suc w) t) (right_split w n t e).1 (le_of_suc-le-suc l))

numbers_next : (w a : ℕ) (t : List ℕ) → numbers w (suc a) t ≡ numbers w a t ++ (number (take w (drop (a * suc w) t)) ∷ [])
unfolding numbers
numbers_next w zero t = ap (λ (m : ℕ). number (take w (drop m t)) ∷ []) (sym (zero-mul (suc w)))
numbers_next w (suc a) t =
    ap (λ (l : List ℕ). number (take w t) ∷ l)
    (numbers_next w a (drop (suc w) t) ∙ ap (λ (u : List ℕ). numbers w a (drop (suc w) t) ++ (number (take w u) ∷ [])) (line_then_lines w a t))

pub numbers-length : (w n : ℕ) (t : List ℕ) → length (numbers w n t) ≡ n
unfolding numbers
numbers-length w zero t = refl
numbers-length w (suc n) t = ap suc (numbers-length w n (drop (suc w) t))

lines_next : (w x : ℕ) (xs : List ℕ) → lines w (xs ++ (x ∷ [])) ≡ lines w xs ++ line (digits w x)
unfolding lines
lines_next w x [] = append-nil (line (digits w x))
lines_next w x (y ∷ xs) =
    ap (λ (l : List ℕ). line (digits w y) ++ l) (lines_next w x xs) ∙ sym (append_assoc (line (digits w y)) (lines w xs) (line (digits w x)))

-- ---- lines tested one after the other: the first a of n are right

pub record Walking (w n : ℕ) (t : List ℕ) (a : ℕ) : Type 0 where
  pub upto : a ≤ n
  pub rest : right_lines w n t ≡ a + right_lines w (n - a) (drop (a * suc w) t)

pub walking_none : {w n : ℕ} {t : List ℕ} → Walking w n t 0
walking_none {w} {n} {t} =
    record {
      upto = omega arith;
      rest =
          ap₂ (λ (m i : ℕ). right_lines w m (drop i t)) (sym (sub-zero n)) (sym (zero-mul (suc w)))
          ∙ sym (zero-add (right_lines w (n - 0) (drop (0 * suc w) t)));
    }

module _ {w n : ℕ} {t : List ℕ} {a : ℕ} (h : Walking w n t a) where
  -- by what the next line is
  walking_by : (b : Bool) → a < n → is_line w (drop (a * suc w) t) ≡ b
      → right_lines w n t ≡ a + cond b (suc (right_lines w (n - suc a) (drop (suc a * suc w) t))) 0
  unfolding right_lines
  walking_by b l e =
      let s : n - a ≡ suc (n - suc a) = omega arith in
      h.rest ∙ ap (λ (m : ℕ). a + right_lines w m (drop (a * suc w) t)) s
      ∙ ap₂ (λ (x : Bool) (u : List ℕ). a + cond x (suc (right_lines w (n - suc a) u)) 0) e (lines_then_line w a t)

  pub walking_more : a < n → is_line w (drop (a * suc w) t) ≡ true → Walking w n t (a + 1)
  walking_more l e =
      let left = right_lines w (n - suc a) (drop (suc a * suc w) t) in
      record {
        upto = omega arith;
        rest =
            walking_by true l e ∙ add-suc a left ∙ sym (suc-add a left)
            ∙ ap (λ (m : ℕ). m + right_lines w (n - m) (drop (m * suc w) t)) (sym (add-one a));
      }

  pub walking_stop : a < n → is_line w (drop (a * suc w) t) ≡ false → a ≡ right_lines w n t
  walking_stop l e = sym (walking_by false l e ∙ add-zero a)

  pub walking_all : n ≤ a → a ≡ right_lines w n t
  unfolding right_lines
  walking_all l =
      let none : n - a ≡ 0 = omega arith in
      sym (h.rest ∙ ap (λ (m : ℕ). a + right_lines w m (drop (a * suc w) t)) none ∙ add-zero a)

-- ---- a part of a text, from i on and of k bytes, as the code lends it

pub part_same : (i k : ℕ) (t : List ℕ) → take ((i + k) - i) t ≡ take k t
part_same i k t = ap (λ (m : ℕ). take m t) (add-sub_cancel_left i k)

pub part_length : (i k : ℕ) (t : List ℕ) → i + k ≤ length t → length (take ((i + k) - i) (drop i t)) ≡ k
part_length i k t h = ap length (part_same i k (drop i t)) ∙ length-take-le k (drop i t) (omega (arith, length-drop i t))

-- a part p put behind what is done
pub put_next : (i k : ℕ) (done rest p : List ℕ) → length done ≡ i
    → take i (done ++ rest) ++ (p ++ drop k (drop i (done ++ rest))) ≡ done ++ p ++ drop k rest
put_next i k done rest p e =
    ap₂ (λ (u v : List ℕ). u ++ (p ++ drop k v)) (take_at done rest i e) (drop_at done rest i e) ∙ sym (append_assoc done p (drop k rest))

-- ---- numbers stored one after the other: those of a lines so far, over the first of ms

pub record Storing (w : ℕ) (t ms us : List ℕ) (a : ℕ) : Type 0 where
  pub upto : a ≤ length ms
  pub rows : us ≡ numbers w a t ++ drop a ms

pub storing_none : {w : ℕ} {t ms : List ℕ} → Storing w t ms ms 0
unfolding numbers
storing_none = record { upto = omega arith; rows = refl }

module _ {w : ℕ} {t ms us : List ℕ} {a : ℕ} (h : Storing w t ms us a) where
  pub storing_more : {x : ℕ} {vs : List ℕ} → a < length ms → x ≡ field (a * suc w) w t → vs ≡ set us a x → Storing w t ms vs (a + 1)
  unfolding field
  storing_more {x} {vs} l f e =
      let y = number (take w (drop (a * suc w) t)) in
      let old : us ≡ numbers w a t ++ get_or ms a 0 ∷ drop (suc a) ms = h.rows ∙ ap (λ (v : List ℕ). numbers w a t ++ v) (drop-cons ms a 0 l) in
      record {
        upto = omega arith;
        rows =
            e ∙ ap₂ (λ (v : List ℕ) (z : ℕ). set v a z) old f
            ∙ set_at (numbers w a t) (get_or ms a 0) (drop (suc a) ms) y a (numbers-length w a t)
            ∙ sym (append_snoc (numbers w a t) y (drop (suc a) ms))
            ∙ ap (λ (u : List ℕ). u ++ drop (suc a) ms) (sym (numbers_next w a t))
            ∙ ap (λ (n : ℕ). numbers w n t ++ drop n ms) (sym (add-one a));
      }

  pub storing_all : length ms ≤ a → us ≡ numbers w (length ms) t
  storing_all l =
      let e : a ≡ length ms = omega (arith, h.upto) in
      h.rows ∙ ap₂ ◌++◌ (ap (λ (n : ℕ). numbers w n t) e) (drop_of_length-le ms l) ∙ append-nil (numbers w (length ms) t)

-- ---- lines written one after the other: those of the first a of ms so far, over the front of t

pub record Writing (w : ℕ) (ms t u : List ℕ) (a : ℕ) : Type 0 where
  pub upto : a ≤ length ms
  pub long : length u ≡ length t
  pub text : u ≡ lines w (take a ms) ++ drop (a * suc w) t

pub writing_none : {w : ℕ} {ms t : List ℕ} → Writing w ms t t 0
unfolding lines
writing_none {w} {ms} {t} = record { upto = omega arith; long = refl; text = ap (λ (m : ℕ). drop m t) (sym (zero-mul (suc w))) }

-- the bytes of line a
abbrev pub line_at : ℕ → ℕ → List ℕ → List ℕ
line_at w a u = take ((a * suc w + suc w) - a * suc w) (drop (a * suc w) u)

module _ {w : ℕ} {ms t u : List ℕ} {a : ℕ} (h : Writing w ms t u a) where
  pub writing_more : {x : ℕ} {p : List ℕ} → a < length ms → a * suc w + suc w ≤ length u → x ≡ get_or ms a 0
      → length p ≡ length (line_at w a u) → p ≡ line (digits (length (line_at w a u) - 1) x)
      → Writing w ms t (take (a * suc w) u ++ (p ++ drop ((a * suc w + suc w) - a * suc w) (drop (a * suc w) u))) (a + 1)
  writing_more {x} {p} l r f k e =
      let i = a * suc w in
      let done = lines w (take a ms) in
      let long : length (lines w (take a ms)) ≡ a * suc w = lines-length w (take a ms) ∙ ap (λ (m : ℕ). m * suc w) (length-take-le a ms (le_of_lt l)) in
      let one : p ≡ line (digits w (get_or ms a 0)) = e ∙ ap₂ (λ (m y : ℕ). line (digits m y)) (omega (arith, part_length (a * suc w) (suc w) u r)) f in
      record {
        upto = omega arith;
        long = same_len_mid i ((i + suc w) - i) u p k ∙ h.long;
        text =
            ap₂ (λ (m : ℕ) (v : List ℕ). take i v ++ (p ++ drop m (drop i v))) (add-sub_cancel_left i (suc w)) h.text
            ∙ put_next i (suc w) done (drop i t) p long
            ∙ ap₂ (λ (v z : List ℕ). done ++ v ++ z) one (lines_then_line w a t)
            ∙ ap (λ (v : List ℕ). v ++ drop (suc a * suc w) t) (sym (lines_next w (get_or ms a 0) (take a ms)) ∙ ap (lines w) (sym (take-suc ms a 0 l)))
            ∙ ap (λ (m : ℕ). lines w (take m ms) ++ drop (m * suc w) t) (sym (add-one a));
      }

  pub writing_all : length ms ≤ a → u ≡ over (lines w ms) t
  unfolding over
  writing_all l =
      let e : a ≡ length ms = omega (arith, h.upto) in
      h.text ∙ ap (λ (m : ℕ). lines w (take m ms) ++ drop (m * suc w) t) e
      ∙ ap₂ (λ (v : List ℕ) (m : ℕ). lines w v ++ drop m t) (take-length ms) (sym (lines-length w ms))

-- the line of x first, which leaves u, and then those of xs behind it
pub lines_written : (w : ℕ) {x y : ℕ} (xs t : List ℕ) {u first rest : List ℕ} → suc w ≤ length t → y ≡ x
    → first ≡ line (digits (length (take (suc w) t) - 1) y) → u ≡ first ++ drop (suc w) t
    → rest ≡ over (lines w xs) (take (length u - suc w) (drop (suc w) u))
    → take (suc w) u ++ (rest ++ drop (length u - suc w) (drop (suc w) u)) ≡ over (lines w (x ∷ xs)) t
unfolding lines
lines_written w {x} xs t l c e f h =
    let places : length (take (suc w) t) - 1 ≡ w = omega (arith, length-take-le (suc w) t l) in
    let one = e ∙ ap₂ (λ (m z : ℕ). line (digits m z)) places c in
    let long : length (line (digits w x)) ≡ suc w = line_length_lem (digits w x) ∙ ap suc (digits-length w x) in
    over_both (line (digits w x)) (lines w xs) t long (f ∙ ap (λ (v : List ℕ). v ++ drop (suc w) t) one) h

-- ---- one line as the code makes it: b says that byte 10 ends it

module _ (w : ℕ) (t : List ℕ) {b : Bool} (h : b ≡ eqb (get_or t w 0) newline) where
  pub line_unended : b ≡ false → is_line w t ≡ false
  unfolding is_line
  line_unended e = ap (λ (x : Bool). all is_digit (take w t) && x) (sym h ∙ e) ∙ never (all is_digit (take w t))
    where
      never : (x : Bool) → (x && false) ≡ false
      never true = refl
      never false = refl

  pub line_ended : b ≡ true → all is_digit (take w t) ≡ is_line w t
  unfolding is_line
  line_ended e = sym (ap (λ (x : Bool). all is_digit (take w t) && x) (sym h ∙ e) ∙ always (all is_digit (take w t)))
    where
      always : (x : Bool) → (x && true) ≡ x
      always true = refl
      always false = refl

  -- what is read of its digits
  pub line_read : b ≡ true → (r : Option ℕ) → ReadsNumber (take w t) r → ReadsLine w t r
  unfolding field
  line_read e (Some x) g = (g.0, sym (line_ended e) ∙ g.1)
  line_read e None g = sym (line_ended e) ∙ g

-- a line filled in: its digits first, and then the byte at its end
pub line_filled : (n x : ℕ) (t d : List ℕ) → length t ≡ suc n → d ≡ digits (length (take n t)) x → set (d ++ drop n t) n newline ≡ line (digits n x)
unfolding line
line_filled n x t d l e =
    let same : d ≡ digits n x = e ∙ ap (λ (m : ℕ). digits m x) (length-take-le n t (omega arith)) in
    let last : drop n t ≡ get_or t n 0 ∷ [] = drop-cons t n 0 (omega arith) ∙ ap (λ (u : List ℕ). get_or t n 0 ∷ u) (drop_of_length-le t (le_of_eq l)) in
    ap₂ (λ (u v : List ℕ). set (u ++ v) n newline) same last ∙ set_at (digits n x) (get_or t n 0) [] newline n (digits-length n x)
