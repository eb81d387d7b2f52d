-- Laws of what is printed: how long it is, and that what the code writes, part after part, is the text of a list or of a refusal.
use Rattle.std.specs.Prelude.{ℕ, suc, ◌+◌, ◌-◌, ◌*◌, ◌/◌, ◌%◌, ◌≤◌, ◌≡◌, List, [], ◌∷◌, ◌++◌, length, take, drop}
use Rattle.std.proofs.Common.{arith, sym, ap, ap₂, ◌∙◌, length-append, length-drop, length-take-le, drop-drop}
use Rattle.sheets.specs.Digits.{digits}
use Rattle.sheets.specs.Lines.{line, lines}
use Rattle.sheets.specs.Sheet.{row_digits, row_length, over}
use Rattle.sheets.specs.OverLaws.{over_length, over_both}
use Rattle.sheets.specs.DigitLaws.{digits-length}
use Rattle.sheets.specs.LineLaws.{line_length_lem, lines-length}
use Rattle.answers.specs.Output.{letter_r, blank, figure_zero, decimals, list_text, refusal_text, list_length, refusal_length, Writes}

-- what fits is written in place
pub writes_length : {new old out : List ℕ} {r : ℕ} → Writes new old out r → length new ≤ length old → length out ≡ length old
writes_length {new} {old} w l = ap length w.text ∙ over_length new old l

-- ---- a list

pub list_length_lem : (ms : List ℕ) → length (list_text ms) ≡ list_length (length ms)
unfolding list_text
list_length_lem ms = omega (arith, lines-length row_digits (length ms ∷ ms))

-- the line of m first, which leaves u, and then the masks behind it
pub list_written : (ms : List ℕ) {m : ℕ} {t u first rest : List ℕ} → m ≡ length ms → row_length ≤ length t
    → first ≡ line (digits (length (take row_length t) - 1) m) → u ≡ first ++ drop row_length t
    → rest ≡ over (lines row_digits ms) (take (length u - row_length) (drop row_length u))
    → Writes (list_text ms) t (take row_length u ++ (rest ++ drop (length u - row_length) (drop row_length u))) ((m + 1) * row_length)
unfolding list_text lines
list_written ms {t = t} c l e f h =
    let head = digits row_digits (length ms) in
    let one = e ∙ ap₂ (λ (w x : ℕ). line (digits (w - 1) x)) (length-take-le row_length t l) c in
    let long : length (line (digits row_digits (length ms))) ≡ row_length = line_length_lem head ∙ ap suc (digits-length row_digits (length ms)) in
    record {
      count = ap (λ (x : ℕ). (x + 1) * row_length) c ∙ sym (list_length_lem ms);
      text = over_both (line head) (lines row_digits ms) t long (f ∙ ap (λ (v : List ℕ). v ++ drop row_length t) one) h;
    }

-- ---- a refusal

abbrev mark_length : ℕ
mark_length = refusal_length - row_length

pub refusal_length_lem : (n v : ℕ) → length (refusal_text n v) ≡ refusal_length
unfolding refusal_text decimals line
refusal_length_lem n v = omega (arith, length-append (digits row_digits v) (10 ∷ []), digits-length row_digits v)

-- the bytes before the value's line, which the code copies to the front of t, and then the line behind them
pub refusal_written : (n v : ℕ) (t : List ℕ) {m x y z : ℕ} {mark p : List ℕ} → refusal_length ≤ length t → m ≡ n
    → x ≡ (m / 10) % 10 + figure_zero → y ≡ m % 10 + figure_zero → mark ≡ letter_r ∷ x ∷ y ∷ blank ∷ [] → z ≡ v
    → p ≡ line (digits (length (take row_length (drop mark_length (mark ++ drop mark_length t))) - 1) z)
    → Writes (refusal_text n v) t
    (take mark_length (mark ++ drop mark_length t) ++ (p ++ drop row_length (drop mark_length (mark ++ drop mark_length t)))) refusal_length
unfolding refusal_text decimals line over
refusal_written n v t {z = z} {p = p} l d e f g i h =
    let tens = e ∙ ap (λ (j : ℕ). (j / 10) % 10 + figure_zero) d in
    let units = f ∙ ap (λ (j : ℕ). j % 10 + figure_zero) d in
    let same = g ∙ ap₂ (λ (j u : ℕ). letter_r ∷ j ∷ u ∷ blank ∷ []) tens units in
    let value : p ≡ line (digits row_digits v) =
    h ∙ ap (λ (w : List ℕ). line (digits (length (take row_length (drop mark_length (w ++ drop mark_length t))) - 1) z)) same
    ∙ ap₂ (λ (j u : ℕ). line (digits (j - 1) u)) (length-take-le row_length (drop mark_length t) (omega (arith, length-drop mark_length t))) i in
    record {
      count = sym (refusal_length_lem n v);
      text =
          ap (λ (w : List ℕ). take mark_length (w ++ drop mark_length t) ++ (p ++ drop row_length (drop mark_length (w ++ drop mark_length t)))) same
          ∙ ap (λ (w : List ℕ). letter_r ∷ ((n / 10) % 10 + figure_zero) ∷ (n % 10 + figure_zero) ∷ blank ∷ (w ++ drop row_length (drop mark_length t))) value
          ∙ ap (λ (w : List ℕ). refusal_text n v ++ w) (drop-drop row_length mark_length t ∙ ap (λ (j : ℕ). drop j t) (sym (refusal_length_lem n v)));
    }
