-- Line 1 as the code reads it and as the code fills it, and the definitions of it.
use Rattle.std.specs.Prelude.{ℕ, ◌+◌, ◌≤◌, ◌≡◌, refl, Bool, true, false, not, T, eqb, length, get_or, take, drop}
use Rattle.std.proofs.Common.{arith, ◌∙◌, length-append, length-drop, drop-cons, drop-drop, drop_at, take-add, length-take-le}
use Rattle.std.proofs.Math.Path.{sym, ap, ap₂, subst}
use mathlib.Core.List.{List, [], ◌++◌, append_assoc}
use Rattle.std.proofs.Math.ListN.{set}
use Rattle.std.proofs.Math.Seq.{set_at}
use Rattle.judging.specs.Request.{Request}
use Rattle.judging.specs.Refusal.{Reply, refused, first_cause}
use Rattle.judging.specs.Calls.{passed, number_check}
use Rattle.judging.specs.RefusalLaws.{first_holds, first_skips}
use Rattle.sheets.specs.declared.heading.Heading as code
use Rattle.sheets.specs.Setting.{SaysFields}
use Rattle.sets.specs.Ranges.{all}
use Rattle.sets.specs.RangeLaws.{is_true, is_false, true_holds, all_append, all_part}
use Rattle.sheets.specs.Digits.{is_digit, digits}
use Rattle.sheets.specs.Lines.{newline, is_line}
use Rattle.sheets.specs.Sheet.{field_digits, slack_at, floor_at, heading_digits, heading_length, heading_text, heading_cause, field_causes, heading_causes}
use Rattle.sheets.specs.DigitLaws.{digits-length}
use Rattle.sheets.specs.LineLaws.{line_first, right_digits, line_ended, put_next}
use Rattle.sheets.specs.SheetLaws.{fields_text, fields_length}

-- ---- line 1 as the code reads it: byte 10 behind six digits, which are three fields

pub three_fields : (t : List ℕ) → take 6 t ≡ take 2 (drop 0 t) ++ (take 2 (drop 2 t) ++ take 2 (drop 4 t))
three_fields t =
    take-add 2 4 t ∙ ap (λ (l : List ℕ). take 2 t ++ l) (take-add 2 2 (drop 2 t) ∙ ap (λ (l : List ℕ). take 2 (drop 2 t) ++ take 2 l) (drop-drop 2 2 t))

module _ (t : List ℕ) where
  pub field_wrong : (at : ℕ) → at + field_digits ≤ heading_digits → all is_digit (take field_digits (drop at t)) ≡ false → is_line heading_digits t ≡ false
  field_wrong at l e =
      sym (is_false (is_line heading_digits t) (λ r.
      subst (λ (b : Bool). T b) e (all_part is_digit at field_digits heading_digits t l (right_digits heading_digits t r))))

  pub fields_right : {b : Bool} → b ≡ eqb (get_or t heading_digits 0) newline → b ≡ true → all is_digit (take field_digits t) ≡ true
      → all is_digit (take field_digits (drop slack_at t)) ≡ true → all is_digit (take field_digits (drop floor_at t)) ≡ true
      → is_line heading_digits t ≡ true
  fields_right h e p q r =
      let n = take field_digits t in
      let k = take field_digits (drop slack_at t) in
      let f = take field_digits (drop floor_at t) in
      sym (line_ended heading_digits t h e) ∙ ap (all is_digit) (three_fields t)
      ∙ sym (is_true (all is_digit (n ++ (k ++ f)))
      (all_append is_digit n (k ++ f) (true_holds (all is_digit n) p)
      (all_append is_digit k f (true_holds (all is_digit k) q) (true_holds (all is_digit f) r))))

  -- its layout decides first, and once it is right, the numbers in its fields
  pub heading_refused : is_line heading_digits t ≡ false → refused 8 1 ≡ first_cause (heading_causes t) passed
  unfolding heading_causes heading_cause
  heading_refused e = sym (first_holds (heading_cause t) (field_causes t) passed (ap not e))

  pub heading_judged : {h : code.Heading} {r : Reply (Unit {0})} → SaysFields t h → is_line heading_digits t ≡ true
      → r ≡ first_cause (number_check h.vertices h.slack h.floor) passed → r ≡ first_cause (heading_causes t) passed
  unfolding heading_causes heading_cause
  heading_judged {r = r} s e j =
      let fields : r ≡ first_cause (field_causes t) passed = rw (← s.vertices, ← s.slack, ← s.floor) j in
      fields ∙ sym (first_skips (heading_cause t) (field_causes t) passed (ap not e))

-- ---- line 1 as the code fills it in: three fields, and then the byte at its end

-- a field put behind those before it
put_field : (i x : ℕ) (t u done p : List ℕ) → length done ≡ i → i + field_digits ≤ length t → u ≡ done ++ drop i t
    → p ≡ digits (length (take field_digits (drop i u))) x
    → take i u ++ (p ++ drop field_digits (drop i u)) ≡ done ++ digits field_digits x ++ drop field_digits (drop i t)
put_field i x t u done p e l f g =
    let same : drop i u ≡ drop i t = ap (drop i) f ∙ drop_at done (drop i t) i e in
    let two : length (take field_digits (drop i t)) ≡ field_digits = length-take-le field_digits (drop i t) (omega (arith, length-drop i t)) in
    ap (λ (v : List ℕ). take i v ++ (p ++ drop field_digits (drop i v))) f
    ∙ put_next i field_digits done (drop i t) p e
    ∙ ap (λ (v : List ℕ). done ++ v ++ drop field_digits (drop i t))
    (g ∙ ap (λ (v : List ℕ). digits (length (take field_digits v)) x) same ∙ ap (λ (m : ℕ). digits m x) two)

module _ (n : ℕ) (ask : Request) (t : List ℕ) {d₁ d₂ d₃ u₁ u₂ u₃ : List ℕ} (long : heading_length ≤ length t)
    (e₁ : d₁ ≡ digits (length (take field_digits t)) n) (s₁ : u₁ ≡ d₁ ++ drop 2 t)
    (e₂ : d₂ ≡ digits (length (take field_digits (drop 2 u₁))) ask.slack) (s₂ : u₂ ≡ take 2 u₁ ++ (d₂ ++ drop 2 (drop 2 u₁)))
    (e₃ : d₃ ≡ digits (length (take field_digits (drop 4 u₂))) ask.floor) (s₃ : u₃ ≡ take 4 u₂ ++ (d₃ ++ drop 2 (drop 4 u₂))) where
  one : u₁ ≡ digits 2 n ++ drop 2 t
  one = s₁ ∙ put_field 0 n t t [] d₁ refl (omega arith) refl e₁

  two : u₂ ≡ digits 2 n ++ digits 2 ask.slack ++ drop 4 t
  two =
      s₂ ∙ put_field 2 ask.slack t u₁ (digits 2 n) d₂ (digits-length 2 n) (omega arith) one e₂
      ∙ ap (λ (v : List ℕ). digits 2 n ++ digits 2 ask.slack ++ v) (drop-drop 2 2 t)

  three : u₃ ≡ digits 2 n ++ digits 2 ask.slack ++ digits 2 ask.floor ++ drop 6 t
  three =
      s₃ ∙ put_field 4 ask.floor t u₂ (digits 2 n ++ digits 2 ask.slack) d₃ (simp (length-append, digits-length)) (omega arith) two e₃
      ∙ ap (λ (v : List ℕ). digits 2 n ++ digits 2 ask.slack ++ digits 2 ask.floor ++ v) (drop-drop 2 4 t)

  pub heading_filled : set u₃ 6 newline ≡ heading_text n ask ++ drop heading_length t
  unfolding heading_text
  heading_filled =
      let all = fields_text n ask in
      ap (λ (v : List ℕ). set v 6 newline)
      (three ∙ ap₂ ◌++◌ (append_assoc (digits 2 n) (digits 2 ask.slack) (digits 2 ask.floor)) (drop-cons t 6 0 (omega arith)))
      ∙ set_at all (get_or t 6 0) (drop 7 t) newline 6 (fields_length n ask)
      ∙ sym (line_first all (drop 7 t))
