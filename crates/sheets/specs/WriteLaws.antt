-- Writing: from what the code wrote to the reply and the text of the definition.
use Rattle.std.specs.Prelude.{ℕ, ◌-◌, ◌≤◌, ◌<◌, ◌≡◌, length, take, Ok, Err}
use Rattle.std.proofs.Common.{arith, ◌∙◌, lt-ltb, le-ltb, length-append}
use Rattle.std.proofs.Math.Path.{sym, ap}
use mathlib.Core.List.{List, [], ◌∷◌, ◌++◌}
use Rattle.std.proofs.Math.ListN.{drop}
use Rattle.sets.specs.Words.{width}
use Rattle.judging.specs.Request.{Request}
use Rattle.judging.specs.Refusal.{Reply, answered, first_cause}
use Rattle.judging.specs.Calls.{passed, refusal, request_check}
use Rattle.judging.specs.RefusalLaws.{first_append, first_holds, first_skips, first_passed, graph_sized, request_graph}
use Rattle.judging.specs.CallLaws.{check_failed, front_refused, front_accepted}
use Rattle.judging.specs.declared.Refusal.{Refusal}
use Rattle.judging.specs.declared.Refusal.TheVariants.{Room}
use Rattle.sheets.specs.Lines.{lines}
use Rattle.sheets.specs.Sheet.{heading_length, row_digits, sheet_length, heading_text, sheet_text, isolated_cause, room_cause, sheet_check, writing, over}
use Rattle.sheets.specs.Sheet.{text_after}
use Rattle.sheets.specs.Calls.{WroteSheet}
use Rattle.sheets.specs.OverLaws.{over_both}
use Rattle.sheets.specs.LineLaws.{lines-length}
use Rattle.sheets.specs.SheetLaws.{heading_length_lem}

pub sheet_length_lem : (g : List ℕ) (ask : Request) → length (sheet_text g ask) ≡ sheet_length (length g)
unfolding sheet_text
sheet_length_lem g ask =
    let below = ask.silent ∷ g in
    length-append (heading_text (length g) ask) (lines row_digits below)
    ∙ omega (arith, heading_length_lem (length g) ask, lines-length row_digits below)

-- what is answered where there is room for n rows
abbrev fitting : ℕ → ℕ → Reply (Unit {0})
fitting bytes n = first_cause (room_cause bytes (sheet_length n) ∷ []) (answered (sheet_length n) tt)

-- the room is looked at after all else
writing_rest : (g : List ℕ) (ask : Request) (bytes : ℕ) → writing g ask bytes ≡ first_cause (sheet_check g ask) (fitting bytes (length g))
unfolding writing
writing_rest g ask bytes = first_append (sheet_check g ask) (room_cause bytes (sheet_length (length g)) ∷ []) (answered (sheet_length (length g)) tt)

not_written : {g : List ℕ} {ask : Request} {t : List ℕ} {f : Refusal} → writing g ask (length t) ≡ refusal f → WroteSheet g ask t t (Err f)
not_written {g} {ask} {t} e = record { reply = sym e; text = sym (ap (λ (x : Reply (Unit {0})). text_after x (sheet_text g ask) t) e) }

pub write_refused : {g : List ℕ} {ask : Request} {t : List ℕ} {f : Refusal} → refusal f ≡ first_cause (sheet_check g ask) passed
    → WroteSheet g ask t t (Err f)
write_refused {g} {ask} {t} {f} e =
    not_written (writing_rest g ask (length t) ∙ sym (check_failed (sheet_check g ask) f (fitting (length t) (length g)) e))

-- the request is judged first, and then 14 decides
pub request_told : (g : List ℕ) (ask : Request) (f : Refusal) → refusal f ≡ first_cause (request_check g ask) passed
    → refusal f ≡ first_cause (sheet_check g ask) passed
unfolding sheet_check
request_told g ask f e = front_refused (request_check g ask) (isolated_cause g ∷ []) passed f e

pub isolated_last : (g : List ℕ) (ask : Request) {r : Reply (Unit {0})} → passed ≡ first_cause (request_check g ask) passed
    → r ≡ first_cause (isolated_cause g ∷ []) passed → r ≡ first_cause (sheet_check g ask) passed
unfolding sheet_check
isolated_last g ask e h = h ∙ sym (front_accepted (request_check g ask) (isolated_cause g ∷ []) passed e)

-- ---- once the request and the rows have passed

pub graph_fits : (g : List ℕ) (ask : Request) → passed ≡ first_cause (request_check g ask) passed → length g ≤ width
graph_fits g ask e = (graph_sized g (request_graph g ask (sym e))).most

module _ (g : List ℕ) (ask : Request) (e : first_cause (sheet_check g ask) passed ≡ passed) where
  room_left : (bytes : ℕ) {n : ℕ} → n ≡ length g → writing g ask bytes ≡ fitting bytes n
  room_left bytes c =
      writing_rest g ask bytes ∙ first_passed (sheet_check g ask) (fitting bytes (length g)) e ∙ ap (fitting bytes) (sym c)

  -- it is written where there is room
  pub accepted_writes : (bytes : ℕ) {n : ℕ} → n ≡ length g → sheet_length n ≤ bytes → writing g ask bytes ≡ answered (sheet_length n) tt
  unfolding room_cause first_cause
  accepted_writes bytes {n} c l =
      room_left bytes c ∙ first_skips (room_cause bytes (sheet_length n)) [] (answered (sheet_length n) tt) (le-ltb bytes (sheet_length n) l)

  pub text_refused : {t : List ℕ} {n : ℕ} → n ≡ length g → length t < sheet_length n → WroteSheet g ask t t (Err (Room (sheet_length n)))
  unfolding room_cause
  text_refused {t} {n} c l =
      not_written
      (room_left (length t) c
      ∙ first_holds (room_cause (length t) (sheet_length n)) [] (answered (sheet_length n) tt) (lt-ltb (length t) (sheet_length n) l))

  -- what the code writes: line 1 first, which leaves u, and then the silent set and the rows behind it
  pub text_written : {t u p : List ℕ} {n : ℕ} → n ≡ length g → sheet_length n ≤ length t → u ≡ heading_text n ask ++ drop heading_length t
      → p ≡ over (lines row_digits (ask.silent ∷ g)) (take (length u - heading_length) (drop heading_length u))
      → WroteSheet g ask t (take heading_length u ++ (p ++ drop (length u - heading_length) (drop heading_length u))) (Ok (sheet_length n))
  unfolding sheet_text
  text_written {t} c l a b =
      let answer = accepted_writes (length t) c l in
      let first = a ∙ ap (λ (m : ℕ). heading_text m ask ++ drop heading_length t) c in
      record {
        reply = sym answer;
        text =
            over_both (heading_text (length g) ask) (lines row_digits (ask.silent ∷ g)) t (heading_length_lem (length g) ask) first b
            ∙ sym (ap (λ (x : Reply (Unit {0})). text_after x (sheet_text g ask) t) answer);
      }
