-- From what the code read of line 1 and of the lines below it to the causes of the definition: the first wrong line, and once all lines are right, the
-- silent set, the rows and the isolated vertices.
use Rattle.std.specs.Prelude.{ℕ, ◌+◌, ◌*◌, ◌≤◌, ◌<◌, ◌≡◌, List, [], ◌∷◌, ◌++◌, length, drop, Err}
use Rattle.std.proofs.Common.{arith, ◌∙◌}
use Rattle.std.proofs.Math.Path.{sym, ap}
use Rattle.sets.specs.declared.Set.{Set}
use Rattle.sets.specs.RangeLaws.{true_holds}
use Rattle.sets.specs.Words.{width, mask}
use Rattle.judging.specs.Refusal.{Reply, refused, first_cause, graph_causes, set_cause}
use Rattle.judging.specs.Calls.{passed, refusal}
use Rattle.judging.specs.CallLaws.{no_cause, front_refused, front_accepted}
use Rattle.judging.specs.declared.Refusal.{Refusal}
use Rattle.judging.specs.Setting.{Sized}
use Rattle.sheets.specs.Lines.{is_line}
use Rattle.sheets.specs.Sheet.{heading_digits, heading_length, heading_causes, row_digits, row_length, lines_cause, isolated_cause, set_causes, body_causes}
use Rattle.sheets.specs.Setting.{ReadsSet, SaysSets}
use Rattle.sheets.specs.LineLaws.{right_fits, numbers-length, Walking, walking_stop, walking_all}
use Rattle.sheets.specs.SheetLaws.{passed_line}
use Rattle.sheets.specs.BodyLaws.{line_refused, after_refused, lines_accepted}
use Rattle.sheets.proofs.RightLaws.{right_long}

-- once line 1 has passed
module _ (t : List ℕ) (e : first_cause (heading_causes t) passed ≡ passed) where
  pub heading_fits : heading_length ≤ length t
  heading_fits = omega (arith, right_fits heading_digits t (true_holds (is_line heading_digits t) (passed_line t e)))

-- ---- the lines as the code reads them: a of them so far

module _ {n : ℕ} {t : List ℕ} {a : ℕ} (h : Walking row_digits n t a) where
  -- the next one is wrong
  pub line_told : {f : Refusal} → a < n → ReadsSet a t (Err f) → refusal f ≡ first_cause (lines_cause n t ∷ []) passed
  line_told l r = ap refusal r.0 ∙ line_refused n t (walking_stop h l r.1) [] l

  -- they lie within the text
  pub lines_within : a * row_length ≤ length t
  lines_within = omega (arith, h.rest, right_long row_digits n t)

  -- all of them have been
  module _ (l : n ≤ a) where
    pub after_told : n * row_length < length t → refused 8 (n + 2) ≡ first_cause (lines_cause n t ∷ []) passed
    after_told m = after_refused n t (walking_all h l) [] l m

    pub lines_passed : length t ≤ n * row_length → passed ≡ first_cause (lines_cause n t ∷ []) passed
    lines_passed m = no_cause ∙ lines_accepted n t (walking_all h l) [] l m

-- ---- what is left of the causes once the lines are right

module _ {n : ℕ} {t g : List ℕ} {s : Set} (r : SaysSets n t g s) (p : passed ≡ first_cause (lines_cause (n + 1) t ∷ []) passed) where
  sets_left : first_cause (body_causes n t) passed ≡ first_cause (set_cause g (mask s) ∷ graph_causes g ++ isolated_cause g ∷ []) passed
  unfolding body_causes
  sets_left = rw (r.rows, r.silent) (front_accepted (lines_cause (n + 1) t ∷ []) (set_causes n t) passed p)

  pub sets_refused : (f : Refusal) → refusal f ≡ first_cause (set_cause g (mask s) ∷ graph_causes g) passed → refusal f ≡ first_cause (body_causes n t) passed
  sets_refused f h = front_refused (set_cause g (mask s) ∷ graph_causes g) (isolated_cause g ∷ []) passed f h ∙ sym sets_left

  -- the silent set and the rows have passed, and 14 decides
  pub isolated_left : {x : Reply (Unit {0})} → passed ≡ first_cause (set_cause g (mask s) ∷ graph_causes g) passed
      → x ≡ first_cause (isolated_cause g ∷ []) passed → x ≡ first_cause (body_causes n t) passed
  isolated_left h k = k ∙ sym (front_accepted (set_cause g (mask s) ∷ graph_causes g) (isolated_cause g ∷ []) passed h) ∙ sym sets_left

-- a wrong line is told before them
pub lines_told : (n : ℕ) (t : List ℕ) (f : Refusal) → refusal f ≡ first_cause (lines_cause (n + 1) t ∷ []) passed
    → refusal f ≡ first_cause (body_causes n t) passed
unfolding body_causes
lines_told n t f h = front_refused (lines_cause (n + 1) t ∷ []) (set_causes n t) passed f h

-- as many rows are read as there is room for
pub read_sized : {n : ℕ} {t g : List ℕ} {s : Set} → SaysSets n t g s → (1 ≤ n) × (n ≤ width) → Sized g
read_sized {n} {t} r l =
    let long = ap length r.rows ∙ numbers-length row_digits n (drop row_length t) in
    record { some = omega (arith, long); most = omega (arith, long) }
