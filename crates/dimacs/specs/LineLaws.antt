-- Laws of lines: a text that is not empty is its first line and the lines of the rest, and what the code tells of a line is its kind.
use Rattle.std.specs.Prelude.{ℕ, suc, ◌+◌, ◌-◌, ◌≤◌, ◌<◌, ◌≡◌, refl, Bool, true, false, eqb, leb, ltb, length, take, drop, Option, None, Some}
use Rattle.std.proofs.Common.{not-suc-le-zero, le_refl, arith, one-add, ◌∙◌, le-leb, lt-ltb, le-ltb, eq-eqb, ne_eqb}
use Rattle.std.proofs.Common.{ltb-true, ltb-false, length-drop, drop_of_length-le, drop-drop}
use Rattle.std.proofs.Math.Decide.{dec_le, dec_lt}
use Rattle.std.proofs.Math.Path.{sym, ap, ap₂}
use Rattle.std.proofs.Math.Bool.{◌&&◌, cond}
use mathlib.Core.List.{List, [], ◌∷◌}
use Rattle.std.proofs.lemmas.Bool.{lt-leb}
use Rattle.std.specs.Cmp.Lexicographic.{pointwise}
use Rattle.std.specs.List.{position, position_or_len}
use Rattle.std.proofs.lemmas.List.Recursion.{is_position_or_len}
use borrow.Author.Rules.{part_to_end}
use Rattle.sets.specs.RangeLaws.{true_is_not_false}
use Rattle.sheets.specs.Lines.{newline}
use Rattle.dimacs.specs.Figures.{number, is_figure}
use Rattle.dimacs.specs.Lines.{before, line, onto, lines, Kind, comment, problem, edge, other, blank, letter_c, letter_e, letter_p, most_edges}
use Rattle.dimacs.specs.Lines.{problem_word, edge_word, starts, first_field, second_field, is_pair, problem_kind, edge_kind, behind, shape_of, kind_of}
use Rattle.dimacs.specs.Setting.{capped, figure_value, fields_value, kind_told, capped_kind, line_length, first_line, FirstLine}
use Rattle.dimacs.specs.FigureLaws.{none_cond, some_cond, figure_none, figure_some, figure_empty}
use Rattle.dimacs.specs.declared.lines.Kind.{Kind as ToldKind}

-- ---- the first byte b

pub before_most : (b : ℕ) (t : List ℕ) → before b t ≤ length t
unfolding before
before_most b [] = omega arith
before_most b (x ∷ t) = go (eqb x b) (before_most b t)
  where
    go : (e : Bool) → before b t ≤ length t → cond e 0 (suc (before b t)) ≤ suc (length t)
    go true l = omega arith
    go false l = omega arith

-- as the library looks for it
module _ (b : ℕ) (t : List ℕ) where
  before-position_or_len : before b t ≡ position_or_len (λ x. eqb x b) t
  unfolding before
  before-position_or_len = is_position_or_len (before b) (λ x. eqb x b) refl (λ x xs. ap (cond (eqb x b) 0) (sym (one-add (before b xs)))) t

  position_by : position (λ x. eqb x b) t ≡ cond (ltb (before b t) (length t)) (Some (before b t)) None
  position_by = ap (λ (n : ℕ). cond (ltb n (length t)) (Some n) None) (sym before-position_or_len)

  pub position_none : None ≡ position (λ x. eqb x b) t → length t ≤ before b t
  position_none e = ltb-false (before b t) (length t) (none_cond (ltb (before b t) (length t)) _ (e ∙ position_by))

  pub position_some : {i : ℕ} → Some i ≡ position (λ x. eqb x b) t → (i ≡ before b t) × (i < length t)
  position_some {i} e =
      let p = some_cond (ltb (before b t) (length t)) _ _ (e ∙ position_by) in
      let l = ltb-true (before b t) (length t) p.0 in
      (p.1, omega (arith, p.1, l))

-- ---- what a text begins with

pub starts_short : (p t : List ℕ) → length t < length p → false ≡ starts p t
unfolding starts
starts_short [] t l = absurd (not-suc-le-zero l)
starts_short (b ∷ p) [] l = refl
starts_short (b ∷ p) (x ∷ t) l = go (eqb x b) (starts_short p t (omega arith))
  where
    go : (e : Bool) → false ≡ starts p t → false ≡ (e && starts p t)
    go true q = q
    go false q = refl

-- what a text begins with is no longer than it
pub starts_fits : (p t : List ℕ) → starts p t ≡ true → length p ≤ length t
starts_fits p t e = go (dec_le (length p) (length t))
  where
    go : Dec (length p ≤ length t) → length p ≤ length t
    go (yes l) = l
    go (no nl) = absurd (true_is_not_false (sym e ∙ sym (starts_short p t (omega arith))))

-- as the library compares it
pub starts-pointwise : (p t : List ℕ) → pointwise eqb (take (length p) t) p ≡ starts p t
unfolding starts
starts-pointwise [] t = refl
starts-pointwise (b ∷ p) [] = refl
starts-pointwise (b ∷ p) (x ∷ t) = ap (λ (r : Bool). eqb x b && r) (starts-pointwise p t)

-- ---- the first line, and the others

ltb_suc : (a b : ℕ) → ltb (suc a) (suc b) ≡ ltb a b
ltb_suc a b = go (dec_lt a b)
  where
    go : Dec (a < b) → ltb (suc a) (suc b) ≡ ltb a b
    go (yes l) = lt-ltb (suc a) (suc b) (omega arith) ∙ sym (lt-ltb a b l)
    go (no nl) = le-ltb (suc a) (suc b) (omega arith) ∙ sym (le-ltb a b (omega arith))

-- a byte in front of the first line, where there is one
ahead : (b : ℕ) (t : List ℕ) → (0 < length t → lines t ≡ first_line t ∷ lines (drop (suc (line_length t)) t))
    → onto b (lines t) ≡ line (b ∷ take (line_length t) t) (ltb (line_length t) (length t)) ∷ lines (drop (suc (line_length t)) t)
unfolding lines before onto
ahead b [] h = refl
ahead b (x ∷ t) h = ap (onto b) (h (omega arith))

pub lines_first : (t : List ℕ) → 0 < length t → lines t ≡ first_line t ∷ lines (drop (suc (line_length t)) t)
unfolding lines before
lines_first [] l = absurd (not-suc-le-zero l)
lines_first (b ∷ t) l = go (eqb b newline) (ahead b t (lines_first t))
  where
    go : (e : Bool)
        → onto b (lines t) ≡ line (b ∷ take (line_length t) t) (ltb (line_length t) (length t)) ∷ lines (drop (suc (line_length t)) t)
        → cond e (line [] true ∷ lines t) (onto b (lines t))
        ≡ line (take (cond e 0 (suc (line_length t))) (b ∷ t)) (ltb (cond e 0 (suc (line_length t))) (suc (length t)))
        ∷ lines (drop (suc (cond e 0 (suc (line_length t)))) (b ∷ t))
    go true h = ap (λ (x : Bool). line [] x ∷ lines t) (sym (lt-ltb 0 (suc (length t)) (omega arith)))
    go false h = h ∙ ap (λ (x : Bool). line (b ∷ take (line_length t) t) x ∷ lines (drop (suc (line_length t)) t)) (sym (ltb_suc (line_length t) (length t)))

-- ---- two figures

and_false : (b : Bool) → (b && false) ≡ false
and_false true = refl
and_false false = refl

module _ (t : List ℕ) where
  abbrev first : List ℕ
  first = first_field t

  abbrev second : List ℕ
  second = second_field t

  pair_by : {a b : Bool} → is_figure first ≡ a → is_figure second ≡ b → is_pair t ≡ (a && b)
  unfolding is_pair
  pair_by e f = ap₂ ◌&&◌ e f

  -- by whether there are two
  fields_by : (b : Bool) → is_pair t ≡ b → fields_value t ≡ cond b (Some (capped (number first), capped (number second))) None
  unfolding fields_value
  fields_by b e = ap (λ (z : Bool). cond z (Some (capped (number first), capped (number second))) None) e

  pub first_none : None ≡ figure_value first → None ≡ fields_value t
  first_none e = sym (fields_by false (pair_by (figure_none first e) refl))

  pub second_none : None ≡ figure_value second → None ≡ fields_value t
  second_none e = sym (fields_by false (pair_by {a = is_figure first} refl (figure_none second e) ∙ and_false (is_figure first)))

  pub both_some : {x y : ℕ} → Some x ≡ figure_value first → Some y ≡ figure_value second → Some (x, y) ≡ fields_value t
  both_some e f =
      let p = figure_some first e in
      let q = figure_some second f in
      ap₂ (λ (x y : ℕ). Some (x, y)) p.1 q.1 ∙ sym (fields_by true (pair_by p.0 q.0))

  -- ---- behind the e

  edge_by : (b : Bool) → is_pair t ≡ b → edge_kind t ≡ cond b (edge (number first) (number second)) other
  unfolding edge_kind
  edge_by b e = ap (λ (z : Bool). cond z (edge (number first) (number second)) other) e

  pub edge_other : None ≡ fields_value t → other ≡ capped_kind (edge_kind t)
  unfolding fields_value
  edge_other e = sym (ap capped_kind (edge_by false (none_cond (is_pair t) _ e)))

  pub edge_told : {x y : ℕ} → Some (x, y) ≡ fields_value t → edge x y ≡ capped_kind (edge_kind t)
  unfolding fields_value
  edge_told e =
      let p = some_cond (is_pair t) _ _ e in
      ap (λ (q : ℕ × ℕ). edge q.0 q.1) p.1 ∙ sym (ap capped_kind (edge_by true p.0))

  -- ---- behind the p

  problem_by : (b c : Bool) → is_pair t ≡ b → leb (number second) most_edges ≡ c
      → problem_kind t ≡ cond (b && c) (problem (number first) (number second)) other
  unfolding problem_kind
  problem_by b c e f = ap₂ (λ (z w : Bool). cond (z && w) (problem (number first) (number second)) other) e f

  pub problem_other : None ≡ fields_value t → other ≡ capped_kind (problem_kind t)
  unfolding fields_value
  problem_other e = sym (ap capped_kind (problem_by false _ (none_cond (is_pair t) _ e) refl))

  module _ {x y : ℕ} (e : Some (x, y) ≡ fields_value t) where
    told : (is_pair t ≡ true) × ◌≡◌ {A = ℕ × ℕ} (x, y) (capped (number first), capped (number second))
    unfolding fields_value
    told = some_cond (is_pair t) _ _ e

    second_is : y ≡ capped (number second)
    second_is = ap (λ (q : ℕ × ℕ). q.1) told.1

    pub problem_large : most_edges < y → other ≡ capped_kind (problem_kind t)
    problem_large l =
        sym (ap capped_kind (problem_by true false told.0 (lt-leb (number second) most_edges (omega (arith, second_is)))))

    pub problem_told : y ≤ most_edges → problem x y ≡ capped_kind (problem_kind t)
    problem_told l =
        let whole : y ≡ number second = omega (arith, second_is) in
        ap₂ problem (ap (λ (q : ℕ × ℕ). q.0) told.1) whole
        ∙ sym (ap capped_kind (problem_by true true told.0 (le-leb (number second) most_edges (omega arith))))

-- ---- behind a letter, and at the first byte

module _ (p : List ℕ) (f : List ℕ → Kind) (t : List ℕ) where
  behind_by : (b : Bool) → starts p t ≡ b → behind p f t ≡ cond b (f (drop (length p) t)) other
  unfolding behind
  behind_by b e = ap (λ (z : Bool). cond z (f (drop (length p) t)) other) e

  pub behind_other : pointwise eqb (take (length p) t) p ≡ false → other ≡ capped_kind (behind p f t)
  behind_other e = sym (ap capped_kind (behind_by false (sym (starts-pointwise p t) ∙ e)))

  pub behind_told : {k : Kind} {u : List ℕ} → pointwise eqb (take (length p) t) p ≡ true → u ≡ drop (length p) t
      → k ≡ capped_kind (f u) → k ≡ capped_kind (behind p f t)
  behind_told e g h = h ∙ ap (λ (u : List ℕ). capped_kind (f u)) g ∙ sym (ap capped_kind (behind_by true (sym (starts-pointwise p t) ∙ e)))

pub shape_empty : (t : List ℕ) → length t ≡ 0 → other ≡ capped_kind (shape_of t)
unfolding shape_of
shape_empty [] e = refl
shape_empty (b ∷ t) e = absurd (omega arith)

module _ {t u : List ℕ} {b : ℕ} (q : t ≡ b ∷ u) where
  -- the line by its first byte
  shape_by : (c p e : Bool) → eqb b letter_c ≡ c → eqb b letter_p ≡ p → eqb b letter_e ≡ e
      → shape_of t ≡ cond c comment (cond p (behind problem_word problem_kind u) (cond e (behind edge_word edge_kind u) other))
  unfolding shape_of
  shape_by c p e h i j =
      ap shape_of q
      ∙ ap (λ (z : Bool). cond z comment (cond (eqb b letter_p) (behind problem_word problem_kind u)
      (cond (eqb b letter_e) (behind edge_word edge_kind u) other))) h
      ∙ ap₂ (λ (z w : Bool). cond c comment (cond z (behind problem_word problem_kind u) (cond w (behind edge_word edge_kind u) other))) i j

  pub shape_comment : b ≡ letter_c → comment ≡ capped_kind (shape_of t)
  shape_comment e = sym (ap capped_kind (shape_by true _ _ (eq-eqb b letter_c e) refl refl))

  pub shape_problem : {k : Kind} → b ≡ letter_p → k ≡ capped_kind (behind problem_word problem_kind u) → k ≡ capped_kind (shape_of t)
  shape_problem e h = h ∙ sym (ap capped_kind (shape_by false true _ (ne_eqb b letter_c (λ q. omega arith)) (eq-eqb b letter_p e) refl))

  pub shape_edge : {k : Kind} → b ≡ letter_e → k ≡ capped_kind (behind edge_word edge_kind u) → k ≡ capped_kind (shape_of t)
  shape_edge e h =
      h ∙ sym (ap capped_kind (shape_by false false true (ne_eqb b letter_c (λ q. omega arith)) (ne_eqb b letter_p (λ q. omega arith)) (eq-eqb b letter_e e)))

  pub shape_other : (b ≡ letter_c → ⊥) → (b ≡ letter_p → ⊥) → (b ≡ letter_e → ⊥) → other ≡ capped_kind (shape_of t)
  shape_other f g h = sym (ap capped_kind (shape_by false false false (ne_eqb b letter_c f) (ne_eqb b letter_p g) (ne_eqb b letter_e h)))

-- ---- as the code cuts the text: the fields at the first blank, and a line at its byte 10

pub one_field : (t : List ℕ) → None ≡ position (λ x. eqb x blank) t → None ≡ fields_value t
one_field t e =
    second_none t (figure_empty (second_field t) (omega (arith, position_none blank t e, length-drop (suc (before blank t)) t)))

module _ (t : List ℕ) {i : ℕ} (e : Some i ≡ position (λ x. eqb x blank) t) where
  pub first_cut : figure_value (take i t) ≡ figure_value (first_field t)
  first_cut = ap (λ (j : ℕ). figure_value (take j t)) (position_some blank t e).0

  pub second_cut : figure_value (take (length t - (i + 1)) (drop (i + 1) t)) ≡ figure_value (second_field t)
  second_cut =
      let past : i + 1 ≡ suc (before blank t) = omega (arith, position_some blank t e) in
      ap figure_value (part_to_end t (i + 1)) ∙ ap (λ (j : ℕ). figure_value (drop j t)) past

module _ (t : List ℕ) (at : ℕ) where
  abbrev rest : List ℕ
  rest = drop at t

  abbrev cut : List ℕ
  cut = take (length t - at) (drop at t)

  kind_by : {i : ℕ} (b : Bool) → i ≡ line_length rest → ltb i (length rest) ≡ b → kind_of (first_line rest) ≡ cond b (shape_of (take i rest)) other
  unfolding kind_of
  kind_by {i} b e h =
      ap (λ (n : ℕ). kind_of (line (take n rest) (ltb n (length rest)))) (sym e)
      ∙ ap (λ (x : Bool). cond x (shape_of (take i rest)) other) h

  pub line_unended : at < length t → None ≡ position (λ x. eqb x newline) cut → FirstLine t at (record { kind = None; next = length t })
  line_unended l e =
      let none : length rest ≤ line_length rest = position_none newline rest (e ∙ ap (position (λ x. eqb x newline)) (part_to_end t at)) in
      let all : length rest ≤ suc (line_length rest) = omega (arith, none) in
      record {
        told = sym (ap capped_kind (kind_by false refl (le-ltb (line_length rest) (length rest) none)));
        more = l;
        upto = omega arith;
        rest = drop_of_length-le t (le_refl (length t)) ∙ sym (drop_of_length-le rest all);
      }

  pub line_ended : {i : ℕ} {k : Option ToldKind} → Some i ≡ position (λ x. eqb x newline) cut → kind_told k ≡ capped_kind (shape_of (take i cut))
      → FirstLine t at (record { kind = k; next = at + i + 1 })
  line_ended {i} e f =
      let found = position_some newline rest (e ∙ ap (position (λ x. eqb x newline)) (part_to_end t at)) in
      let past : at + i + 1 ≡ at + suc (line_length rest) = omega (arith, found.0) in
      record {
        told =
            f ∙ ap (λ (u : List ℕ). capped_kind (shape_of (take i u))) (part_to_end t at)
            ∙ sym (ap capped_kind (kind_by true found.0 (lt-ltb i (length rest) found.1)));
        more = omega arith;
        upto = omega (arith, found.1, length-drop at t);
        rest = ap (λ (m : ℕ). drop m t) past ∙ sym (drop-drop (suc (line_length rest)) at t);
      }
