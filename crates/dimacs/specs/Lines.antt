-- The lines of a text, and what each is (document 02, card 8).
--
--   before b t      how many bytes of t stand before the first byte b
--   Line            a line: its bytes, and whether byte 10 ends it;  lines t, those of the text t
--   starts p t      t begins with the bytes p
--   Kind            what a line is: a comment, `p edge n m`, `e u v`, or of another shape
--   kind_of l        what the line l is
use Rattle.std.specs.Prelude.{ℕ, suc, Bool, true, false, ◌&&◌, cond, List, [], ◌∷◌, eqb, leb, length, take, drop}
use Rattle.sheets.specs.Lines.{newline}
use Rattle.dimacs.specs.Figures.{number, is_figure}

-- ---- the lines of a text

unfoldable pub before : ℕ → List ℕ → ℕ
before b [] = 0
before b (x ∷ t) = cond (eqb x b) 0 (suc (before b t))

pub record Line : Type 0 where
  pub bytes : List ℕ
  pub ended : Bool

abbrev pub line : List ℕ → Bool → Line
line bs ended = record { bytes = bs; ended = ended }

-- the byte b in front of the first line
unfoldable pub onto : ℕ → List Line → List Line
onto b [] = line (b ∷ []) false ∷ []
onto b (l ∷ ls) = line (b ∷ l.bytes) l.ended ∷ ls

-- what stands behind the last byte 10 is a line that nothing ends
unfoldable pub lines : List ℕ → List Line
lines [] = []
lines (b ∷ t) = cond (eqb b newline) (line [] true ∷ lines t) (onto b (lines t))

-- ---- what a line is

pub data Kind : Type 0 where
  comment : Kind
  problem : (n m : ℕ) → Kind
  edge : (u v : ℕ) → Kind
  other : Kind

abbrev pub blank : ℕ
blank = 32

abbrev pub letter_c : ℕ
letter_c = 99

abbrev pub letter_e : ℕ
letter_e = 101

abbrev pub letter_p : ℕ
letter_p = 112

-- what stands between the p and n: a blank, the word edge, and a blank
abbrev pub problem_word : List ℕ
problem_word = blank ∷ 101 ∷ 100 ∷ 103 ∷ 101 ∷ blank ∷ []

-- what stands between the e and u
abbrev pub edge_word : List ℕ
edge_word = blank ∷ []

-- document 02: m is at most 4,294,967,295
abbrev pub most_edges : ℕ
most_edges = 4294967295

unfoldable pub starts : List ℕ → List ℕ → Bool
starts [] t = true
starts (b ∷ p) [] = false
starts (b ∷ p) (x ∷ t) = eqb x b && starts p t

-- two fields parted by one blank: a figure has none, so that a second one makes the second field no figure
abbrev pub first_field : List ℕ → List ℕ
first_field bs = take (before blank bs) bs

abbrev pub second_field : List ℕ → List ℕ
second_field bs = drop (suc (before blank bs)) bs

unfoldable pub is_pair : List ℕ → Bool
is_pair bs = is_figure (first_field bs) && is_figure (second_field bs)

unfoldable pub edge_kind : List ℕ → Kind
edge_kind bs = cond (is_pair bs) (edge (number (first_field bs)) (number (second_field bs))) other

unfoldable pub problem_kind : List ℕ → Kind
problem_kind bs =
    cond (is_pair bs && leb (number (second_field bs)) most_edges) (problem (number (first_field bs)) (number (second_field bs))) other

-- what the bytes bs are where they begin with p, judged by what stands behind p
unfoldable pub behind : List ℕ → (List ℕ → Kind) → List ℕ → Kind
behind p f bs = cond (starts p bs) (f (drop (length p) bs)) other

-- the first byte is a letter that tells
unfoldable pub shape_of : List ℕ → Kind
shape_of [] = other
shape_of (b ∷ bs) =
    cond (eqb b letter_c) comment
    (cond (eqb b letter_p) (behind problem_word problem_kind bs)
    (cond (eqb b letter_e) (behind edge_word edge_kind bs) other))

unfoldable pub kind_of : Line → Kind
kind_of l = cond l.ended (shape_of l.bytes) other
