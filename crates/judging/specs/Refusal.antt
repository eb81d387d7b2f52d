-- When a call declines (document 01): the causes with their numbers and values, and the first of them that holds.
--
--   Reply A             what a call answers: a refusal with its number and value, or a success with its value and what was found
--   reply_number r       the number of the reply r: a success has number 0
--   reply_value r        the value of the reply r
--   found_in f r         what f makes of what was found; 0 where that is nothing, since the call declines
--   Cause               whether it holds, its number and its value
--   first_cause cs r        the first cause of cs that holds, as a refusal, and else r
--   vertex_cause, ..     the causes of the table, each in a line; those of one upper crate alone stand there
use Rattle.std.specs.Prelude.{ℕ, ◌-◌, ◌*◌, ◌^◌, Bool, not, ◌&&◌, ◌||◌, cond, List, [], ◌∷◌, leb, ltb, length}
use Rattle.sets.specs.Ranges.{range, any, first}
use Rattle.sets.specs.Set.{has}
use Rattle.sets.specs.Graph.{row}
use Rattle.judging.specs.Graph.{adjacent}

pub data Reply (A : Type 0) : Type 0 where
  refused : (number value : ℕ) → Reply A
  answered : (value : ℕ) → A → Reply A

abbrev pub reply_number : {A : Type 0} → Reply A → ℕ
reply_number (refused n v) = n
reply_number (answered v a) = 0

abbrev pub reply_value : {A : Type 0} → Reply A → ℕ
reply_value (refused n v) = v
reply_value (answered v a) = v

abbrev pub found_in : {A : Type 0} → (A → ℕ) → Reply A → ℕ
found_in f (refused n v) = 0
found_in f (answered v a) = f a

pub record Cause : Type 0 where
  pub holds : Bool
  pub number : ℕ
  pub value : ℕ

abbrev pub cause : Bool → ℕ → ℕ → Cause
cause b n v = record { holds = b; number = n; value = v }

unfoldable pub first_cause : {A : Type 0} → List Cause → Reply A → Reply A
first_cause [] r = r
first_cause (c ∷ cs) r = cond c.holds (refused c.number c.value) (first_cause cs r)

-- ---- what is accepted: n is 1 to 64, k is 1 to 5, q is 2k - 1 to 64

abbrev pub most_vertices : ℕ
most_vertices = 64

abbrev pub most_slack : ℕ
most_slack = 5

unfoldable pub outside : ℕ → ℕ → ℕ → Bool
outside lo hi n = ltb n lo || ltb hi n

unfoldable pub vertex_cause : ℕ → Cause
vertex_cause n = cause (outside 1 most_vertices n) 1 0

unfoldable pub slack_cause : ℕ → Cause
slack_cause k = cause (outside 1 most_slack k) 2 0

unfoldable pub floor_cause : ℕ → ℕ → Cause
floor_cause k q = cause (outside (2 * k - 1) most_vertices q) 3 0

-- ---- the table

-- row a has its own bit, or a bit of n or above
unfoldable pub bad_row : List ℕ → ℕ → Bool
bad_row g a = has (row g a) a || leb (2 ^ length g) (row g a)

-- row a has a vertex whose row lacks a
unfoldable pub one_way : List ℕ → ℕ → Bool
one_way g a = any (λ b. adjacent g a b && not (adjacent g b a)) (range (length g))

-- the lowest vertex at which the test holds, or n
unfoldable pub lowest_row : (ℕ → Bool) → ℕ → ℕ
lowest_row p n = first p n (range n)

unfoldable pub row_cause : List ℕ → Cause
row_cause g = let a = lowest_row (bad_row g) (length g) in cause (ltb a (length g)) 4 a

unfoldable pub edge_cause : List ℕ → Cause
edge_cause g = let a = lowest_row (one_way g) (length g) in cause (ltb a (length g)) 5 a

unfoldable pub graph_causes : List ℕ → List Cause
graph_causes g = row_cause g ∷ edge_cause g ∷ []

-- ---- a set, or a single vertex, reaches n or above

unfoldable pub set_cause : List ℕ → ℕ → Cause
set_cause g s = cause (leb (2 ^ length g) s) 7 0

unfoldable pub vertex_out_cause : List ℕ → ℕ → Cause
vertex_out_cause g v = cause (leb (length g) v) 7 0
