-- What each public call of this crate answers, for every input: its causes in document 01's order, and what it finds.
--
--   number_of, value_of     document 01's number and value of each refusal
--   refusal               a refusal as a reply
--   looseness_reply g s    the answer to: how loose is s?
--   maximal_reply g k s    the answer to: is s a maximal k-plex?
use Rattle.std.specs.Prelude.{ℕ, Bool, List, [], ◌∷◌, ◌++◌, length, Result, Ok, Err}
use Rattle.judging.specs.Plex.{maximal, looseness}
use Rattle.judging.specs.Request.{Request}
use Rattle.judging.specs.Refusal.{Reply, refused, answered, Cause, first_cause, vertex_cause, slack_cause, floor_cause, graph_causes, set_cause}
use Rattle.judging.specs.declared.Refusal.{Refusal}
use Rattle.judging.specs.declared.Refusal.TheVariants.{Vertices, Slack, Floor, Row, OneWay, Slots, Outside, Line, Room, Bound}
use Rattle.judging.specs.declared.Refusal.TheVariants.{Forced, Loop, Unchanged, Isolated, DimacsLine, EdgeCount}

abbrev pub number_of : Refusal → ℕ
number_of Vertices = 1
number_of Slack = 2
number_of Floor = 3
number_of (Row a) = 4
number_of (OneWay a) = 5
number_of (Slots m) = 6
number_of Outside = 7
number_of (Line l) = 8
number_of (Room n) = 9
number_of Bound = 10
number_of Forced = 11
number_of Loop = 12
number_of Unchanged = 13
number_of (Isolated a) = 14
number_of (DimacsLine l) = 15
number_of EdgeCount = 16

abbrev pub value_of : Refusal → ℕ
value_of Vertices = 0
value_of Slack = 0
value_of Floor = 0
value_of (Row a) = a
value_of (OneWay a) = a
value_of (Slots m) = m
value_of Outside = 0
value_of (Line l) = l
value_of (Room n) = n
value_of Bound = 0
value_of Forced = 0
value_of Loop = 0
value_of Unchanged = 0
value_of (Isolated a) = a
value_of (DimacsLine l) = l
value_of EdgeCount = 0

abbrev pub refusal : {A : Type 0} → Refusal → Reply A
refusal f = refused (number_of f) (value_of f)

-- ---- checks of the input that calls share: nothing is found

abbrev pub passed : Reply (Unit {0})
passed = answered 0 tt

abbrev pub checked_reply : Result (Unit {0}) Refusal → Reply (Unit {0})
checked_reply (Ok _) = passed
checked_reply (Err f) = refusal f

-- 1, 4, 5
unfoldable pub graph_check : List ℕ → List Cause
graph_check g = vertex_cause (length g) ∷ graph_causes g

-- 1, 2, 4, 5
unfoldable pub slack_check : List ℕ → ℕ → List Cause
slack_check g k = vertex_cause (length g) ∷ slack_cause k ∷ graph_causes g

-- 1, 2, 3
unfoldable pub number_check : ℕ → ℕ → ℕ → List Cause
number_check n k q = vertex_cause n ∷ slack_cause k ∷ floor_cause k q ∷ []

-- 1, 2, 3, 4, 5
unfoldable pub floor_check : List ℕ → ℕ → ℕ → List Cause
floor_check g k q = number_check (length g) k q ++ graph_causes g

-- 1, 2, 3, 7, 4, 5
unfoldable pub request_check : List ℕ → Request → List Cause
request_check g ask = number_check (length g) ask.slack ask.floor ++ set_cause g ask.silent ∷ graph_causes g

-- 1, 4, 5, 7
unfoldable pub inside_check : List ℕ → ℕ → List Cause
inside_check g s = graph_check g ++ set_cause g s ∷ []

-- 1, 2, 4, 5, 7
unfoldable pub set_check : List ℕ → ℕ → ℕ → List Cause
set_check g k s = slack_check g k ++ set_cause g s ∷ []

-- ---- the public calls

-- what is found, as the reply of a call whose value is 0
abbrev pub found_reply : {A : Type 0} → Result A Refusal → Reply A
found_reply (Ok a) = answered 0 a
found_reply (Err f) = refusal f

-- a number that is the value of the call and says all
abbrev pub valued_reply : Result ℕ Refusal → Reply (Unit {0})
valued_reply (Ok m) = answered m tt
valued_reply (Err f) = refusal f

unfoldable pub looseness_reply : List ℕ → ℕ → Reply ℕ
looseness_reply g s = first_cause (inside_check g s) (answered 0 (looseness g s))

unfoldable pub maximal_reply : List ℕ → ℕ → ℕ → Reply Bool
maximal_reply g k s = first_cause (set_check g k s) (answered 0 (maximal g k s))
