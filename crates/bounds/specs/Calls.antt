-- What the calls for the core and the reach answer, for every input: their causes in document 01's order, and what they find.
--
--   core_reply g k q   the core of the graph for the slack k and the floor q, and the passes that peel it out
--   reach_reply g v    the two-hop reach of the vertex v
--   core_found_reply, reach_found_reply   the answers of the code as replies
use Rattle.std.specs.Prelude.{ℕ, ◌-◌, List, [], ◌∷◌, ◌++◌, Result, Ok, Err}
use Rattle.sets.specs.Words.{mask}
use Rattle.judging.specs.Refusal.{Reply, answered, Cause, first_cause, vertex_out_cause}
use Rattle.sets.specs.declared.Set.{Set}
use Rattle.judging.specs.declared.Refusal.{Refusal}
use Rattle.judging.specs.Calls.{refusal, graph_check, floor_check}
use Rattle.bounds.specs.Core.{Peeling, peeling}
use Rattle.bounds.specs.Reach.{reach}
use Rattle.bounds.specs.declared.cores.Peeled.{Peeled}

abbrev pub core_found_reply : Result Peeled Refusal → Reply Peeling
core_found_reply (Ok p) = answered 0 (record { core = mask p.core; passes = p.passes })
core_found_reply (Err f) = refusal f

unfoldable pub core_reply : List ℕ → ℕ → ℕ → Reply Peeling
core_reply g k q = first_cause (floor_check g k q) (answered 0 (peeling g (q - k)))

abbrev pub reach_found_reply : Result Set Refusal → Reply ℕ
reach_found_reply (Ok s) = answered 0 (mask s)
reach_found_reply (Err f) = refusal f

-- 1, 4, 5, 7
unfoldable pub reach_check : List ℕ → ℕ → List Cause
reach_check g v = graph_check g ++ vertex_out_cause g v ∷ []

unfoldable pub reach_reply : List ℕ → ℕ → Reply ℕ
reach_reply g v = first_cause (reach_check g v) (answered 0 (reach g v))
