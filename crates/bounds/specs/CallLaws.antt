-- From the checks to the replies: what is known of an input that passes, and what the calls for the core and the reach then answer.
use Rattle.std.specs.Prelude.{◌≡◌, ℕ, ◌<◌, ◌≤◌, List, [], ◌∷◌, length}
use Rattle.std.proofs.Common.{arith, ◌∙◌, le-leb}
use Rattle.std.proofs.Math.Path.{sym, ap}
use Rattle.sets.specs.Set.{full}
use Rattle.std.proofs.lemmas.Bool.{lt-leb}
use Rattle.judging.specs.Refusal.{refused, answered, first_cause, vertex_out_cause}
use Rattle.judging.specs.Calls.{refusal, passed, graph_check, floor_check}
use Rattle.judging.specs.Graph.{Valid}
use Rattle.judging.specs.Setting.{Sized, LowRows}
use Rattle.judging.specs.RefusalLaws.{first_holds, first_skips}
use Rattle.judging.specs.RefusalLaws.{graph_sized, graph_checked, slack_graph, slack_accepted, floor_slack, floor_accepted}
use Rattle.judging.specs.CallLaws.{front_refused, front_accepted}
use Rattle.judging.specs.declared.Refusal.{Refusal}
use Rattle.bounds.specs.Core.{core, passes, Peeling, peeling}
use Rattle.bounds.specs.Reach.{reach}
use Rattle.bounds.specs.Calls.{reach_check, reach_reply}

-- ---- the core

module _ (g : List ℕ) (k q : ℕ) (h : passed ≡ first_cause (floor_check g k q) passed) where
  graph_passed : first_cause (graph_check g) passed ≡ passed
  graph_passed = slack_graph g k (floor_slack g k q (sym h))

  pub core_peelable : Sized g × Valid g
  core_peelable = (graph_sized g graph_passed, graph_checked g graph_passed)

  pub core_floor : k ≤ q
  core_floor = omega (arith, slack_accepted g k (floor_slack g k q (sym h)), floor_accepted g k q (sym h))

pub peeling_found : (g : List ℕ) (m : ℕ) {c n : ℕ} → (c ≡ core g m) × (n ≡ passes g m (full (length g)))
    → ◌≡◌ {A = Peeling} (record { core = c; passes = n }) (peeling g m)
unfolding peeling
peeling_found g m {c} {n} h =
    ap (λ (x : ℕ). record { core = x; passes = n }) h.0 ∙ ap (λ (x : ℕ). record { core = core g m; passes = x }) h.1

-- ---- the reach: the vertex is looked at after the table

module _ (g : List ℕ) (v : ℕ) where
  pub reach_refused : (f : Refusal) → refusal f ≡ first_cause (graph_check g) passed → refusal f ≡ reach_reply g v
  unfolding reach_reply reach_check
  reach_refused f h = front_refused (graph_check g) (vertex_out_cause g v ∷ []) (answered 0 (reach g v)) f h

  module _ (h : passed ≡ first_cause (graph_check g) passed) where
    only_vertex : reach_reply g v ≡ first_cause (vertex_out_cause g v ∷ []) (answered 0 (reach g v))
    unfolding reach_reply reach_check
    only_vertex = front_accepted (graph_check g) (vertex_out_cause g v ∷ []) (answered 0 (reach g v)) h

    pub reach_ready : v < length g → LowRows g × (v < length g)
    reach_ready l =
        let z = graph_sized g (sym h) in
        (record { some = z.some; most = z.most; low = (graph_checked g (sym h)).low }, l)

    pub reach-outside_refused : length g ≤ v → refused 7 0 ≡ reach_reply g v
    unfolding vertex_out_cause
    reach-outside_refused l = sym (only_vertex ∙ first_holds (vertex_out_cause g v) [] (answered 0 (reach g v)) (le-leb (length g) v l))

    pub reach_found : {s : ℕ} → v < length g → s ≡ reach g v → answered 0 s ≡ reach_reply g v
    unfolding vertex_out_cause first_cause
    reach_found l c =
        ap (answered 0) c ∙ sym (only_vertex ∙ first_skips (vertex_out_cause g v) [] (answered 0 (reach g v)) (lt-leb (length g) v l))
