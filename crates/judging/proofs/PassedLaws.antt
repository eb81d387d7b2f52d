-- Laws of an input that passes: its graph has a number of vertices that a set can hold, and a set that is asked of can be judged.
use Rattle.std.specs.Prelude.{ℕ, ◌≡◌, List, [], ◌∷◌, length}
use Rattle.std.proofs.Common.{arith}
use Rattle.judging.specs.Refusal.{first_cause, set_cause}
use Rattle.judging.specs.Calls.{passed, graph_check, slack_check, number_check, inside_check, set_check}
use Rattle.judging.specs.Setting.{Sized, Judgeable}
use Rattle.judging.specs.RefusalLaws.{passed_head, passed_front, passed_back, numbers_vertices, graph_sized, graph_checked, slack_graph, set_below}

module _ (g : List ℕ) where
  pub numbers_sized : (k q : ℕ) → first_cause (number_check (length g) k q) passed ≡ passed → Sized g
  numbers_sized k q e = let r = numbers_vertices (length g) k q e in record { some = r.0; most = omega (arith, r.1) }

  graph_set : (s : ℕ) → first_cause (graph_check g) passed ≡ passed → first_cause (set_cause g s ∷ []) passed ≡ passed → Judgeable g s
  graph_set s front back =
      let z = graph_sized g front in
      record { inside = record { some = z.some; most = z.most; below = set_below g s (passed_head _ _ back) }; valid = graph_checked g front }

  pub inside_checked : (s : ℕ) → first_cause (inside_check g s) passed ≡ passed → Judgeable g s
  unfolding inside_check
  inside_checked s e = graph_set s (passed_front _ _ e) (passed_back (graph_check g) _ e)

  pub set_checked : (k s : ℕ) → first_cause (set_check g k s) passed ≡ passed → Judgeable g s
  unfolding set_check
  set_checked k s e = graph_set s (slack_graph g k (passed_front _ _ e)) (passed_back (slack_check g k) _ e)
