-- Members of a set dropped by a test: a walk through some vertices, below n, takes those that pass the test out of the set.
--
--   Dropping n p s w left r   r is what is left of s after the vertices of w that are not in left: of these the ones that pass p are gone, and no others
use Rattle.std.specs.Prelude.{ℕ, ◌^◌, ◌<◌, ◌≡◌, Bool, true, false, cond, T}
use Rattle.std.proofs.Common.{arith, sym, subst}
use Rattle.sets.specs.Set.{bit, In, Sub, without}
use Rattle.sets.specs.Words.{Lowest}
use Rattle.sets.specs.RangeLaws.{true_holds, false_fails}
use Rattle.sets.specs.BitLaws.{bit-minus}
use Rattle.sets.specs.PointLaws.{in_single, by_bit}
use Rattle.sets.specs.SubsetLaws.{sub_refl, without_same}
use Rattle.sets.specs.WalkLaws.{Walked, walk_none, walk_next, walk_map, walk_all, walk_below}

pub record Dropping (n : ℕ) (p : ℕ → Bool) (s w left r : ℕ) : Type 0 where
  pub within : w < 2 ^ n
  pub part : Sub r s
  pub walked : Walked (λ u. T (p u) → bit r u ≡ 0) w left
  pub stays : (u : ℕ) → In u s → (T (p u) → ⊥) → In u r

module _ {n : ℕ} {p : ℕ → Bool} {s w : ℕ} where
  pub dropping_none : w < 2 ^ n → Dropping n p s w w s
  dropping_none b = record { within = b; part = sub_refl s; walked = walk_none; stays = λ u i f. i }

  -- v is the lowest vertex to come, and rest is what is to come after it
  module _ {left r v : ℕ} (h : Dropping n p s w left r) (l : Lowest left v) where
    pub dropping_vertex : v < n
    dropping_vertex = walk_below h.within h.walked.part l

    pub dropping_next : {rest q : ℕ} (b : Bool) → rest ≡ without left v → b ≡ p v → q ≡ cond b (without r v) r → Dropping n p s w rest q
    dropping_next {rest} false e t f =
        subst (Dropping n p s w rest) (sym f)
        (record {
          within = h.within;
          part = h.part;
          walked = walk_next v e h.walked (λ y. absurd (false_fails (p v) (sym t) y));
          stays = h.stays;
        })
    dropping_next {rest} true e t f =
        subst (Dropping n p s w rest) (sym f)
        (record {
          within = h.within;
          part = λ u. omega (arith, bit-minus r (2 ^ v) u, h.part u);
          walked =
              walk_next v e (walk_map (λ u b y. omega (arith, bit-minus r (2 ^ v) u, b y)) h.walked)
              (λ _. without_same r v);
          stays = λ u i no_pass.
              by_bit (2 ^ v) u (λ same. absurd (no_pass (subst (λ (y : ℕ). T (p y)) (in_single v u same) (true_holds (p v) (sym t)))))
              (λ other. omega (arith, bit-minus r (2 ^ v) u, other, h.stays u i no_pass));
        })

  pub dropping_all : {left r : ℕ} → left ≡ 0 → Dropping n p s w left r → (u : ℕ) → In u w → T (p u) → bit r u ≡ 0
  dropping_all {left} z h = walk_all z h.walked
