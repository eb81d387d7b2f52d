-- Laws of the largest k-plex that holds a set f: the definitions find it where there is one, it is the only one, and it is a maximal k-plex, because a
-- plex that holds it holds f as well. So no k-plex that holds f has q members where no listed one does.
use Rattle.std.specs.Prelude.{ℕ, ◌^◌, ◌≤◌, ◌<◌, min, ◌≡◌, Bool, ◌&&◌, List, eqb}
use Rattle.std.proofs.Common.{lt_of_not-le, arith, ap, ◌∙◌, subst, pow_pos, pow_mono}
use Rattle.std.proofs.Math.Path.{sym}
use Rattle.std.proofs.Math.Dec.{T, eqb→eq, eqb_refl}
use Rattle.std.specs.Int.Count.{ones-ones}
use Rattle.std.proofs.Math.ListN.{length}
use Rattle.sets.specs.Ranges.{range, keep}
use Rattle.sets.specs.Set.{Sub, size, subset, full}
use Rattle.sets.specs.RangeLaws.{Mem, mem_range, range_mem, keep_mem, mem_keep, and_left, and_right, both, is_true, is_false, first_at, first_lowest}
use Rattle.sets.specs.ListLaws.{greatest_le, greatest_ge, greatest_at}
use Rattle.sets.specs.PointLaws.{bit_none}
use Rattle.sets.specs.SubsetLaws.{subset-sub, sub-subset, sub_refl, sub_trans, minus_none}
use Rattle.sets.specs.SizeLaws.{size_mono, sub-size_eq}
use Rattle.judging.specs.Request.{request}
use Rattle.judging.specs.Plex.{plex, Plex, Maximal}
use Rattle.judging.specs.PlexLaws.{plex_holds, plex_test, small_plex}
use Rattle.judging.proofs.MaximalLaws.{plex_within_maximal}
use Rattle.lists.specs.Listing.{Listed}
use Rattle.largest.specs.Largest.{holding, largest_size, largest_mask, Holding, Largest}

-- the masks that the greatest size is taken over, and the test that the lowest mask passes
holders : List ℕ → ℕ → ℕ → List ℕ
holders g k f = keep (holding g k f) (range (2 ^ length g))

chosen : List ℕ → ℕ → ℕ → ℕ → Bool
chosen g k f s = holding g k f s && eqb (size s) (largest_size g k f)

module _ {g : List ℕ} {k f : ℕ} where
  -- ---- the statement behind the test

  pub holding_holds : {s : ℕ} → s < 2 ^ length g → T (holding g k f s) → Holding g k f s
  unfolding holding
  holding_holds {s} l t = record {
    below = l;
    lower = subset-sub f s (and_left (subset f s) (plex g k s) t);
    plexed = plex_holds g k s (and_right (subset f s) (plex g k s) t);
  }

  pub holding_test : {s : ℕ} → Holding g k f s → T (holding g k f s)
  unfolding holding
  holding_test {s} h = both (subset f s) (plex g k s) (sub-subset f s h.lower) (plex_test g k s h.plexed)

  -- ---- what the definitions find

  holders_sound : (s : ℕ) → Mem s (holders g k f) → Holding g k f s
  unfolding holders
  holders_sound s m = let z = keep_mem (holding g k f) (range (2 ^ length g)) s m in holding_holds (range_mem (2 ^ length g) s z.0) z.1

  holders_complete : {s : ℕ} → Holding g k f s → Mem s (holders g k f)
  unfolding holders
  holders_complete {s} h = mem_keep (holding g k f) (range (2 ^ length g)) s (mem_range (2 ^ length g) s h.below) (holding_test h)

  chosen_holds : {s : ℕ} → s < 2 ^ length g → T (chosen g k f s) → Holding g k f s × (size s ≡ largest_size g k f)
  unfolding chosen
  chosen_holds {s} l t = (
    holding_holds l (and_left (holding g k f s) (eqb (size s) (largest_size g k f)) t),
    eqb→eq (size s) (largest_size g k f) (and_right (holding g k f s) (eqb (size s) (largest_size g k f)) t),
  )

  chosen_test : {s : ℕ} → Holding g k f s → size s ≡ largest_size g k f → T (chosen g k f s)
  unfolding chosen
  chosen_test {s} h e =
      both (holding g k f s) (eqb (size s) (largest_size g k f)) (holding_test h) (subst (λ (x : ℕ). T (eqb (size s) x)) e (eqb_refl (size s)))

  size_top : {s : ℕ} → Holding g k f s → size s ≤ largest_size g k f
  unfolding largest_size holders
  size_top {s} h = greatest_ge size (holders g k f) s (holders_complete h)

  size_some : {s : ℕ} → Holding g k f s → (x : ℕ) × Holding g k f x × (size x ≡ largest_size g k f)
  unfolding largest_size holders
  size_some {s} h = let r = greatest_at size (holders g k f) s (holders_complete h) in (r.0, holders_sound r.0 r.1, r.2)

  module _ {s : ℕ} (h : Largest g k f s) where
    pub largest_size_lem : largest_size g k f ≡ size s
    unfolding largest_size holders
    largest_size_lem = omega (arith, greatest_le size (holders g k f) (size s) (λ t m. h.top t (holders_sound t m)), size_top h.holds)

    none_lower : (w : ℕ) → w < s → T (chosen g k f w) → ⊥
    none_lower w l t = let c = chosen_holds (omega (arith, h.holds.below)) t in omega (arith, h.lowest w c.0 (omega (arith, c.1, largest_size_lem)))

    pub largest_mask_lem : largest_mask g k f ≡ s
    unfolding largest_mask chosen
    largest_mask_lem =
        first_at (chosen g k f) (2 ^ length g) s (omega (arith, h.holds.below)) (λ w l. sym (is_false (chosen g k f w) (none_lower w l)))
        (λ _. sym (is_true (chosen g k f s) (chosen_test h.holds (sym largest_size_lem))))

  -- the lowest mask that passes, where one does
  mask_lowest : {t : ℕ} → Holding g k f t → size t ≡ largest_size g k f → T (chosen g k f (largest_mask g k f)) × (largest_mask g k f ≤ t)
  unfolding largest_mask chosen
  mask_lowest {t} h e = first_lowest (chosen g k f) (2 ^ length g) t h.below (chosen_test h e)

  -- where f is a k-plex of the graph, there is a largest one that holds it
  pub largest_exists : f < 2 ^ length g → Plex g k f → Largest g k f (largest_mask g k f)
  largest_exists l p = record {
    holds = c.0;
    top = λ t h. omega (arith, size_top h, c.1);
    lowest = λ t h e. (mask_lowest h (e ∙ c.1)).1;
  }
    where
      c : Holding g k f (largest_mask g k f) × (size (largest_mask g k f) ≡ largest_size g k f)
      c =
          let r = size_some (record { below = l; lower = sub_refl f; plexed = p }) in
          let m = mask_lowest r.1 r.2 in
          chosen_holds (omega (arith, m.1, r.1.below)) m.0

  -- ---- it is maximal, and listed

  module _ {s : ℕ} (h : Holding g k f s) (top : (t : ℕ) → Holding g k f t → size t ≤ size s) where
    pub top_maximal : Maximal g k s
    top_maximal = (
      h.plexed,
      λ t l u p. sym (sub-size_eq s t u (top t (record { below = l; lower = sub_trans f s t h.lower u; plexed = p }))),
    )

    pub top_listed : {q : ℕ} → q ≤ size s → Listed g (request k q 0) s
    top_listed l = record { below = h.below; large = rw (minus_none s) l; top = top_maximal }

  module _ {s : ℕ} (h : Largest g k f s) where
    pub largest-maximal : Maximal g k s
    largest-maximal = top_maximal h.holds h.top

    pub largest_listed : {q : ℕ} → q ≤ size s → Listed g (request k q 0) s
    largest_listed = top_listed h.holds h.top

  -- where no listed plex holds f, none of q members does
  pub none_larger : {q : ℕ} → ((y : ℕ) → Listed g (request k q 0) y → Sub f y → ⊥) → (x : ℕ) → Holding g k f x → size x < q
  none_larger {q} none x h =
      lt_of_not-le (λ l.
      let r = plex_within_maximal g k x h.below h.plexed in
      none r.0 (record { below = r.2; large = omega (arith, l, size_mono x r.0 r.3, ap size (minus_none r.0)); top = r.1 })
      (sub_trans f x r.0 h.lower r.3))

-- ---- nothing is forced

module _ {g : List ℕ} {k s : ℕ} (h : Largest g k 0 s) where
  -- no k-plex of the graph is larger
  pub largest_any : (x : ℕ) → x < 2 ^ length g → Plex g k x → size x ≤ size s
  largest_any x l p = h.top x (record { below = l; lower = λ v. omega (arith, bit_none v); plexed = p })

  -- any k vertices are a k-plex, as the lowest are
  pub largest_least : min (length g) k ≤ size s
  largest_least =
      let m = min (length g) k in
      let e : size (full m) ≡ m = ones-ones m in
      let p : 2 ^ m ≤ 2 ^ length g = pow_mono (omega arith) in
      omega (arith, e, largest_any (full m) (omega (arith, p, pow_pos m)) (small_plex g k (full m) (omega (arith, e))))
