-- Laws of pass after pass, from t on: s holds every dense set within t all the way, and the passes made and those from s on are one more than there are.
-- A pass that takes none shows that s is the core within t, and that all are counted.
--
--   Peels g m t s kept doubt n   n passes have been made from t on, the last from s to kept
use Rattle.std.specs.Prelude.{◌≡◌, ℕ, ◌+◌, ◌<◌, ◌≤◌, List, length}
use Rattle.std.proofs.Common.{arith, sym, ap, subst, ◌∙◌, pow_pos}
use Rattle.std.specs.Prelude.{refl}
use Rattle.std.specs.Int.Count.{ones-ones}
use Rattle.sets.specs.Set.{full}
use Rattle.sets.specs.SizeLaws.{size_mono}
use Rattle.sets.specs.SubsetLaws.{sub_number}
use Rattle.sets.specs.WordLaws.{sub-full}
use Rattle.judging.specs.Graph.{Valid}
use Rattle.judging.specs.Setting.{Sized, Judgeable}
use Rattle.bounds.specs.Core.{core, core_within, pass, passes}
use Rattle.bounds.specs.PassSetting.{Doubtable, Passes}
use Rattle.bounds.specs.CoreLaws.{core_within-full}
use Rattle.bounds.specs.PassLaws.{pass-sub}
use Rattle.bounds.specs.PassLaws.{passes_last, passes_more, passes_some, passes_most, HoldsDense, holds_dense_none, holds_dense_next, holds_dense_all}

pub record Peels (g : List ℕ) (m t s kept doubt n : ℕ) : Type 0 where
  pub holds : HoldsDense g m t s
  pub passed : Passes g m s kept doubt
  pub counted : n + passes g m s ≡ 1 + passes g m t

pub peels_none : {g : List ℕ} {m t kept doubt : ℕ} → Judgeable g t → Passes g m t kept doubt → Peels g m t t kept doubt 1
peels_none j p = record { holds = holds_dense_none j.inside.below; passed = p; counted = refl }

module _ {g : List ℕ} {m t s kept doubt n : ℕ} (p : Peels g m t s kept doubt n) where
  on : HoldsDense g m t kept
  on = subst (HoldsDense g m t) (sym p.passed.left) (holds_dense_next p.holds)

  -- what the next pass asks for
  pub peels_doubtable : Judgeable g t → Doubtable g m kept doubt
  peels_doubtable j =
      record {
        judgeable = record { inside = record { some = j.inside.some; most = j.inside.most; below = on.below }; valid = j.valid };
        part = p.passed.part;
        sure = p.passed.sure;
      }

  -- the number of passes fits: it is at most one more than the number of vertices
  pub peels_fits : Judgeable g t → n ≤ length g + 1
  peels_fits j =
      let all = full (length g) in
      let fewer = size_mono t all (sub-full (length g) t j.inside.below) in
      omega (arith, p.counted, passes_some g m s, passes_most g m t, fewer, ones-ones (length g))

  -- the last pass took some
  module _ (ne : kept ≡ s → ⊥) where
    took : pass g m s ≡ s → ⊥
    took e = ne (p.passed.left ∙ e)

    pub peels_falls : kept < s
    peels_falls = omega (arith, sub_number kept s (rw p.passed.left (pass-sub g m s)))

    pub peels_more : {r d : ℕ} → Passes g m kept r d → Peels g m t kept r d (n + 1)
    peels_more q =
        record {
          holds = on;
          passed = q;
          counted = omega (arith, p.counted, passes_more g m s took, ap (passes g m) p.passed.left);
        }

  -- it took none
  pub peels_all : kept ≡ s → (s ≡ core_within g m t) × (n ≡ passes g m t)
  peels_all e =
      let still : pass g m s ≡ s = sym p.passed.left ∙ e in
      (holds_dense_all p.holds still, omega (arith, p.counted, passes_last g m s still))

-- ---- from all vertices on

module _ (g : List ℕ) {n t : ℕ} (count : n ≡ length g) (whole : t ≡ full n) where
  all : t ≡ full (length g)
  all = whole ∙ ap full count

  pub all_judgeable : Sized g → Valid g → Judgeable g t
  all_judgeable sized valid =
      record {
        inside = record { some = sized.some; most = sized.most; below = omega (arith, all, pow_pos (length g)) };
        valid = valid;
      }

  pub all_peeled : (m : ℕ) {c i : ℕ} → (c ≡ core_within g m t) × (i ≡ passes g m t) → (c ≡ core g m) × (i ≡ passes g m (full (length g)))
  all_peeled m h = (h.0 ∙ ap (core_within g m) all ∙ core_within-full g m, h.1 ∙ ap (passes g m) all)
