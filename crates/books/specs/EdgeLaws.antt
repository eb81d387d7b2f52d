-- Laws of graphs that differ in one edge at most: the changed graph is such a one, and is valid. A member of a set that does not hold both ends misses the
-- same members in both graphs, so the set is a k-plex in both or in neither. With one vertex more a set that holds neither end does not hold both, so it is
-- maximal in both graphs or in neither.
--
--   Elsewhere a b u v   u and v are not a and b, in either order
--   AlikeBut a b g h    the graphs g and h have as many vertices, and the same edges but for that of a and b
use Rattle.std.specs.Prelude.{ℕ, ◌+◌, ◌^◌, ◌≤◌, ◌<◌, ◌≡◌, ◌≢◌, ◌⊎◌, Bool, not, cond, List, length, set}
use Rattle.std.proofs.Common.{arith, sym, ◌∙◌, subst, inl, inr, ext_get_or}
use Rattle.std.proofs.Math.Decide.{ℕ_discrete}
use Rattle.std.proofs.Math.Path.{ap}
use Rattle.std.proofs.Math.Bool.{true, false}
use Rattle.std.proofs.Math.ListN.{length-set}
use Rattle.std.proofs.lemmas.Bool.{not-false}
use Rattle.sets.specs.Set.{bit, has, In, size, with, minus}
use Rattle.sets.specs.Graph.{row}
use Rattle.sets.specs.RangeLaws.{Mem, true_holds, test_same}
use Rattle.sets.specs.BitLaws.{bit_le, bit-minus, ext}
use Rattle.sets.specs.PointLaws.{by_bit, bit_with, in_single}
use Rattle.sets.specs.SubsetLaws.{with_same, with_other, with_below, without_same, without_other, has_in, not_in}
use Rattle.sets.specs.SizeLaws.{minus_below}
use Rattle.sets.specs.ListLaws.{row-set, row_other}
use Rattle.judging.specs.Graph.{adjacent, missing, Valid}
use Rattle.judging.specs.Request.{Request}
use Rattle.judging.specs.Plex.{plex, Plex, Maximal}
use Rattle.judging.specs.PlexLaws.{plex_holds, plex_test, maximal_by_one, one_by_maximal}
use Rattle.lists.specs.Listing.{listing}
use Rattle.lists.specs.ListingLaws.{listing_sound, listing_complete}
use Rattle.books.specs.Book.{Change, change, turned, already_so, changed_graph}
use Rattle.books.specs.Calls.{Changeable}

abbrev pub Elsewhere : ℕ → ℕ → ℕ → ℕ → Type 0
Elsewhere a b u v = (u ≡ a → v ≡ b → ⊥) × (u ≡ b → v ≡ a → ⊥)

pub record AlikeBut (a b : ℕ) (g h : List ℕ) : Type 0 where
  pub long : length h ≡ length g
  pub same : (u v : ℕ) → Elsewhere a b u v → bit (row h u) v ≡ bit (row g u) v

pub alike_sym : {a b : ℕ} {g h : List ℕ} → AlikeBut a b g h → AlikeBut a b h g
alike_sym d = record { long = sym d.long; same = λ u v o. sym (d.same u v o) }

-- ---- plexes of two such graphs

module _ {a b : ℕ} {g h : List ℕ} (d : AlikeBut a b g h) (k s : ℕ) where
  -- a set that lacks one of a and b has no two members between which the graphs differ
  module _ (few : bit s a + bit s b ≤ 1) where
    inside : (u v : ℕ) → In u s → In v s → Elsewhere a b u v
    inside u v i j = (
      λ p q. omega (arith, few, subst (λ (x : ℕ). In x s) p i, subst (λ (x : ℕ). In x s) q j),
      λ p q. omega (arith, few, subst (λ (x : ℕ). In x s) p i, subst (λ (x : ℕ). In x s) q j),
    )

    missing_same : (v : ℕ) → In v s → missing h s v ≡ missing g s v
    unfolding missing
    missing_same v i = ap size (ext (minus s (row h v)) (minus s (row g v)) (λ u.
        by_bit s u
        (λ j. omega (arith, bit-minus s (row h v) u, bit-minus s (row g v) u, d.same v u (inside v u i j)))
        (λ o. omega (arith, bit-minus s (row h v) u, bit-minus s (row g v) u))))

    pub alike_plex : Plex g k s → Plex h k s
    alike_plex p v l i = omega (arith, missing_same v i, p v (omega (arith, l, d.long)) i)

-- it is a k-plex in both graphs or in neither
pub alike_same : {a b : ℕ} {g h : List ℕ} → AlikeBut a b g h → (k s : ℕ) → bit s a + bit s b ≤ 1 → plex h k s ≡ plex g k s
alike_same {g = g} {h = h} d k s few =
    test_same (plex h k s) (plex g k s) (λ t. plex_test g k s (alike_plex (alike_sym d) k s few (plex_holds h k s t)))
    (λ t. plex_test h k s (alike_plex d k s few (plex_holds g k s t)))

module _ {a b : ℕ} {g h : List ℕ} (d : AlikeBut a b g h) (apart : a ≢ b) (k s : ℕ) where
  -- one vertex more than a set with neither
  one_more : bit s a ≡ 0 → bit s b ≡ 0 → (v : ℕ) → bit (with s v) a + bit (with s v) b ≤ 1
  one_more oa ob v =
      by_bit (2 ^ v) a
      (λ i. by_bit (2 ^ v) b
      (λ j. absurd (apart (sym (in_single v a i) ∙ in_single v b j)))
      (λ o. omega (arith, bit_with s v a, bit_with s v b, bit_le (2 ^ v) a)))
      (λ o. omega (arith, bit_with s v a, bit_with s v b, bit_le (2 ^ v) b))

  pub alike_maximal : bit s a ≡ 0 → bit s b ≡ 0 → s < 2 ^ length g → Maximal g k s → Maximal h k s
  alike_maximal oa ob below m =
      maximal_by_one h k s (alike_plex d k s (omega (arith, oa, ob)) m.0) (λ v l o p.
      one_by_maximal g k s below m v (omega (arith, l, d.long)) o (alike_plex (alike_sym d) k (with s v) (one_more oa ob v) p))

module _ {a b : ℕ} {g h : List ℕ} (d : AlikeBut a b g h) (apart : a ≢ b) (ask : Request) (s : ℕ) (oa : bit s a ≡ 0) (ob : bit s b ≡ 0) where
  pub alike_listed : Mem s (listing g ask) → Mem s (listing h ask)
  alike_listed m =
      let z = listing_sound g ask s m in
      listing_complete h ask s record {
        below = subst (λ (n : ℕ). s < 2 ^ n) (sym d.long) z.below;
        large = z.large;
        top = alike_maximal d apart ask.slack s oa ob z.below z.top;
      }

-- ---- a set with v, or without it

bit_of : Bool → ℕ
bit_of on = cond on 1 0

module _ (s v : ℕ) where
  turned_same : (on : Bool) → bit (turned s v on) v ≡ bit_of on
  unfolding bit_of
  turned_same true = with_same s v
  turned_same false = without_same s v

  turned_other : (on : Bool) (u : ℕ) → v ≢ u → bit (turned s v on) u ≡ bit s u
  turned_other true u ne = with_other s v u ne
  turned_other false u ne = without_other s v u ne

  turned_below : (on : Bool) (n : ℕ) → s < 2 ^ n → v < n → turned s v on < 2 ^ n
  turned_below true n h l = with_below n s v h l
  turned_below false n h l = minus_below n s (2 ^ v) h

-- ---- the changed graph

-- u and v are the ends of the edge, in one order or in the other, or they are not
abbrev Place : ℕ → ℕ → ℕ → ℕ → Type 0
Place a b u v = ((u ≡ a) × (v ≡ b)) ⊎ (((u ≡ b) × (v ≡ a)) ⊎ Elsewhere a b u v)

place : (a b u v : ℕ) → Place a b u v
place a b u v = go (ℕ_discrete u a) (ℕ_discrete v b) (ℕ_discrete u b) (ℕ_discrete v a)
  where
    go : Dec (u ≡ a) → Dec (v ≡ b) → Dec (u ≡ b) → Dec (v ≡ a) → Place a b u v
    go (yes p) (yes q) r s = inl (p, q)
    go (no p) q (yes r) (yes s) = inr (inl (r, s))
    go (yes p) (no q) (yes r) (yes s) = inr (inl (r, s))
    go (no p) q (no r) s = inr (inr (λ x y. p x, λ x y. r x))
    go (no p) q (yes r) (no s) = inr (inr (λ x y. p x, λ x y. s y))
    go (yes p) (no q) (no r) s = inr (inr (λ x y. q y, λ x y. r x))
    go (yes p) (no q) (yes r) (no s) = inr (inr (λ x y. q y, λ x y. s y))

module _ {g : List ℕ} {c : Change} (ok : Changeable g c) where
  abbrev a : ℕ
  a = c.one

  abbrev b : ℕ
  b = c.other

  abbrev h : List ℕ
  h = changed_graph g c

  abbrev first : List ℕ
  first = set g a (turned (row g a) b c.on)

  pub changed_length : length h ≡ length g
  unfolding changed_graph
  changed_length = length-set first b _ ∙ length-set g a _

  row_one : row h a ≡ turned (row g a) b c.on
  unfolding changed_graph
  row_one = row_other first b a _ ok.apart ∙ row-set g a _ ok.one

  row_two : row h b ≡ turned (row g b) a c.on
  unfolding changed_graph
  row_two = row-set first b _ (omega (arith, ok.other, length-set g a (turned (row g a) b c.on)))

  row_else : (u : ℕ) → u ≢ a → u ≢ b → row h u ≡ row g u
  unfolding changed_graph
  row_else u p q = row_other first b u _ q ∙ row_other g a u _ p

  edge_one : bit (row h a) b ≡ bit_of c.on
  edge_one = ap (λ (x : ℕ). bit x b) row_one ∙ turned_same (row g a) b c.on

  edge_two : bit (row h b) a ≡ bit_of c.on
  edge_two = ap (λ (x : ℕ). bit x a) row_two ∙ turned_same (row g b) a c.on

  pub changed_alike : AlikeBut a b g h
  changed_alike = record { long = changed_length; same = λ u v o. go u v o (ℕ_discrete u a) (ℕ_discrete u b) }
    where
      go : (u v : ℕ) → Elsewhere a b u v → Dec (u ≡ a) → Dec (u ≡ b) → bit (row h u) v ≡ bit (row g u) v
      go u v o (yes p) q =
          rw p (ap (λ (x : ℕ). bit x v) row_one ∙ turned_other (row g a) b c.on v (λ e. o.0 p (sym e)))
      go u v o (no p) (yes q) =
          rw q (ap (λ (x : ℕ). bit x v) row_two ∙ turned_other (row g b) a c.on v (λ e. o.1 q (sym e)))
      go u v o (no p) (no q) = ap (λ (x : ℕ). bit x v) (row_else u p q)

  pub changed_valid : Valid g → Valid h
  changed_valid ok₀ = record { low = low; loopless = loopless; mutually = mutually }
    where
      n : length h ≡ length g
      n = changed_length

      below : (u : ℕ) → u < length g → Dec (u ≡ a) → Dec (u ≡ b) → row h u < 2 ^ length g
      below u l (yes p) q = rw (p, row_one) (turned_below (row g a) b c.on (length g) (ok₀.low a ok.one) ok.other)
      below u l (no p) (yes q) = rw (q, row_two) (turned_below (row g b) a c.on (length g) (ok₀.low b ok.other) ok.one)
      below u l (no p) (no q) = rw (row_else u p q) (ok₀.low u l)

      low : (u : ℕ) → u < length h → row h u < 2 ^ length h
      low u l = rw n (below u (omega (arith, l, n)) (ℕ_discrete u a) (ℕ_discrete u b))

      loopless : (u : ℕ) → u < length h → bit (row h u) u ≡ 0
      loopless u l =
          changed_alike.same u u (λ p q. ok.apart (sym p ∙ q), λ p q. ok.apart (sym q ∙ p)) ∙ ok₀.loopless u (omega (arith, l, n))

      go : (u v : ℕ) → u < length g → v < length g → Place a b u v → bit (row h u) v ≡ bit (row h v) u
      go u v lu lv (inl (p, q)) = rw (p, q) (edge_one ∙ sym edge_two)
      go u v lu lv (inr (inl (p, q))) = rw (p, q) (edge_two ∙ sym edge_one)
      go u v lu lv (inr (inr o)) =
          changed_alike.same u v o ∙ ok₀.mutually u v lu lv ∙ sym (changed_alike.same v u (λ p q. o.1 q p, λ p q. o.0 q p))

      mutually : (u v : ℕ) → u < length h → v < length h → bit (row h u) v ≡ bit (row h v) u
      mutually u v lu lv = go u v (omega (arith, lu, n)) (omega (arith, lv, n)) (place a b u v)

-- ---- the change back

abbrev pub back : Change → Change
back c = change c.one c.other (not c.on)

so_false : (g : List ℕ) (c : Change) → already_so g c ≡ false → bit (row g c.one) c.other ≡ bit_of (not c.on)
unfolding already_so adjacent bit_of
so_false g c e = go c.on e
  where
    r : ℕ
    r = row g c.one

    go : (on : Bool) → cond on (has r c.other) (not (has r c.other)) ≡ false → bit r c.other ≡ cond (not on) 1 0
    go true q = not_in r c.other (true_holds (not (has r c.other)) (ap not q))
    go false q = has_in r c.other (true_holds (has r c.other) (not-false (has r c.other) q))

pub change_back : {g : List ℕ} {c : Change} → Valid g → Changeable g c → already_so g c ≡ false → changed_graph (changed_graph g c) (back c) ≡ g
unfolding row
change_back {g} {c} valid ok e = ext_get_or 0 i g (back_long ∙ changed_length ok) (λ u l. ext (row i u) (row g u) (λ v. go u v (place c.one c.other u v)))
  where
    i : List ℕ
    i = changed_graph (changed_graph g c) (back c)

    again : Changeable (changed_graph g c) (back c)
    again =
        record {
          one = omega (arith, ok.one, changed_length ok);
          other = omega (arith, ok.other, changed_length ok);
          apart = ok.apart;
        }

    back_long : length i ≡ length (changed_graph g c)
    back_long = changed_length again

    was : bit (row g c.one) c.other ≡ bit_of (not c.on)
    was = so_false g c e

    go : (u v : ℕ) → Place c.one c.other u v → bit (row i u) v ≡ bit (row g u) v
    go u v (inl (p, q)) = rw (p, q) (edge_one again ∙ sym was)
    go u v (inr (inl (p, q))) = rw (p, q) (edge_two again ∙ sym was ∙ valid.mutually c.one c.other ok.one ok.other)
    go u v (inr (inr o)) = (changed_alike again).same u v o ∙ (changed_alike ok).same u v o
