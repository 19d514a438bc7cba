-- The order of positions is strict and total.
use Rattle.std.proofs.Common.{cond, lt-ltb, ◌++◌, ◌<◌, ◌≡◌, Bool, true, false, ◌⊎◌, inl, inr, List, [], ◌∷◌, refl, sym, ap, ◌∙◌, subst, true≢false, is_lt, is_eq, Ordering, Less, Equal, Greater}
use Rattle.std.specs.Prelude.{IsTrue}
use Rattle.std.specs.Prelude.{◌==◌}
use Rattle.std.specs.Ordering.{ordering_then, ordering_reverse}
use Rattle.std.specs.Cmp.{IsTotalOrder}
use Rattle.std.specs.Cmp.Lexicographic.{slice_cmp}
use Rattle.std.proofs.lemmas.Cmp.{ranked, lists_total, on_total, nat_cmp_total, tied_itself}
use Rattle.rcc5_core.specs.declared.Rel.{Rel}
use Rattle.rcc5_core.specs.declared.Rel.TheVariants.{Equals, Includes, IncludedIn, Overlaps, Disjoint}
use Rattle.rcc5_core.specs.Relation.{rank_of}
use Rattle.rcc5_core.specs.Order.{rel_cmp, position_cmp}
use Rattle.world_model.specs.Listing.{is_below}

both_equal : (a b : Ordering) → ordering_then a b ≡ Equal → (a ≡ Equal) × (b ≡ Equal)
both_equal Less b e = absurd (true≢false (ap is_lt e))
both_equal Equal b e = (refl, e)
both_equal Greater b e = absurd (true≢false (sym (ap is_eq e)))

level : (r : Ordering) → is_lt r ≡ false → is_lt (ordering_reverse r) ≡ false → r ≡ Equal
level Less h k = absurd (true≢false h)
level Equal h k = refl
level Greater h k = absurd (true≢false k)

lt_less : (r : Ordering) → is_lt r ≡ true → r ≡ Less
lt_less Less h = refl
lt_less Equal h = absurd (true≢false (sym h))
lt_less Greater h = absurd (true≢false (sym h))

module _ {K : Type 0} (R : K → K → Ordering) (exact : (x y : K) → R x y ≡ Equal → x ≡ y) where
  -- lists that compare as equal are one
  exact_lists : (xs ys : List K) → slice_cmp R xs ys ≡ Equal → xs ≡ ys
  exact_lists [] [] e = refl
  exact_lists [] (y ∷ ys) e = absurd (true≢false (ap is_lt e))
  exact_lists (x ∷ xs) [] e = absurd (true≢false (sym (ap is_eq e)))
  exact_lists (x ∷ xs) (y ∷ ys) e =
      let parts = both_equal (R x y) (slice_cmp R xs ys) e in
      let first = exact x y parts.0 in
      let rest = exact_lists xs ys parts.1 in
      λ i. first i ∷ rest i

  -- where neither of two lists is below the other, they are one
  pub same_level : IsTotalOrder R → (xs ys : List K) → is_lt (slice_cmp R xs ys) ≡ false → is_lt (slice_cmp R ys xs) ≡ false → xs ≡ ys
  same_level o xs ys h k =
      let total : IsTotalOrder (slice_cmp R) = lists_total o in
      let turned = sym (ap is_lt (total.antisymm ys xs)) ∙ k in
      exact_lists xs ys (level (slice_cmp R xs ys) h turned)

pub exact_rels : (x y : Rel) → rel_cmp x y ≡ Equal → x ≡ y
exact_rels Equals Equals e = refl
exact_rels Includes Includes e = refl
exact_rels IncludedIn IncludedIn e = refl
exact_rels Overlaps Overlaps e = refl
exact_rels Disjoint Disjoint e = refl
exact_rels x y e = absurd (true≢false (sym (ap is_eq e)))

rels_total : IsTotalOrder rel_cmp
rels_total = on_total rank_of nat_cmp_total

positions_total : IsTotalOrder position_cmp
positions_total = lists_total rels_total

-- no position is below itself
pub below_itself : (a : List Rel) → is_below a a ≡ false
below_itself a = ap is_lt (tied_itself positions_total a)

-- the order chains
pub below_chain : (a b c : List Rel) → IsTrue (is_below a b) → IsTrue (is_below b c) → IsTrue (is_below a c)
below_chain a b c h k = ap is_lt (positions_total.trans a b c (lt_less (position_cmp a b) h) (lt_less (position_cmp b c) k))

-- of two positions one is below the other, or they are one
pub below_cases : (a b : List Rel) → IsTrue (is_below a b) ⊎ ((a ≡ b) ⊎ IsTrue (is_below b a))
below_cases a b = by (is_below a b) (is_below b a) refl refl
  where
    by : (s t : Bool) → is_below a b ≡ s → is_below b a ≡ t → IsTrue (is_below a b) ⊎ ((a ≡ b) ⊎ IsTrue (is_below b a))
    by true t p q = inl p
    by false true p q = inr (inr q)
    by false false p q = inr (inl (same_level rel_cmp exact_rels rels_total a b p q))

-- and never both
pub below_apart : (a b : List Rel) → IsTrue (is_below a b) → is_below b a ≡ false
below_apart a b h = by (is_below b a) refl
  where
    by : (t : Bool) → is_below b a ≡ t → is_below b a ≡ false
    by true q = absurd (true≢false (sym (below_chain a b a h q) ∙ below_itself a))
    by false q = q

-- the order chains with a position that is not below another
pub below_upto : (a b c : List Rel) → IsTrue (is_below a b) → is_below c b ≡ false → IsTrue (is_below a c)
below_upto a b c h k = elim (below_cases b c) [
  | inl less ↦ below_chain a b c h less
  | inr (inl same) ↦ subst (λ x. IsTrue (is_below a x)) same h
  | inr (inr more) ↦ absurd (true≢false (sym more ∙ k))
]

pub upto_below : (a b c : List Rel) → is_below b a ≡ false → IsTrue (is_below b c) → IsTrue (is_below a c)
upto_below a b c h k = elim (below_cases a b) [
  | inl less ↦ below_chain a b c less k
  | inr (inl same) ↦ subst (λ x. IsTrue (is_below x c)) (sym same) k
  | inr (inr more) ↦ absurd (true≢false (sym more ∙ h))
]

-- what makes a position with a first relation come before another
pub first_or_rest : (r s : Rel) (a b : List Rel) → IsTrue (is_below (r ∷ a) (s ∷ b)) → (rank_of r < rank_of s) ⊎ ((rank_of r ≡ rank_of s) × IsTrue (is_below a b))
first_or_rest r s a b h = by (rel_cmp r s) refl h
  where
    by : (o : Ordering) → o ≡ rel_cmp r s → is_lt (ordering_then o (position_cmp a b)) ≡ true → (rank_of r < rank_of s) ⊎ ((rank_of r ≡ rank_of s) × IsTrue (is_below a b))
    by Less e k = inl (ranked (rank_of r) (rank_of s) Less e)
    by Equal e k = inr (ranked (rank_of r) (rank_of s) Equal e, k)
    by Greater e k = absurd (true≢false (sym k))

pub rel_itself : (r : Rel) → rel_cmp r r ≡ Equal
rel_itself Equals = refl
rel_itself Includes = refl
rel_itself IncludedIn = refl
rel_itself Overlaps = refl
rel_itself Disjoint = refl

-- a longer position comes after its prefix
pub below_longer : (m : List Rel) (r : Rel) (s : List Rel) → IsTrue (is_below m (m ++ r ∷ s))
below_longer [] r s = refl
below_longer (x ∷ m) r s = ap (λ o. is_lt (ordering_then o (position_cmp m (m ++ r ∷ s)))) (rel_itself x) ∙ below_longer m r s

-- after a prefix the first relation decides
pub below_branch : (m : List Rel) (r s : Rel) (a b : List Rel) → rank_of r < rank_of s → IsTrue (is_below (m ++ r ∷ a) (m ++ s ∷ b))
below_branch [] r s a b h = ap (λ t. is_lt (ordering_then (cond t Less (cond (rank_of r == rank_of s) Equal Greater)) (position_cmp a b))) (lt-ltb (rank_of r) (rank_of s) h)
below_branch (x ∷ m) r s a b h = ap (λ o. is_lt (ordering_then o (position_cmp (m ++ r ∷ a) (m ++ s ∷ b)))) (rel_itself x) ∙ below_branch m r s a b h
