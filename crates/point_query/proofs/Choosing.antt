-- Sets of relations that lead on from a prefix, gathered relation by relation.
use Rattle.std.proofs.Common.{◌≡◌, ◌↔◌, true, false, ◌||◌, ◌⊎◌, inl, inr, List, [], ◌∷◌, ◌++◌, ⊎_elim, refl, sym, ap, ◌∙◌, subst, arith, IsTrue}
use Rattle.std.specs.Prelude.{Contains}
use Rattle.std.specs.Ordering.{nat_cmp}
use Rattle.std.proofs.lemmas.Bool.{or_cases, eqb-true, false≢true}
use Rattle.std.proofs.Math.Bool.{or-true}
use Rattle.std.proofs.lemmas.List.Elements.{Contains-append_left, Contains-push, Contains-push_cases}
use Rattle.rcc5_core.specs.declared.Rel.{Rel}
use Rattle.rcc5_core.specs.declared.Rel.TheVariants.{Equals, Includes, IncludedIn, Overlaps, Disjoint}
use Rattle.rcc5_core.specs.declared.RelSet.{RelSet}
use Rattle.rcc5_core.specs.Relation.{rank_of, same_rel}
use Rattle.rcc5_core.specs.RelationSet.{has, no_rels, adding}
use Rattle.world_model.proofs.OrderPositions.{exact_rels, rel_itself}
use Rattle.world_model.proofs.Relations.{itself}

-- the relations, the last first
abbrev pub last_first : List Rel
last_first = Disjoint ∷ Overlaps ∷ IncludedIn ∷ Includes ∷ Equals ∷ []

-- what a set with one more relation has
has_adding : (set : RelSet) (r q : Rel) → has (adding set r) q ≡ (has set q || same_rel r q)
has_adding set r Equals = refl
has_adding set r Includes = refl
has_adding set r IncludedIn = refl
has_adding set r Overlaps = refl
has_adding set r Disjoint = refl

pub has_none : (q : Rel) → has no_rels q ≡ false
has_none Equals = refl
has_none Includes = refl
has_none IncludedIn = refl
has_none Overlaps = refl
has_none Disjoint = refl

-- each relation is one of the five
pub one_of_five : (q : Rel) → Contains last_first q
one_of_five Disjoint = (0, omega arith, refl)
one_of_five Overlaps = (1, omega arith, refl)
one_of_five IncludedIn = (2, omega arith, refl)
one_of_five Includes = (3, omega arith, refl)
one_of_five Equals = (4, omega arith, refl)

same_from : (r q : Rel) → same_rel r q ≡ true → r ≡ q
same_from r q e = exact_rels r q (ap (λ k. nat_cmp k (rank_of q)) (eqb-true (rank_of r) (rank_of q) e) ∙ rel_itself q)

-- the set has what was added, and what it had
added_stays : (set : RelSet) (r q : Rel) → has set q ≡ true → has (adding set r) q ≡ true
added_stays set r q h = has_adding set r q ∙ ap (λ b. b || same_rel r q) h

added_there : (set : RelSet) (r : Rel) → has (adding set r) r ≡ true
added_there set r = has_adding set r r ∙ ap (λ b. has set r || b) (itself r) ∙ or-true (has set r)

added_cases : (set : RelSet) (r q : Rel) → has (adding set r) q ≡ true → (has set q ≡ true) ⊎ (r ≡ q)
added_cases set r q h = ⊎_elim (λ before. inl before) (λ now. inr (same_from r q now)) (or_cases (has set q) (same_rel r q) (sym (has_adding set r q) ∙ h))

-- a set has those of some relations of which something is so
abbrev pub HasThose : (Rel → Type 0) → List Rel → RelSet → Type 0
HasThose IsSo rels set = (q : Rel) → IsTrue (has set q) ↔ (Contains rels q × IsSo q)

-- one more relation, of which it is so
pub one_in : (IsSo : Rel → Type 0) (rels : List Rel) (r : Rel) (set : RelSet) → HasThose IsSo rels set → IsSo r → HasThose IsSo (rels ++ r ∷ []) (adding set r)
one_in IsSo rels r set has_those so q = (
  λ h. ⊎_elim
      (λ before. (Contains-append_left rels (r ∷ []) q ((has_those q).0 before).0, ((has_those q).0 before).1))
      (λ (now : r ≡ q). (subst (Contains (rels ++ r ∷ [])) now (Contains-push rels r), subst IsSo now so))
      (added_cases set r q h),
  λ h. ⊎_elim
      (λ before. added_stays set r q ((has_those q).1 (before, h.1)))
      (λ (now : r ≡ q). subst (λ x. has (adding set r) x ≡ true) now (added_there set r))
      (Contains-push_cases rels r q h.0),
)

-- and one of which it is not
pub one_out : (IsSo : Rel → Type 0) (rels : List Rel) (r : Rel) (set : RelSet) → HasThose IsSo rels set → (IsSo r → ⊥) → HasThose IsSo (rels ++ r ∷ []) set
one_out IsSo rels r set has_those out q = (
  λ h. (Contains-append_left rels (r ∷ []) q ((has_those q).0 h).0, ((has_those q).0 h).1),
  λ h. ⊎_elim
      (λ before. (has_those q).1 (before, h.1))
      (λ (now : r ≡ q). absurd (out (subst IsSo (sym now) h.1)))
      (Contains-push_cases rels r q h.0),
)

-- of each relation of a set it is so, and of one more
pub all_none : (IsSo : Rel → Type 0) → (q : Rel) → has no_rels q ≡ true → IsSo q
all_none IsSo q h = absurd (false≢true (sym (has_none q) ∙ h))

pub all_more : (IsSo : Rel → Type 0) (set : RelSet) (r : Rel) → ((q : Rel) → has set q ≡ true → IsSo q) → IsSo r → (q : Rel) → has (adding set r) q ≡ true → IsSo q
all_more IsSo set r all so q h = ⊎_elim (λ before. all q before) (λ (now : r ≡ q). subst IsSo now so) (added_cases set r q h)
