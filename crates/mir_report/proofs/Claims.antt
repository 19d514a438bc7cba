-- The claims for the pairs, relation by relation and pair by pair.
use Rattle.std.proofs.Common.{◌≡◌, ℕ, ◌+◌, ◌↔◌, Bool, true, false, cond, List, [], ◌∷◌, ◌++◌, map, length, ◌⊎◌, inl, inr, Some, zero, suc, refl, sym, ap, ap₂, ◌∙◌, subst, arith, IsTrue, append_assoc, append-nil, slice_get, filter}
use Rattle.std.proofs.lemmas.List.{map-append}
use Rattle.std.proofs.lemmas.List.Elements.{filter-append, Contains-append_left, Contains-push}
use Rattle.rcc5_core.specs.declared.Rel.{Rel}
use Rattle.rcc5_core.specs.declared.RelSet.{RelSet}
use Rattle.rcc5_core.specs.RelationSet.{has}
use Rattle.world_model.specs.Problem.{Problem}
use Rattle.world_model.specs.Alive.{allowed}
use Rattle.world_model.specs.Node.{pair_at}
use Rattle.world_model.specs.Questions.{IsPossibleRelation}
use Rattle.world_model.proofs.Members.{In, here, there, contains_from_in}
use Rattle.world_model.proofs.PointSets.{same_bool_at}
use Rattle.world_model.proofs.PointRules.{same_bool_from}
use Rattle.point_query.proofs.Choosing.{HasThose}
use Rattle.cert_text.specs.declared.line.Subject.TheVariants.{Narrowed}
use Rattle.cert_rules.specs.ClaimLists.{Claim}
use Rattle.mir_report.specs.Possible.{IsPossibleSet, pair_claims, claims_from}
use Rattle.mir_report.specs.Steps.{claim_of, claims_of, claim_if_allowed}

same_truth : (a b : Bool) → (a ≡ true → b ≡ true) → (b ≡ true → a ≡ true) → a ≡ b
same_truth a b to back = same_bool_at a b (same_bool_from a b to back)

-- sets that agree on some relations make the same claims
same_claims : (p : Problem) (pair : ℕ) (set other : RelSet) (rels : List Rel) → ((q : Rel) → In q rels → has set q ≡ has other q) → claims_of p pair set rels ≡ claims_of p pair other rels
same_claims p pair set other [] agree = refl
same_claims p pair set other (rel ∷ rels) agree =
    by (has (allowed p (pair_at p pair)) rel) (filter (has (allowed p (pair_at p pair))) rels) (agree rel (here refl)) (same_claims p pair set other rels (λ q i. agree q (there i)))
  where
    by : (b : Bool) (rest : List Rel) → has set rel ≡ has other rel → map (claim_of pair set) rest ≡ map (claim_of pair other) rest →
        map (claim_of pair set) (cond b (rel ∷ rest) rest) ≡ map (claim_of pair other) (cond b (rel ∷ rest) rest)
    by true rest one more = ap₂ (λ (holds : Bool) (claims : List Claim). record { subject = Narrowed pair rel; holds = holds } ∷ claims) one more
    by false rest one more = more

-- one more relation
claims_more : (p : Problem) (pair : ℕ) (set : RelSet) (rels : List Rel) (rel : Rel) →
    claims_of p pair set (rels ++ rel ∷ []) ≡ claims_of p pair set rels ++ claim_if_allowed p pair rel (has set rel)
claims_more p pair set rels rel =
    let allows = has (allowed p (pair_at p pair)) in
    ap (map (claim_of pair set)) (filter-append allows rels (rel ∷ []))
    ∙ map-append (claim_of pair set) (filter allows rels) (filter allows (rel ∷ []))
    ∙ ap (λ claims. claims_of p pair set rels ++ claims) (by (allows rel))
  where
    by : (b : Bool) → map (claim_of pair set) (cond b (rel ∷ []) []) ≡ cond b (claim_of pair set rel ∷ []) []
    by true = refl
    by false = refl

-- a set of the possible ones among some relations, and one for one more relation
pub claims_step : (p : Problem) (pair : ℕ) (set other : RelSet) (rels : List Rel) (rel : Rel) (some : Bool) → HasThose (IsPossibleRelation p pair) rels set →
    HasThose (IsPossibleRelation p pair) (rels ++ rel ∷ []) other → (IsTrue some ↔ IsPossibleRelation p pair rel) →
    claims_of p pair other (rels ++ rel ∷ []) ≡ claims_of p pair set rels ++ claim_if_allowed p pair rel some
claims_step p pair set other rels rel some old new known =
    claims_more p pair other rels rel
    ∙ ap₂ (λ claims holds. claims ++ claim_if_allowed p pair rel holds)
    (same_claims p pair other set rels (λ q i. same_truth (has other q) (has set q)
    (λ h. (old q).1 (contains_from_in i, ((new q).0 h).1))
    (λ h. (new q).1 (Contains-append_left rels (rel ∷ []) q (contains_from_in i), ((old q).0 h).1))))
    (same_truth (has other rel) some (λ h. known.1 ((new rel).0 h).1) (λ h. (new rel).1 (Contains-push rels rel, known.0 h)))

-- one more pair
claims_from_more : (p : Problem) (pair : ℕ) (sets : List RelSet) (set : RelSet) → claims_from p pair (sets ++ set ∷ []) ≡ claims_from p pair sets ++ pair_claims p (pair + length sets) set
claims_from_more p pair [] set =
    let same : pair ≡ pair + length {A = RelSet} [] = omega arith in
    append-nil (pair_claims p pair set) ∙ ap (λ k. pair_claims p k set) same
claims_from_more p pair (first ∷ sets) set =
    let same : pair + 1 + length sets ≡ pair + length (first ∷ sets) = omega arith in
    ap (λ claims. pair_claims p pair first ++ claims) (claims_from_more p (pair + 1) sets set ∙ ap (λ k. claims_from p (pair + 1) sets ++ pair_claims p k set) same)
    ∙ sym (append_assoc (pair_claims p pair first) (claims_from p (pair + 1) sets) (pair_claims p (pair + length (first ∷ sets)) set))

pub claims_next : (p : Problem) (pair : ℕ) (sets : List RelSet) (set : RelSet) → length sets ≡ pair → claims_from p 0 (sets ++ set ∷ []) ≡ claims_from p 0 sets ++ pair_claims p pair set
claims_next p pair sets set counted =
    let same : 0 + length sets ≡ pair = omega (arith, counted) in
    claims_from_more p 0 sets set ∙ ap (λ k. claims_from p 0 sets ++ pair_claims p k set) same

-- what stands in a list with one more behind
got_more : (sets : List RelSet) (set : RelSet) (k : ℕ) (one : RelSet) → slice_get (sets ++ set ∷ []) k ≡ Some one → (slice_get sets k ≡ Some one) ⊎ ((k ≡ length sets) × (set ≡ one))
got_more [] set zero one e = inr (refl, cc)
got_more [] set (suc k) one e = cc
got_more (first ∷ sets) set zero one e = inl e
got_more (first ∷ sets) set (suc k) one e = elim (got_more sets set k one e) [
  | inl before ↦ inl before
  | inr last ↦ inr (let at = last.0 in omega (arith, at), last.1)
]

-- the possible sets of the first pairs, and of one more
pub sets_more : (p : Problem) (pair : ℕ) (sets : List RelSet) (set : RelSet) → ((k : ℕ) (one : RelSet) → slice_get sets k ≡ Some one → IsPossibleSet p k one) → length sets ≡ pair → IsPossibleSet p pair set →
    (k : ℕ) (one : RelSet) → slice_get (sets ++ set ∷ []) k ≡ Some one → IsPossibleSet p k one
sets_more p pair sets set each counted is k one got = elim (got_more sets set k one got) [
  | inl before ↦ each k one before
  | inr last ↦ subst (λ one. IsPossibleSet p k one) last.1 (subst (λ k. IsPossibleSet p k set) (sym (last.0 ∙ counted)) is)
]
