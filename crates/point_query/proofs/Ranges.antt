-- The literals of the given clauses are of the problem's variables.
use Rattle.std.proofs.Common.{◌≡◌, ℕ, ◌+◌, ◌*◌, ◌<◌, ◌≤◌, Bool, true, false, ◌&&◌, cond, List, [], ◌∷◌, ◌++◌, map, length, inl, inr, refl, sym, ap, subst, arith}
use Rattle.std.specs.Prelude.{◌==◌, nat_lt, Option, Some, None, flat_map}
use Rattle.std.specs.Option.{option_map, option_to_list}
use Rattle.std.specs.List.{list_all}
use Rattle.std.proofs.lemmas.Bool.{and_parts, ltb-true, cases_lt}
use Rattle.std.proofs.lemmas.List.{get_or_past}
use Rattle.lits_core.specs.Literals.{variable_of, literal_of}
use Rattle.lits_core.proofs.LiteralLemmas.{variable_of-literal_of}
use Rattle.world_model.specs.declared.Articulation.{Articulation}
use Rattle.world_model.specs.declared.Articulation.TheVariants.{Pair, Sum}
use Rattle.world_model.specs.Problem.{Problem, SumRule, concept_count, concepts, parent_of, children_of, pairs, as_sum, is_concept, is_cross, is_about_pair, is_articulation}
use Rattle.world_model.proofs.Members.{In, here, there, none_in, all_at, In-get_or, from_map, from_append, from_flat_map, from_filter_map, in_from_contains, IsImage, IsOf, IsGiven}
use Rattle.world_model.proofs.PointPairs.{concept_below, from_pairs}
use Rattle.constraint_set.specs.Facts.{IsBuilt}
use Rattle.constraint_set.specs.Readers.{all_sums}
use Rattle.watch_arena.specs.Trails.{AreInRange}
use Rattle.point_encode.specs.Model.Clauses.{is_so, is_not, within_clause, within_clauses, each_two, apart_clause, apart_clauses, covered_clause, covered_clauses, pair_clauses, pairs_clauses, sum_clauses, sums_clauses, first_sum_selector, given_clauses, variable_count}

-- the literals of a clause are of variables below v, and those of several clauses
abbrev IsBelow : ℕ → List ℕ → Type 0
IsBelow v clause = (lit : ℕ) → In lit clause → variable_of lit < v

abbrev AreBelow : ℕ → List (List ℕ) → Type 0
AreBelow v clauses = (clause : List ℕ) → In clause clauses → IsBelow v clause

below_none : (v : ℕ) → IsBelow v []
below_none v lit h = elim h [ ]

below_more : (v variable : ℕ) (negative : Bool) (clause : List ℕ) → variable < v → IsBelow v clause → IsBelow v (literal_of variable negative ∷ clause)
below_more v variable negative clause small rest lit (here e) = rw (e, variable_of-literal_of variable negative) small
below_more v variable negative clause small rest lit (there i) = rest lit i

are_below_none : (v : ℕ) → AreBelow v []
are_below_none v clause h = elim h [ ]

are_below_more : (v : ℕ) (first : List ℕ) (clauses : List (List ℕ)) → IsBelow v first → AreBelow v clauses → AreBelow v (first ∷ clauses)
are_below_more v first clauses one rest clause (here e) = subst (λ c. IsBelow v c) (sym e) one
are_below_more v first clauses one rest clause (there i) = rest clause i

are_below_two : (v : ℕ) (xs ys : List (List ℕ)) → AreBelow v xs → AreBelow v ys → AreBelow v (xs ++ ys)
are_below_two v xs ys f g clause h = elim (from_append xs h) [ inl i ↦ f clause i | inr i ↦ g clause i ]

-- each of some concepts, as literals
below_all : (v : ℕ) (cs : List ℕ) → ((c : ℕ) → In c cs → c < v) → IsBelow v (map is_so cs)
below_all v [] each = below_none v
below_all v (c ∷ cs) each = below_more v c false (map is_so cs) (each c (here refl)) (below_all v cs (λ d i. each d (there i)))

-- what is known of a problem's concepts
record HasConcepts (p : Problem) : Type 0 where
  parent : (c q : ℕ) → parent_of p c ≡ Some q → q < concept_count p
  child : (c d : ℕ) → In d (children_of p c) → d < concept_count p
  pair : (pair : ℕ × ℕ) → In pair (pairs p) → (pair.0 < concept_count p) × (pair.1 < concept_count p)
  whole : (s : SumRule) → In s (all_sums p) → s.whole < concept_count p
  part : (s : SumRule) (c : ℕ) → In s (all_sums p) → In c s.parts → c < concept_count p

below_within : (p : Problem) (v : ℕ) → concept_count p ≤ v → HasConcepts p → AreBelow v (within_clauses p)
below_within p v small has clause h =
    let of : IsOf (λ c. option_to_list (option_map (within_clause c) (parent_of p c))) clause (concepts p) = from_flat_map (λ c. option_to_list (option_map (within_clause c) (parent_of p c))) (concepts p) h in
    one of.source (concept_below p of.source of.member) (parent_of p of.source) refl of.has
  where
    one : (c : ℕ) → c < concept_count p → (parent : Option ℕ) → parent_of p c ≡ parent → In clause (option_to_list (option_map (within_clause c) parent)) → IsBelow v clause
    one c within None is i = elim i [ ]
    one c within (Some q) is i =
        are_below_more v (within_clause c q) []
        (below_more v c true (is_so q ∷ []) (omega arith) (below_more v q false [] (omega (arith, has.parent c q is)) (below_none v))) (are_below_none v) clause i

two_in : (xs : List ℕ) (two : ℕ × ℕ) → In two (each_two xs) → In two.0 xs × In two.1 xs
two_in [] two h = elim h [ ]
two_in (a ∷ rest) two h = elim (from_append (map (λ b. (a, b)) rest) h) [
  | inl i ↦ let image : IsImage (λ b. (a, b)) two rest = from_map (λ b. (a, b)) rest i in (here (ap (λ (t : ℕ × ℕ). t.0) image.is), there (subst (λ b. In b rest) (sym (ap (λ (t : ℕ × ℕ). t.1) image.is)) image.member))
  | inr i ↦ let both = two_in rest two i in (there both.0, there both.1)
]

below_apart : (p : Problem) (v : ℕ) → concept_count p ≤ v → HasConcepts p → AreBelow v (apart_clauses p)
below_apart p v small has = on p.switches.sibling
  where
    each : AreBelow v (flat_map (λ c. map apart_clause (each_two (children_of p c))) (concepts p))
    each clause h =
        let of : IsOf (λ c. map apart_clause (each_two (children_of p c))) clause (concepts p) = from_flat_map (λ c. map apart_clause (each_two (children_of p c))) (concepts p) h in
        let image : IsImage apart_clause clause (each_two (children_of p of.source)) = from_map apart_clause (each_two (children_of p of.source)) of.has in
        let both = two_in (children_of p of.source) image.source image.member in
        subst (λ c. IsBelow v c) (sym image.is)
        (below_more v image.source.0 true (is_not image.source.1 ∷ []) (omega (arith, has.child of.source image.source.0 both.0))
        (below_more v image.source.1 true [] (omega (arith, has.child of.source image.source.1 both.1)) (below_none v)))

    on : (b : Bool) → AreBelow v (cond b (flat_map (λ c. map apart_clause (each_two (children_of p c))) (concepts p)) [])
    on true = each
    on false = are_below_none v

below_covered : (p : Problem) (v : ℕ) → concept_count p ≤ v → HasConcepts p → AreBelow v (covered_clauses p)
below_covered p v small has = on p.switches.coverage
  where
    one : (c : ℕ) → c < concept_count p → (b : Bool) → AreBelow v (cond b [] (covered_clause c (children_of p c) ∷ []))
    one c within true = are_below_none v
    one c within false =
        are_below_more v (covered_clause c (children_of p c)) []
        (below_more v c true (map is_so (children_of p c)) (omega arith) (below_all v (children_of p c) (λ d i. omega (arith, has.child c d i)))) (are_below_none v)

    each : AreBelow v (flat_map (λ c. cond (length (children_of p c) == 0) [] (covered_clause c (children_of p c) ∷ [])) (concepts p))
    each clause h =
        let of : IsOf (λ c. cond (length (children_of p c) == 0) [] (covered_clause c (children_of p c) ∷ [])) clause (concepts p) =
        from_flat_map (λ c. cond (length (children_of p c) == 0) [] (covered_clause c (children_of p c) ∷ [])) (concepts p) h in
        one of.source (concept_below p of.source of.member) (length (children_of p of.source) == 0) clause of.has

    on : (b : Bool) → AreBelow v (cond b (flat_map (λ c. cond (length (children_of p c) == 0) [] (covered_clause c (children_of p c) ∷ [])) (concepts p)) [])
    on true = each
    on false = are_below_none v

below_pairs : (v n : ℕ) → n ≤ v → (first : ℕ) (ps : List (ℕ × ℕ)) → first + 3 * length ps ≤ v → ((pair : ℕ × ℕ) → In pair ps → (pair.0 < n) × (pair.1 < n)) →
    AreBelow v (pairs_clauses first ps)
below_pairs v n small first [] fits each = are_below_none v
below_pairs v n small first (pair ∷ rest) fits each =
    let two = each pair (here refl) in
    let left : pair.0 < v = omega (arith, two) in
    let right : pair.1 < v = omega (arith, two) in
    are_below_two v (pair_clauses first pair) (pairs_clauses (first + 3) rest)
    (are_below_more v (is_not first ∷ is_not pair.0 ∷ is_so pair.1 ∷ []) _
    (below_more v first true _ (omega arith) (below_more v pair.0 true _ left (below_more v pair.1 false [] right (below_none v))))
    (are_below_more v (is_not (first + 1) ∷ is_not pair.0 ∷ is_not pair.1 ∷ []) _
    (below_more v (first + 1) true _ (omega arith) (below_more v pair.0 true _ left (below_more v pair.1 true [] right (below_none v))))
    (are_below_more v (is_not (first + 2) ∷ is_so pair.0 ∷ is_not pair.1 ∷ []) []
    (below_more v (first + 2) true _ (omega arith) (below_more v pair.0 false _ left (below_more v pair.1 true [] right (below_none v))))
    (are_below_none v))))
    (below_pairs v n small (first + 3) rest (omega arith) (λ q i. each q (there i)))

below_sums : (v n : ℕ) → n ≤ v → (first : ℕ) (ss : List SumRule) → first + length ss ≤ v → ((s : SumRule) → In s ss → s.whole < n) →
    ((s : SumRule) (c : ℕ) → In s ss → In c s.parts → c < n) → AreBelow v (sums_clauses first ss)
below_sums v n small first [] fits whole part = are_below_none v
below_sums v n small first (s ∷ rest) fits whole part =
    let within : s.whole < v = omega (arith, whole s (here refl)) in
    are_below_two v (sum_clauses first s) (sums_clauses (first + 1) rest)
    (are_below_two v (map (λ c. is_not first ∷ is_not c ∷ is_so s.whole ∷ []) s.parts) ((is_not first ∷ is_not s.whole ∷ map is_so s.parts) ∷ [])
    (λ clause h.
    let image : IsImage (λ c. is_not first ∷ is_not c ∷ is_so s.whole ∷ []) clause s.parts = from_map (λ c. is_not first ∷ is_not c ∷ is_so s.whole ∷ []) s.parts h in
    subst (λ c. IsBelow v c) (sym image.is)
    (below_more v first true _ (omega arith) (below_more v image.source true _ (omega (arith, part s image.source (here refl) image.member)) (below_more v s.whole false [] within (below_none v)))))
    (are_below_more v (is_not first ∷ is_not s.whole ∷ map is_so s.parts) []
    (below_more v first true _ (omega arith) (below_more v s.whole true _ within (below_all v s.parts (λ c i. omega (arith, part s c (here refl) i))))) (are_below_none v)))
    (below_sums v n small (first + 1) rest (omega arith) (λ t i. whole t (there i)) (λ t c i j. part t c (there i) j))

-- the clauses are of the first variables
clauses_below : (p : Problem) → HasConcepts p → AreBelow (variable_count p) (given_clauses p)
clauses_below p has =
    let v = variable_count p in
    let small : concept_count p ≤ v = omega arith in
    are_below_two v (within_clauses p ++ apart_clauses p ++ covered_clauses p ++ pairs_clauses (concept_count p) (pairs p)) (sums_clauses (first_sum_selector p) (all_sums p))
    (are_below_two v (within_clauses p ++ apart_clauses p ++ covered_clauses p) (pairs_clauses (concept_count p) (pairs p))
    (are_below_two v (within_clauses p ++ apart_clauses p) (covered_clauses p)
    (are_below_two v (within_clauses p) (apart_clauses p) (below_within p v small has) (below_apart p v small has))
    (below_covered p v small has))
    (below_pairs v (concept_count p) small (concept_count p) (pairs p) (omega arith) has.pair))
    (below_sums v (concept_count p) small (first_sum_selector p) (all_sums p) (omega arith) has.whole has.part)

-- a problem's children and sums are of its concepts
child_below : (p : Problem) → list_all (list_all (is_concept p)) p.children ≡ true → (c d : ℕ) → In d (children_of p c) → d < concept_count p
child_below p h c d i = elim (cases_lt c (length p.children)) [
  | inr past ↦ absurd (none_in (subst (λ ds. In d ds) (get_or_past p.children c [] past) i))
  | inl within ↦ ltb-true d (concept_count p) (all_at (is_concept p) (all_at (list_all (is_concept p)) h (In-get_or p.children c [] within)) i)
]

sum_parts : (p : Problem) (a : Articulation) (s : SumRule) → is_articulation p a ≡ true → as_sum a ≡ Some s →
    (is_concept p s.whole ≡ true) × (list_all (λ part. is_concept p part && is_cross p (s.whole, part)) s.parts ≡ true)
sum_parts p (Pair left right set) s h e = absurd (cc)
sum_parts p (Sum whole parts) s h e =
    let same : record { whole = whole; parts = parts } ≡ s = cc in
    let all = and_parts (is_concept p whole && nat_lt 1 (length parts)) _ h in
    let first = and_parts (is_concept p whole) _ all.0 in
    subst (λ s. (is_concept p s.whole ≡ true) × (list_all (λ part. is_concept p part && is_cross p (s.whole, part)) s.parts ≡ true)) same
    (first.0, all.1)

sum_below : (p : Problem) → list_all (is_articulation p) p.articulations ≡ true → (s : SumRule) → In s (all_sums p) →
    (is_concept p s.whole ≡ true) × (list_all (λ part. is_concept p part && is_cross p (s.whole, part)) s.parts ≡ true)
sum_below p h s i =
    let given : IsGiven as_sum s p.articulations = from_filter_map as_sum p.articulations i in
    sum_parts p given.source s (all_at (is_articulation p) h given.member) given.is

has_concepts : (p : Problem) → IsBuilt p → HasConcepts p
has_concepts p built =
    let parts = and_parts _ (list_all (is_about_pair p) p.narrowings) built.valid in
    let said = and_parts _ (list_all (is_articulation p) p.articulations) parts.0 in
    let kept = and_parts _ (length p.kept == length p.articulations) said.0 in
    let children = and_parts _ (list_all (list_all (is_concept p)) p.children) kept.0 in
    record {
      parent = λ c q e. (built.parents_within c q e).0;
      child = child_below p children.1;
      pair = λ q i. let is = from_pairs p q i in (omega (arith, is.order, is.within), is.within);
      whole = λ s i. ltb-true s.whole (concept_count p) (sum_below p said.1 s i).0;
      part = λ s c i j. ltb-true c (concept_count p) (and_parts (is_concept p c) _ (all_at (λ part. is_concept p part && is_cross p (s.whole, part)) (sum_below p said.1 s i).1 j)).0;
    }

-- the literals of each given clause are of the problem's variables
pub given_in_range : (p : Problem) → IsBuilt p → (clause : List ℕ) → In clause (given_clauses p) → AreInRange clause (variable_count p)
given_in_range p built clause i lit h = clauses_below p (has_concepts p built) clause i lit (in_from_contains clause h)
