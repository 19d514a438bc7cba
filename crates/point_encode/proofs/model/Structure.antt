-- The clauses on the trees say just the rules of the trees.
use Rattle.std.proofs.Common.{◌≡◌, ◌≢◌, ℕ, suc, ◌<◌, ◌⊎◌, Bool, true, false, not, ◌&&◌, ◌||◌, cond, List, [], ◌∷◌, map, length, Option, None, Some, AllPairs, inl, inr, refl, sym, ap, ◌∙◌, subst, arith}
use Rattle.std.specs.Prelude.{◌==◌, flat_map}
use Rattle.std.specs.List.{list_all, list_any}
use Rattle.std.specs.Option.{option_map, option_to_list}
use Rattle.std.proofs.lemmas.Bool.{and_parts, or_cases, or_left, or_right, eqb-true, eq-eqb, ltb-true, cases_Bool, cases_lt, both_ways}
use Rattle.std.proofs.lemmas.List.{get_or_past}
use Rattle.lits_core.specs.Literals.{clause_true, meets_all}
use Rattle.world_model.specs.Problem.{Problem, concept_count, concepts, parent_of, children_of, is_problem, is_concept, is_articulation, is_about_pair}
use Rattle.world_model.specs.Family.{implies}
use Rattle.world_model.specs.Alive.{bit_of, point_within, point_apart, point_covered}
use Rattle.world_model.proofs.Members.{In, here, there, none_in, all_at, all_from, In-map, from_map, In-left, In-right, from_append, In-flat_map, from_flat_map, In-get_or, place_of, contains_from_in, in_from_contains, IsImage, IsOf}
use Rattle.world_model.proofs.PointPairs.{In-concepts, concept_below}
use Rattle.world_model.proofs.PointOnce.{IsDistinct}
use Rattle.constraint_set.specs.Facts.{IsBuilt}
use Rattle.point_encode.specs.Model.Clauses.{within_clause, within_clauses, each_two, apart_clause, apart_clauses, covered_clause, covered_clauses}
use Rattle.point_encode.proofs.model.Bits.{Agrees, within_true, apart_true, covered_true, any_same}

-- parts of what holds of every problem
pub record Valid (p : Problem) : Type 0 where
  pub children : list_all (list_all (is_concept p)) p.children ≡ true
  pub counted : length p.kept ≡ length p.articulations
  pub articulations : list_all (is_articulation p) p.articulations ≡ true

pub valid_parts : (p : Problem) → is_problem p ≡ true → Valid p
valid_parts p h =
    let a = and_parts _ (list_all (is_about_pair p) p.narrowings) h in
    let b = and_parts _ (list_all (is_articulation p) p.articulations) a.0 in
    let c = and_parts _ (length p.kept == length p.articulations) b.0 in
    let d = and_parts _ (list_all (list_all (is_concept p)) p.children) c.0 in
    record { children = d.1; counted = eqb-true (length p.kept) (length p.articulations) c.1; articulations = b.1 }

-- a child is a concept
pub child_below : (p : Problem) → IsBuilt p → (c child : ℕ) → In child (children_of p c) → child < concept_count p
child_below p built c child i = elim (cases_lt c (length p.children)) [
  | inl within ↦ ltb-true child (concept_count p) (all_at (is_concept p) (all_at (list_all (is_concept p)) (valid_parts p built.valid).children (In-get_or p.children c [] within)) i)
  | inr past ↦ absurd (none_in (subst (In child) (get_or_past p.children c [] past) i))
]

-- an implication between bits, from one list of bits to another
implies_same : {a b c d : Bool} → a ≡ b → c ≡ d → implies a c ≡ true → implies b d ≡ true
implies_same {a} {b} {c} {d} e f h = subst (λ x. implies b x ≡ true) f (subst (λ x. implies x c ≡ true) e h)

-- children in parents: the clauses of one concept
abbrev within_of : Problem → ℕ → List (List ℕ)
within_of p c = option_to_list (option_map (within_clause c) (parent_of p c))

abbrev child_within : List Bool → ℕ → ℕ → Bool
child_within point c child = implies (bit_of point child) (bit_of point c)

pub within_from : (p : Problem) → IsBuilt p → {point bits : List Bool} → Agrees (concept_count p) point bits → meets_all bits (within_clauses p) ≡ true → point_within p point ≡ true
within_from p built {point} {bits} g h =
    all_from (λ c. list_all (child_within point c) (children_of p c)) (concepts p) (λ c i. all_from (child_within point c) (children_of p c) (λ child j.
    let parent : parent_of p child ≡ Some c = (built.listed c child).0 (contains_from_in j) in
    let below = child_below p built c child j in
    let stands : In (within_clause child c) (within_of p child) = subst (λ o. In (within_clause child c) (option_to_list (option_map (within_clause child) o))) (sym parent) (here refl) in
    implies_same (sym (g.same child below)) (sym (g.same c (concept_below p c i)))
    (sym (within_true bits child c) ∙ all_at (clause_true bits) h (In-flat_map (within_of p) (In-concepts p child below) stands))))

pub within_to : (p : Problem) → IsBuilt p → {point bits : List Bool} → Agrees (concept_count p) point bits → point_within p point ≡ true → meets_all bits (within_clauses p) ≡ true
within_to p built {point} {bits} g h = all_from (clause_true bits) (within_clauses p) (λ clause i.
    let of : IsOf (within_of p) clause (concepts p) = from_flat_map (within_of p) (concepts p) i in
    one of.source (concept_below p of.source of.member) clause (parent_of p of.source) refl of.has)
  where
    one : (c : ℕ) → c < concept_count p → (clause : List ℕ) (o : Option ℕ) → parent_of p c ≡ o → In clause (option_to_list (option_map (within_clause c) o)) → clause_true bits clause ≡ true
    one c below clause None e i = absurd (none_in i)
    one c below clause (Some q) e (there i) = absurd (none_in i)
    one c below clause (Some q) e (here same) =
        let parent = built.parents_within c q e in
        let child : In c (children_of p q) = in_from_contains (children_of p q) ((built.listed q c).1 e) in
        ap (clause_true bits) same ∙ within_true bits c q
        ∙ implies_same (g.same c below) (g.same q parent.0)
        (all_at (child_within point q) (all_at (λ c. list_all (child_within point c) (children_of p c)) h (In-concepts p q parent.0)) child)

-- two of a list without repeats, in their order
no_repeats : (xs : List ℕ) → AllPairs (λ c d. c ≢ d) xs → IsDistinct xs
no_repeats [] h = tt
no_repeats (x ∷ xs) h = (
  (λ i. let r = place_of i in h 0 (suc r.place) x (omega arith) (omega (arith, r.within)) (sym (r.is x))),
  no_repeats xs (λ i j d a b. h (suc i) (suc j) d (omega arith) (omega arith)),
)

both_there : (xs : List ℕ) (a b : ℕ) → In a xs → In b xs → a ≢ b → In {X = ℕ × ℕ} (a, b) (each_two xs) ⊎ In {X = ℕ × ℕ} (b, a) (each_two xs)
both_there [] a b i j apart = absurd (none_in i)
both_there (x ∷ xs) a b (here e) (here f) apart = absurd (apart (e ∙ sym f))
both_there (x ∷ xs) a b (here e) (there j) apart =
    inl (In-left (each_two xs) (subst (λ y. In {X = ℕ × ℕ} (y, b) (map (λ (z : ℕ). (x, z)) xs)) (sym e) (In-map (λ (z : ℕ). (x, z)) j)))
both_there (x ∷ xs) a b (there i) (here f) apart =
    inr (In-left (each_two xs) (subst (λ y. In {X = ℕ × ℕ} (y, a) (map (λ (z : ℕ). (x, z)) xs)) (sym f) (In-map (λ (z : ℕ). (x, z)) i)))
both_there (x ∷ xs) a b (there i) (there j) apart = elim (both_there xs a b i j apart) [
  | inl l ↦ inl (In-right (map (λ (z : ℕ). (x, z)) xs) l)
  | inr r ↦ inr (In-right (map (λ (z : ℕ). (x, z)) xs) r)
]

record AreTwo (xs : List ℕ) (two : ℕ × ℕ) : Type 0 where
  left : In two.0 xs
  right : In two.1 xs
  differ : two.0 ≢ two.1

from_each_two : (xs : List ℕ) (two : ℕ × ℕ) → IsDistinct xs → In two (each_two xs) → AreTwo xs two
from_each_two [] two d i = absurd (none_in i)
from_each_two (x ∷ xs) two d i = elim (from_append (map (λ (z : ℕ). (x, z)) xs) i) [
  | inl now ↦
      let image : IsImage (λ (z : ℕ). (x, z)) two xs = from_map (λ (z : ℕ). (x, z)) xs now in
      let made : AreTwo (x ∷ xs) (x, image.source) = record { left = here refl; right = there image.member; differ = λ e. d.0 (subst (λ y. In y xs) (sym e) image.member) } in
      subst (AreTwo (x ∷ xs)) (sym image.is) made
  | inr later ↦ let r = from_each_two xs two d.1 later in record { left = there r.left; right = there r.right; differ = r.differ }
]

-- children apart
abbrev apart_at : List Bool → ℕ → ℕ → Bool
apart_at point a b = (a == b) || not (bit_of point a && bit_of point b)

abbrev apart_of : Problem → ℕ → List (List ℕ)
apart_of p c = map apart_clause (each_two (children_of p c))

abbrev apart_row : Problem → List Bool → ℕ → ℕ → Bool
apart_row p point c a = list_all (apart_at point a) (children_of p c)

not_both_same : {a b c d : Bool} → a ≡ b → c ≡ d → not (a && c) ≡ true → not (b && d) ≡ true
not_both_same {a} {b} {c} {d} e f h = subst (λ x. not (b && x) ≡ true) f (subst (λ x. not (x && c) ≡ true) e h)

turned : (a b : Bool) → not (a && b) ≡ true → not (b && a) ≡ true
turned true true h = h
turned true false h = refl
turned false true h = refl
turned false false h = refl

apart_from_all : (p : Problem) → IsBuilt p → {point bits : List Bool} → Agrees (concept_count p) point bits → meets_all bits (flat_map (apart_of p) (concepts p)) ≡ true → point_apart p point ≡ true
apart_from_all p built {point} {bits} g h =
    all_from (λ c. list_all (apart_row p point c) (children_of p c)) (concepts p) (λ c i. all_from (apart_row p point c) (children_of p c) (λ a j. all_from (apart_at point a) (children_of p c) (λ b k.
    elim (cases_Bool (a == b)) [
      | inl same ↦ or_left (a == b) (not (bit_of point a && bit_of point b)) same
      | inr other ↦ or_right (a == b) (not (bit_of point a && bit_of point b))
          (elim (both_there (children_of p c) a b j k (λ e. both_ways (a == b) other (eq-eqb a b e))) [
            | inl l ↦ not_both_same (sym (g.same a (child_below p built c a j))) (sym (g.same b (child_below p built c b k))) (clause c i (a, b) l)
            | inr r ↦ not_both_same (sym (g.same a (child_below p built c a j))) (sym (g.same b (child_below p built c b k))) (turned (bit_of bits b) (bit_of bits a) (clause c i (b, a) r))
          ])
    ])))
  where
    clause : (c : ℕ) → In c (concepts p) → (two : ℕ × ℕ) → In two (each_two (children_of p c)) → not (bit_of bits two.0 && bit_of bits two.1) ≡ true
    clause c i two t = sym (apart_true bits two) ∙ all_at (clause_true bits) h (In-flat_map (apart_of p) i (In-map apart_clause t))

apart_to_all : (p : Problem) → IsBuilt p → {point bits : List Bool} → Agrees (concept_count p) point bits → point_apart p point ≡ true → meets_all bits (flat_map (apart_of p) (concepts p)) ≡ true
apart_to_all p built {point} {bits} g h = all_from (clause_true bits) (flat_map (apart_of p) (concepts p)) (λ clause i.
    let of : IsOf (apart_of p) clause (concepts p) = from_flat_map (apart_of p) (concepts p) i in
    let c = of.source in
    let image : IsImage apart_clause clause (each_two (children_of p c)) = from_map apart_clause (each_two (children_of p c)) of.has in
    let two = image.source in
    let are = from_each_two (children_of p c) two (no_repeats (children_of p c) (built.once c)) image.member in
    let at = all_at (apart_at point two.0) (all_at (apart_row p point c) (all_at (λ c. list_all (apart_row p point c) (children_of p c)) h of.member) are.left) are.right in
    ap (clause_true bits) image.is ∙ apart_true bits two
    ∙ not_both_same (g.same two.0 (child_below p built c two.0 are.left)) (g.same two.1 (child_below p built c two.1 are.right)) (not_equal two.0 two.1 are.differ at))
  where
    not_equal : (a b : ℕ) → a ≢ b → apart_at point a b ≡ true → not (bit_of point a && bit_of point b) ≡ true
    not_equal a b differ at = elim (or_cases (a == b) (not (bit_of point a && bit_of point b)) at) [
      | inl same ↦ absurd (differ (eqb-true a b same))
      | inr none ↦ none
    ]

-- the rule and its clauses, where a switch may be off
switched_from : (on rule : Bool) (bits : List Bool) (clauses : List (List ℕ)) → (meets_all bits clauses ≡ true → rule ≡ true) → meets_all bits (cond on clauses []) ≡ true → implies on rule ≡ true
switched_from true rule bits clauses f h = f h
switched_from false rule bits clauses f h = refl

switched_to : (on rule : Bool) (bits : List Bool) (clauses : List (List ℕ)) → (rule ≡ true → meets_all bits clauses ≡ true) → implies on rule ≡ true → meets_all bits (cond on clauses []) ≡ true
switched_to true rule bits clauses f h = f h
switched_to false rule bits clauses f h = refl

pub apart_from : (p : Problem) → IsBuilt p → {point bits : List Bool} → Agrees (concept_count p) point bits → meets_all bits (apart_clauses p) ≡ true → implies p.switches.sibling (point_apart p point) ≡ true
apart_from p built {point} {bits} g h = switched_from p.switches.sibling (point_apart p point) bits (flat_map (apart_of p) (concepts p)) (apart_from_all p built g) h

pub apart_to : (p : Problem) → IsBuilt p → {point bits : List Bool} → Agrees (concept_count p) point bits → implies p.switches.sibling (point_apart p point) ≡ true → meets_all bits (apart_clauses p) ≡ true
apart_to p built {point} {bits} g h = switched_to p.switches.sibling (point_apart p point) bits (flat_map (apart_of p) (concepts p)) (apart_to_all p built g) h

-- parents covered
abbrev covered_at : Problem → List Bool → ℕ → Bool
covered_at p point c = (length (children_of p c) == 0) || implies (bit_of point c) (list_any (bit_of point) (children_of p c))

abbrev covered_of : Problem → ℕ → List (List ℕ)
covered_of p c = cond (length (children_of p c) == 0) [] (covered_clause c (children_of p c) ∷ [])

covered_same : (p : Problem) → IsBuilt p → {point bits : List Bool} → Agrees (concept_count p) point bits → (c : ℕ) → In c (concepts p) →
    implies (bit_of point c) (list_any (bit_of point) (children_of p c)) ≡ implies (bit_of bits c) (list_any (bit_of bits) (children_of p c))
covered_same p built {point} {bits} g c i =
    ap (λ b. implies b (list_any (bit_of point) (children_of p c))) (g.same c (concept_below p c i)) ∙ ap (implies (bit_of bits c)) (any_same g (children_of p c) (child_below p built c))

covered_from_all : (p : Problem) → IsBuilt p → {point bits : List Bool} → Agrees (concept_count p) point bits → meets_all bits (flat_map (covered_of p) (concepts p)) ≡ true → point_covered p point ≡ true
covered_from_all p built {point} {bits} g h = all_from (covered_at p point) (concepts p) (λ c i. elim (cases_Bool (length (children_of p c) == 0)) [
  | inl none ↦ or_left (length (children_of p c) == 0) (implies (bit_of point c) (list_any (bit_of point) (children_of p c))) none
  | inr some ↦
      let stands : In (covered_clause c (children_of p c)) (covered_of p c) = subst (λ b. In (covered_clause c (children_of p c)) (cond b [] (covered_clause c (children_of p c) ∷ []))) (sym some) (here refl) in
      or_right (length (children_of p c) == 0) (implies (bit_of point c) (list_any (bit_of point) (children_of p c)))
      (covered_same p built g c i ∙ sym (covered_true bits c (children_of p c)) ∙ all_at (clause_true bits) h (In-flat_map (covered_of p) i stands))
])

covered_to_all : (p : Problem) → IsBuilt p → {point bits : List Bool} → Agrees (concept_count p) point bits → point_covered p point ≡ true → meets_all bits (flat_map (covered_of p) (concepts p)) ≡ true
covered_to_all p built {point} {bits} g h = all_from (clause_true bits) (flat_map (covered_of p) (concepts p)) (λ clause i.
    let of : IsOf (covered_of p) clause (concepts p) = from_flat_map (covered_of p) (concepts p) i in
    one of.source of.member clause (length (children_of p of.source) == 0) (all_at (covered_at p point) h of.member) of.has)
  where
    one : (c : ℕ) → In c (concepts p) → (clause : List ℕ) (none : Bool) → (none || implies (bit_of point c) (list_any (bit_of point) (children_of p c))) ≡ true →
        In clause (cond none [] (covered_clause c (children_of p c) ∷ [])) → clause_true bits clause ≡ true
    one c i clause true e j = absurd (none_in j)
    one c i clause false e (there j) = absurd (none_in j)
    one c i clause false e (here same) = ap (clause_true bits) same ∙ covered_true bits c (children_of p c) ∙ sym (covered_same p built g c i) ∙ e

pub covered_from : (p : Problem) → IsBuilt p → {point bits : List Bool} → Agrees (concept_count p) point bits → meets_all bits (covered_clauses p) ≡ true → implies p.switches.coverage (point_covered p point) ≡ true
covered_from p built {point} {bits} g h = switched_from p.switches.coverage (point_covered p point) bits (flat_map (covered_of p) (concepts p)) (covered_from_all p built g) h

pub covered_to : (p : Problem) → IsBuilt p → {point bits : List Bool} → Agrees (concept_count p) point bits → implies p.switches.coverage (point_covered p point) ≡ true → meets_all bits (covered_clauses p) ≡ true
covered_to p built {point} {bits} g h = switched_to p.switches.coverage (point_covered p point) bits (flat_map (covered_of p) (concepts p)) (covered_to_all p built g) h
