-- What families make of the clauses on articulations.
use Rattle.std.proofs.Common.{◌≡◌, ℕ, suc, zero, ◌+◌, ◌<◌, Bool, true, false, ◌&&◌, not, List, [], ◌∷◌, ◌++◌, length, map, get_or, ◌⊎◌, inl, inr, refl, sym, ap, ◌∙◌, subst}
use Rattle.std.specs.Prelude.{Contains, Some, nat_lt, slice_get}
use Rattle.std.specs.List.{items_where_true, list_all, list_any}
use Rattle.std.proofs.lemmas.Bool.{and_from, and_parts, both_ways, false_from_ne_true, ltb-true, not-true}
use Rattle.std.proofs.lemmas.List.Folds.{list_all-append}
use Rattle.std.proofs.lemmas.Option.{same_Some}
use Rattle.rcc5_core.specs.Relation.{is_in, is_subset, relation_of}
use Rattle.rcc5_core.specs.RelationSet.{has}
use Rattle.rcc5_core.specs.declared.RelSet.{RelSet}
use Rattle.lits_core.specs.Derivation.{LiteralsAreSets, SameDerived}
use Rattle.lits_core.specs.Literals.{clause_true, meets_all}
use Rattle.learn_solver.specs.Solving.{AddsGiven, SolverState}
use Rattle.point_encode.specs.Model.Clauses.{is_not, is_so}
use Rattle.point_encode.proofs.model.Bits.{not_true}
use Rattle.world_model.specs.declared.Articulation.TheVariants.{Pair, Sum}
use Rattle.world_model.specs.Alive.{bit_of, point_at, point_sums, same_bool}
use Rattle.world_model.specs.Family.{Family, holds, meets, set_of, sum_holds}
use Rattle.world_model.specs.Node.{pair_at}
use Rattle.world_model.specs.Problem.{Problem, SumRule, as_constraint, as_sum, concept_count, is_articulation, is_concept, is_cross, restricted}
use Rattle.world_model.proofs.Members.{In, all_at, any_at, any_from, here, there, In-filter_map, In-left}
use Rattle.world_model.proofs.PointFamilies.{in_from_is, subset_at}
use Rattle.world_model.proofs.PointRules.{met_parts, same_bool_from}
use Rattle.family_solver.specs.Showing.{IsBegun, IsRule, has_point, rel_variable, relation_at, truths, variable_count}
use Rattle.family_solver.specs.declared.ground.Ground.{Ground}
use Rattle.family_solver.proofs.Ruling.{clause_by, none_derived, rel_true, same_met}
use Rattle.family_solver.proofs.Truths.{its_element, more_bit, point_bit}
use Rattle.family_solver.specs.Kept.Keeping.{IsBegunKept, IsSoKept, IsWithin, bare, flag_variable}
use Rattle.family_solver.proofs.kept.Fewer.{met_fewer}

-- no flag is true in a list of false ones
within_none : {X : Type 0} (xs : List X) (more : List Bool) → IsWithin (map (λ _. false) xs) more
within_none [] more k h = cc
within_none (x ∷ xs) more zero h = let no : Some false ≡ Some true = h in absurd (cc)
within_none (x ∷ xs) [] (suc k) h = within_none xs [] k h
within_none (x ∷ xs) (b ∷ more) (suc k) h = within_none xs more k h

-- what every family makes true that meets the problem with no articulation kept, each does that meets it with some
pub begun_kept : (p : Problem) (g : Ground) (s : SolverState) → IsBegun (bare p) g s → s.variables ≡ variable_count g + length p.articulations → IsBegunKept p g s
begun_kept p g s begun exact = record {
  variables = exact;
  derived = begun.derived;
  waiting = begun.waiting;
  ruled = λ kept flags f met. begun.ruled f kept (met_fewer p (map (λ _. false) p.articulations) kept f (within_none p.articulations kept) met);
}

-- one more given clause
pub kept_more : LiteralsAreSets → (p : Problem) (g : Ground) (old new : SolverState) (lits : List ℕ) → IsBegunKept p g old → AddsGiven old new lits → IsSoKept p g lits → IsBegunKept p g new
kept_more law p g old new lits begun adds holds = record {
  variables = adds.variables ∙ begun.variables;
  derived = none_derived new.state.derived (subst (λ ds. SameDerived ds new.state.derived) begun.derived adds.given.same_derived);
  waiting = adds.waiting ∙ begun.waiting;
  ruled = λ kept flags f met.
      let bits = truths (bare p) g f kept in
      sym (same_met law bits (old.state.given ++ lits ∷ []) new.state.given adds.given.same_given) ∙ list_all-append (clause_true bits) old.state.given (lits ∷ []) ∙
      and_from (meets_all bits old.state.given) (clause_true bits lits && true) (begun.ruled kept flags f met) (and_from (clause_true bits lits) true (holds kept flags f met) refl);
}

-- an articulation is kept or not
kept_or_not : (kept : List Bool) (place : ℕ) → (slice_get kept place ≡ Some true) ⊎ (bit_of kept place ≡ false)
kept_or_not [] place = inr refl
kept_or_not (true ∷ kept) zero = inl refl
kept_or_not (false ∷ kept) zero = inr refl
kept_or_not (b ∷ kept) (suc place) = kept_or_not kept place

-- where it is, it is one of those that are kept
kept_in : {X : Type 0} (kept : List Bool) (xs : List X) (place : ℕ) (x : X) → slice_get kept place ≡ Some true → slice_get xs place ≡ Some x → In x (items_where_true kept xs)
kept_in [] xs place x on at = absurd (cc)
kept_in (b ∷ kept) [] place x on at = absurd (cc)
kept_in (true ∷ kept) (y ∷ xs) zero x on at = here (sym (same_Some y x at))
kept_in (false ∷ kept) (y ∷ xs) zero x on at = absurd (cc)
kept_in (true ∷ kept) (y ∷ xs) (suc place) x on at = there (kept_in kept xs place x on at)
kept_in (false ∷ kept) (y ∷ xs) (suc place) x on at = kept_in kept xs place x on at

-- where it is not, its clauses are true
not_kept : (p : Problem) (g : Ground) (f : Family) (kept : List Bool) (index : ℕ) (lits : List ℕ) → bit_of kept index ≡ false → Contains lits (is_not (flag_variable g index)) → clause_true (truths (bare p) g f kept) lits ≡ true
not_kept p g f kept index lits off denied =
    clause_by (truths (bare p) g f kept) lits (is_not (flag_variable g index)) denied (not_true (truths (bare p) g f kept) (flag_variable g index) ∙ ap not (more_bit (bare p) g f kept index ∙ off))

-- a kept pair has one of its relations
pair_holds : (p : Problem) (kept : List Bool) (f : Family) → meets (restricted p kept) f ≡ true → (index left right : ℕ) (set : RelSet) → slice_get kept index ≡ Some true →
    slice_get p.articulations index ≡ Some (Pair left right set) → has set (relation_of (set_of f left) (set_of f right)) ≡ true
pair_holds p kept f met index left right set on at =
    all_at (holds f) (met_parts (restricted p kept) f met).said (In-left p.narrowings (In-filter_map as_constraint (kept_in kept p.articulations index (Pair left right set) on at) refl))

-- so the clause on it is true
pub related_so : (p : Problem) (g : Ground) (place index : ℕ) (pair : ℕ × ℕ) (set : RelSet) (lits new : List ℕ) → IsRule g place set lits → ((lit : ℕ) → Contains lits lit → Contains new lit) →
    Contains new (is_not (flag_variable g index)) → place < length g.pairs.items → pair_at p (get_or g.pairs.items place 0) ≡ pair → slice_get p.articulations index ≡ Some (Pair pair.0 pair.1 set) → IsSoKept p g new
related_so p g place index pair set lits new rule stay denied within at said kept flags f met = elim (kept_or_not kept index) [
  | inl on ↦
      let rel = relation_at (bare p) g.pairs.items f place in
      let allows : has set rel ≡ true = ap (λ q. has set (relation_of (set_of f q.0) (set_of f q.1))) at ∙ pair_holds p kept f met index pair.0 pair.1 set on said in
      clause_by (truths (bare p) g f kept) new (is_so (rel_variable g place rel)) (stay (is_so (rel_variable g place rel)) (rule.each rel allows)) (rel_true (bare p) g f kept place rel within refl)
  | inr off ↦ not_kept p g f kept index new off denied
]

-- a kept sum holds
sum_kept : (p : Problem) (kept : List Bool) (f : Family) → meets (restricted p kept) f ≡ true → (index whole : ℕ) (parts : List ℕ) → slice_get kept index ≡ Some true →
    slice_get p.articulations index ≡ Some (Sum whole parts) → sum_holds f (record { whole = whole; parts = parts }) ≡ true
sum_kept p kept f met index whole parts on at =
    all_at (sum_holds f) (met_parts (restricted p kept) f met).summed (In-filter_map as_sum (kept_in kept p.articulations index (Sum whole parts) on at) refl)

-- no point of an element breaks it
point_keeps : (f : Family) (sum : SumRule) → sum_holds f sum ≡ true → (x : ℕ) (bits : List Bool) → is_in x (set_of f sum.whole) ≡ bit_of bits sum.whole →
    ((part : ℕ) → In part sum.parts → is_in x (set_of f part) ≡ bit_of bits part) → point_sums bits sum ≡ true
point_keeps f sum h x bits whole same =
    let both = and_parts (list_all (λ x. list_any (λ part. is_in x (set_of f part)) sum.parts) (set_of f sum.whole)) (list_all (λ part. is_subset (set_of f part) (set_of f sum.whole)) sum.parts) h in
    same_bool_from (bit_of bits sum.whole) (list_any (bit_of bits) sum.parts)
    (λ b. let found = any_at (λ part. is_in x (set_of f part)) sum.parts (all_at (λ x. list_any (λ part. is_in x (set_of f part)) sum.parts) both.0 (in_from_is x (set_of f sum.whole) (whole ∙ b))) in
    any_from (bit_of bits) found.member (sym (same found.item found.member) ∙ found.passes))
    (λ any. let found = any_at (bit_of bits) sum.parts any in
    sym whole ∙ subset_at (set_of f found.item) (set_of f sum.whole) x (all_at (λ part. is_subset (set_of f part) (set_of f sum.whole)) both.1 found.member) (same found.item found.member ∙ found.passes))

-- so the clause on one that does is true
pub barred_so : (p : Problem) (g : Ground) (index point whole : ℕ) (parts lits : List ℕ) → slice_get p.articulations index ≡ Some (Sum whole parts) → is_articulation p (Sum whole parts) ≡ true →
    point < length g.points.items → not (point_sums (point_at g.points.items point) (record { whole = whole; parts = parts })) ≡ true → Contains lits (is_not (flag_variable g index)) → Contains lits (is_not point) → IsSoKept p g lits
barred_so p g index point whole parts lits said fit within breaks denied barred kept flags f met = elim (kept_or_not kept index) [
  | inl on ↦
      let bits = point_at g.points.items point in
      let none : has_point (bare p) f bits ≡ false = false_from_ne_true (has_point (bare p) f bits) (λ h. keeps (its_element (bare p) f bits h) on) in
      clause_by (truths (bare p) g f kept) lits (is_not point) barred (not_true (truths (bare p) g f kept) point ∙ ap not (point_bit (bare p) g f kept point within ∙ none))
  | inr off ↦ not_kept p g f kept index lits off denied
]
  where
    in_range : (part : ℕ) → In part parts → part < concept_count p
    in_range part i =
        let each = (and_parts (is_concept p whole && nat_lt 1 (length parts)) (list_all (λ part. is_concept p part && is_cross p (whole, part)) parts) fit).1 in
        ltb-true part (concept_count p) (and_parts (is_concept p part) (is_cross p (whole, part)) (all_at (λ part. is_concept p part && is_cross p (whole, part)) each i)).0

    whole_in_range : whole < concept_count p
    whole_in_range =
        let first = (and_parts (is_concept p whole && nat_lt 1 (length parts)) (list_all (λ part. is_concept p part && is_cross p (whole, part)) parts) fit).0 in
        ltb-true whole (concept_count p) (and_parts (is_concept p whole) (nat_lt 1 (length parts)) first).0

    keeps : (x : ℕ) × ((c : ℕ) → c < concept_count p → is_in x (set_of f c) ≡ bit_of (point_at g.points.items point) c) → slice_get kept index ≡ Some true → ⊥
    keeps x on =
        let bits = point_at g.points.items point in
        both_ways (point_sums bits (record { whole = whole; parts = parts })) (not-true (point_sums bits (record { whole = whole; parts = parts })) breaks)
        (point_keeps f (record { whole = whole; parts = parts }) (sum_kept p kept f met index whole parts on said) x.0 bits (x.1 whole whole_in_range) (λ part i. x.1 part (in_range part i)))

-- whether a point breaks a sum, by whether it lies in the whole
pub breaks_within : (point : List Bool) (sum : SumRule) (whole part : Bool) → whole ≡ bit_of point sum.whole → part ≡ list_any (bit_of point) sum.parts → whole ≡ true → not part ≡ not (point_sums point sum)
breaks_within point sum whole part one two on = ap not (within part) ∙ ap (λ a. not (same_bool a part)) (sym on ∙ one) ∙ ap (λ b. not (same_bool (bit_of point sum.whole) b)) two
  where
    within : (b : Bool) → b ≡ same_bool true b
    within true = refl
    within false = refl

pub breaks_outside : (point : List Bool) (sum : SumRule) (whole part : Bool) → whole ≡ bit_of point sum.whole → part ≡ list_any (bit_of point) sum.parts → whole ≡ false → part ≡ not (point_sums point sum)
breaks_outside point sum whole part one two off = outside part ∙ ap (λ a. not (same_bool a part)) (sym off ∙ one) ∙ ap (λ b. not (same_bool (bit_of point sum.whole) b)) two
  where
    outside : (b : Bool) → b ≡ not (same_bool false b)
    outside true = refl
    outside false = refl
