-- What families make of the clauses that a solver is given.
use Rattle.std.proofs.Common.{◌≡◌, ℕ, zero, suc, ◌+◌, ◌*◌, ◌/◌, ◌%◌, ◌<◌, Bool, true, false, ◌&&◌, ◌||◌, not, List, [], ◌∷◌, ◌++◌, length, get_or, take, inl, inr, refl, sym, ap, ◌∙◌, subst, arith}
use Rattle.std.specs.Prelude.{All, Contains, IsTrue, ◌==◌}
use Rattle.std.proofs.lemmas.Bool.{and_from, cases_Bool, eq-eqb, eqb-true, true≢false}
use Rattle.std.proofs.lemmas.List.{map-append, take_more}
use Rattle.std.proofs.lemmas.List.Elements.{All-push, Contains-push_cases}
use Rattle.std.proofs.lemmas.List.Folds.{list_all-append, list_any_at}
use Rattle.std.proofs.lemmas.List.FromFn.{get_or-map-range_with_len}
use Rattle.rcc5_core.specs.RelationSet.{has}
use Rattle.rcc5_core.specs.declared.Rel.{Rel}
use Rattle.rcc5_core.specs.declared.Rel.TheVariants.{Disjoint, Equals, IncludedIn, Includes, Overlaps}
use Rattle.rcc5_core.specs.declared.RelSet.{RelSet}
use Rattle.lits_core.specs.Derivation.{LiteralsAreSets, SameDerived}
use Rattle.lits_core.specs.Literals.{clause_true, lit_true, meets_all}
use Rattle.learn_solver.specs.Solving.{AddsGiven, SolverState}
use Rattle.point_encode.specs.Model.Clauses.{is_not, is_so}
use Rattle.point_encode.proofs.model.Bits.{not_true, so_true}
use Rattle.watch_arena.specs.Trails.{AreInRange}
use Rattle.world_model.specs.Alive.{allowed, bit_of}
use Rattle.world_model.specs.Family.{Family, meets}
use Rattle.world_model.specs.Node.{pair_at}
use Rattle.world_model.specs.Problem.{Problem}
use Rattle.world_model.proofs.PointAlive.{related}
use Rattle.world_model.proofs.PointRules.{met_parts}
use Rattle.point_query.proofs.Querying.{same_met}
use Rattle.pick_search.specs.Picking.{IsClash, ArePicksRuled, IsRule, Makes, ban_clause, made_bits, pick_variable, rel_number, relation_at}
use Rattle.pick_search.specs.declared.picks.Pick.{Pick}

-- relations have different numbers, below five
number_small : (rel : Rel) → rel_number rel < 5
number_small Equals = omega arith
number_small Includes = omega arith
number_small IncludedIn = omega arith
number_small Overlaps = omega arith
number_small Disjoint = omega arith

abbrev of_number : ℕ → Rel
of_number zero = Equals
of_number (suc zero) = Includes
of_number (suc (suc zero)) = IncludedIn
of_number (suc (suc (suc zero))) = Overlaps
of_number (suc (suc (suc (suc n)))) = Disjoint

numbered : (rel : Rel) → of_number (rel_number rel) ≡ rel
numbered Equals = refl
numbered Includes = refl
numbered IncludedIn = refl
numbered Overlaps = refl
numbered Disjoint = refl

same_number : (a b : Rel) → rel_number a ≡ rel_number b → a ≡ b
same_number a b same = sym (numbered a) ∙ ap of_number same ∙ numbered b

-- the bit of a pick says whether the family makes it
made_bit : (p : Problem) (pairs : List ℕ) (f : Family) (place : ℕ) (rel : Rel) → place < length pairs →
    bit_of (made_bits p pairs f) (pick_variable place rel) ≡ (rel_number (relation_at p pairs f place) == rel_number rel)
made_bit p pairs f place rel within =
    let small = number_small rel in
    let v = pick_variable place rel in
    let at : v / 5 ≡ place = omega (arith, small) in
    let rest : v % 5 ≡ rel_number rel = omega (arith, small) in
    get_or-map-range_with_len (λ k. rel_number (relation_at p pairs f (k / 5)) == k % 5) 0 (5 * length pairs) v v false (omega (arith, small, within)) (omega arith) ∙
    ap (λ k. rel_number (relation_at p pairs f k) == v % 5) at ∙ ap (λ k. rel_number (relation_at p pairs f place) == k) rest

-- a family that meets the problem makes a pick at each place that the pair allows
pub rule_true : (p : Problem) (pairs : List ℕ) (place pair : ℕ) (set : RelSet) (lits : List ℕ) → IsRule place set lits → place < length pairs → pair ≡ get_or pairs place 0 → set ≡ allowed p (pair_at p pair) →
    (f : Family) → IsTrue (meets p f) → clause_true (made_bits p pairs f) lits ≡ true
rule_true p pairs place pair set lits rule within at is f met =
    let rel = relation_at p pairs f place in
    let bits = made_bits p pairs f in
    let m = met_parts p f met in
    let allows : has set rel ≡ true = ap (λ s. has s rel) (is ∙ ap (λ k. allowed p (pair_at p k)) at) ∙ related p f m.said (pair_at p (get_or pairs place 0)) in
    let there = rule.each rel allows in
    let true_there : lit_true bits (is_so (pick_variable place rel)) ≡ true =
    so_true bits (pick_variable place rel) ∙ made_bit p pairs f place rel within ∙ eq-eqb (rel_number rel) (rel_number rel) refl in
    list_any_at (lit_true bits) lits there.0 (is_so (pick_variable place rel)) there.1 (ap (lit_true bits) there.2 ∙ true_there)

-- and does not make all picks that clash
pub ban_true : (p : Problem) (pairs : List ℕ) (picks : List Pick) → IsClash p pairs picks → All (λ pick. pick.place < length pairs) picks → (f : Family) → IsTrue (meets p f) →
    clause_true (made_bits p pairs f) (ban_clause picks) ≡ true
ban_true p pairs picks clash within f met = elim (cases_Bool (clause_true (made_bits p pairs f) (ban_clause picks))) [
  | inl holds ↦ holds
  | inr fails ↦ absurd (clash f met (made picks within fails))
]
  where
    made_one : (pick : Pick) → pick.place < length pairs → lit_true (made_bits p pairs f) (is_not (pick_variable pick.place pick.rel)) ≡ false → Makes p pairs f pick
    made_one pick small fails =
        let same = rel_number (relation_at p pairs f pick.place) == rel_number pick.rel in
        let there : not same ≡ false = ap not (sym (made_bit p pairs f pick.place pick.rel small)) ∙ sym (not_true (made_bits p pairs f) (pick_variable pick.place pick.rel)) ∙ fails in
        same_number (relation_at p pairs f pick.place) pick.rel (eqb-true _ _ (not_false same there))
      where
        not_false : (b : Bool) → not b ≡ false → b ≡ true
        not_false true h = refl
        not_false false h = absurd (true≢false h)

    made : (picks : List Pick) → All (λ pick. pick.place < length pairs) picks → clause_true (made_bits p pairs f) (ban_clause picks) ≡ false → All (Makes p pairs f) picks
    made picks small fails = λ k d within. made_one (get_or picks k d) (small k d within) (none_there picks fails k d within)
      where
        or_none : (a b : Bool) → (a || b) ≡ false → (a ≡ false) × (b ≡ false)
        or_none true b h = absurd (true≢false h)
        or_none false b h = (refl, h)

        none_there : (picks : List Pick) → clause_true (made_bits p pairs f) (ban_clause picks) ≡ false → (k : ℕ) (d : Pick) → k < length picks →
            lit_true (made_bits p pairs f) (is_not (pick_variable (get_or picks k d).place (get_or picks k d).rel)) ≡ false
        none_there [] fails k d within = absurd (omega (arith, within))
        none_there (pick ∷ picks) fails zero d within = (or_none (lit_true (made_bits p pairs f) (is_not (pick_variable pick.place pick.rel))) (clause_true (made_bits p pairs f) (ban_clause picks)) fails).0
        none_there (pick ∷ picks) fails (suc k) d within =
            none_there picks (or_none (lit_true (made_bits p pairs f) (is_not (pick_variable pick.place pick.rel))) (clause_true (made_bits p pairs f) (ban_clause picks)) fails).1 k d (omega (arith, within))

-- one more given clause
pub ready_more : LiteralsAreSets → (p : Problem) (pairs : List ℕ) (old new : SolverState) (lits : List ℕ) → ArePicksRuled p pairs old → AddsGiven old new lits →
    ((f : Family) → IsTrue (meets p f) → clause_true (made_bits p pairs f) lits ≡ true) → ArePicksRuled p pairs new
ready_more law p pairs old new lits ready adds holds = record {
  variables = adds.variables ∙ ready.variables;
  derived = none new.state.derived (subst (λ ds. SameDerived ds new.state.derived) ready.derived adds.given.same_derived);
  waiting = adds.waiting ∙ ready.waiting;
  ruled = λ f met.
      let bits = made_bits p pairs f in
      sym (same_met law bits (old.state.given ++ lits ∷ []) new.state.given adds.given.same_given) ∙ list_all-append (clause_true bits) old.state.given (lits ∷ []) ∙
      and_from (meets_all bits old.state.given) (clause_true bits lits && true) (ready.ruled f met) (and_from (clause_true bits lits) true (holds f met) refl);
}
  where
    none : (entries : List (ℕ × List ℕ)) → SameDerived [] entries → entries ≡ []
    none [] e = refl
    none (entry ∷ entries) e = absurd e

-- the clause of one pick more
pub banned_more : (picks : List Pick) (i : ℕ) (d : Pick) (lits new : List ℕ) (lit : ℕ) → i < length picks → lits ≡ ban_clause (take i picks) → new ≡ lits ++ lit ∷ [] →
    lit ≡ is_not (pick_variable (get_or picks i d).place (get_or picks i d).rel) → new ≡ ban_clause (take (i + 1) picks)
banned_more picks i d lits new lit within so step is =
    step ∙ ap (λ ls. ls ++ lit ∷ []) so ∙ ap (λ l. ban_clause (take i picks) ++ l ∷ []) is ∙
    sym (ap ban_clause (take_more picks i d within) ∙ map-append (λ pick. is_not (pick_variable pick.place pick.rel)) (take i picks) (get_or picks i d ∷ []))

pub placed_more : (picks : List Pick) (count i : ℕ) (d : Pick) → i < length picks → All (λ pick. pick.place < count) (take i picks) → (get_or picks i d).place < count → All (λ pick. pick.place < count) (take (i + 1) picks)
placed_more picks count i d within before small = subst (All (λ pick. pick.place < count)) (sym (take_more picks i d within)) (All-push (λ pick. pick.place < count) (take i picks) (get_or picks i d) before small)

pub ranged_more : (lits new : List ℕ) (lit count place : ℕ) (rel : Rel) → AreInRange lits (5 * count) → new ≡ lits ++ lit ∷ [] → lit ≡ is_not (pick_variable place rel) → place < count → AreInRange new (5 * count)
ranged_more lits new lit count place rel before step is small other there =
    elim (Contains-push_cases lits lit other (subst (λ ls. Contains ls other) step there)) [
      | inl old ↦ before other old
      | inr same ↦ let few = number_small rel in omega (arith, sym same, is, few, small)
    ]
