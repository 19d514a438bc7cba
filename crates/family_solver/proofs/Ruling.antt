-- What families make of the clauses that a solver is given.
use Rattle.std.proofs.Common.{◌≡◌, ℕ, zero, suc, ◌<◌, ◌≤◌, Bool, true, false, ◌&&◌, not, List, [], ◌∷◌, ◌++◌, length, get_or, ◌⊎◌, inl, inr, refl, sym, ap, ◌∙◌, subst, arith}
use Rattle.std.specs.Prelude.{Contains, ◌==◌}
use Rattle.std.proofs.lemmas.Bool.{and_from, cases_Bool, eq-eqb, eqb-true, false_from_ne_true, false≢true}
use Rattle.std.proofs.lemmas.List.Folds.{list_all-append}
use Rattle.rcc5_core.specs.Region.{forced_regions, row_of, same_word, word_at}
use Rattle.rcc5_core.specs.Relation.{have_common, is_subset, rank_of, relation_by, relation_of}
use Rattle.rcc5_core.specs.RelationSet.{has}
use Rattle.rcc5_core.specs.declared.Occupancy.TheVariants.{Empty, Occupied}
use Rattle.rcc5_core.specs.declared.Region.{Region}
use Rattle.rcc5_core.specs.declared.Region.TheVariants.{Both}
use Rattle.rcc5_core.specs.declared.Rel.{Rel}
use Rattle.rcc5_core.specs.declared.RelSet.{RelSet}
use Rattle.rcc5_core.proofs.Sets.{relation_of-by}
use Rattle.lits_core.specs.Derivation.{LiteralsAreSets, SameDerived, SameGiven}
use Rattle.lits_core.specs.Literals.{clause_true, lit_true, meets_all}
use Rattle.learn_solver.specs.Solving.{AddsGiven, SolverState}
use Rattle.point_encode.specs.Model.Clauses.{is_not, is_so}
use Rattle.point_encode.proofs.model.Bits.{not_true, so_true}
use Rattle.watch_arena.specs.Trails.{AreInRange}
use Rattle.world_model.specs.Alive.{allowed, lies_in, point_at}
use Rattle.world_model.specs.Family.{Family, none_empty, set_of}
use Rattle.world_model.specs.Laws.{TrialIsRight}
use Rattle.world_model.specs.Node.{pair_at}
use Rattle.world_model.specs.Problem.{Problem, concept_count}
use Rattle.world_model.proofs.Members.{In-range, all_at, any_at, any_from, contains_from_in, in_from_contains}
use Rattle.world_model.proofs.PointAlive.{element_is_point, forced_so, related}
use Rattle.world_model.proofs.PointFamilies.{bits_at, bits_show, common_from, is_seen, lies_shown, seen_at}
use Rattle.world_model.proofs.PointRules.{Met, an_element, met_parts}
use Rattle.world_model.proofs.PointSets.{Forces, implies_at, row_seen, word_of}
use Rattle.family_solver.specs.Showing.{HasPoints, IsBegun, IsGround, IsRule, IsSo, IsSoOrSeen, has_point, rel_variable, relation_at, truths}
use Rattle.family_solver.specs.declared.ground.Ground.{Ground}
use Rattle.family_solver.proofs.Truths.{element_is_seen, has_own, lies_small, point_bit, point_is_seen, rel_bit, same_number, sets_full}

-- bits meet clauses alike that differ in the order of literals
pub same_met : LiteralsAreSets → (bits : List Bool) (a b : List (List ℕ)) → SameGiven a b → meets_all bits a ≡ meets_all bits b
same_met law bits [] [] g = refl
same_met law bits [] (b ∷ bs) g = absurd g
same_met law bits (a ∷ more) [] g = absurd g
same_met law bits (a ∷ more) (b ∷ bs) g =
    ap (λ t. t && meets_all bits more) (law.truth bits a b g.0) ∙ ap (λ t. clause_true bits b && t) (same_met law bits more bs g.1)

-- what is alike to no derived clauses is none
pub none_derived : (entries : List (ℕ × List ℕ)) → SameDerived [] entries → entries ≡ []
none_derived [] e = refl
none_derived (entry ∷ entries) e = absurd e

-- one more given clause
pub begun_more : LiteralsAreSets → (p : Problem) (g : Ground) (old new : SolverState) (lits : List ℕ) → IsBegun p g old → AddsGiven old new lits → IsSo p g lits → IsBegun p g new
begun_more law p g old new lits begun adds holds = record {
  variables = omega (arith, adds.variables, begun.variables);
  derived = none_derived new.state.derived (subst (λ ds. SameDerived ds new.state.derived) begun.derived adds.given.same_derived);
  waiting = adds.waiting ∙ begun.waiting;
  ruled = λ f more met.
      let bits = truths p g f more in
      sym (same_met law bits (old.state.given ++ lits ∷ []) new.state.given adds.given.same_given) ∙ list_all-append (clause_true bits) old.state.given (lits ∷ []) ∙
      and_from (meets_all bits old.state.given) (clause_true bits lits && true) (begun.ruled f more met) (and_from (clause_true bits lits) true (holds f more met) refl);
}

-- a true literal makes its clause true
pub clause_by : (bits : List Bool) (lits : List ℕ) (lit : ℕ) → Contains lits lit → lit_true bits lit ≡ true → clause_true bits lits ≡ true
clause_by bits lits lit there holds = any_from (lit_true bits) (in_from_contains lits there) holds

-- so a clause with more literals is true
more_true : (bits : List Bool) (lits new : List ℕ) → ((lit : ℕ) → Contains lits lit → Contains new lit) → clause_true bits lits ≡ true → clause_true bits new ≡ true
more_true bits lits new stay holds =
    let found = any_lit bits lits holds in
    clause_by bits new found.0 (stay found.0 found.1) found.2
  where
    any_lit : (bits : List Bool) (lits : List ℕ) → clause_true bits lits ≡ true → (lit : ℕ) × Contains lits lit × (lit_true bits lit ≡ true)
    any_lit bits lits h =
        let found = any_at (lit_true bits) lits h in
        (found.item, contains_from_in found.member, found.passes)

-- literals of some variables are of more
pub range_more : (lits : List ℕ) (count more : ℕ) → count ≤ more → AreInRange lits count → AreInRange lits more
range_more lits count more below range lit there = let small = range lit there in omega (arith, below, small)

-- a default does not matter within a list
pub same_default : {X : Type 0} (xs : List X) (k : ℕ) (d e : X) → k < length xs → get_or xs k d ≡ get_or xs k e
same_default [] k d e h = absurd (omega arith)
same_default (x ∷ xs) zero d e h = refl
same_default (x ∷ xs) (suc k) d e h = same_default xs k d e (omega (arith, h))

-- where a region has an element, the clause of its points is true
seen_true : TrialIsRight → (p : Problem) (g : Ground) → IsGround p g → (pair : ℕ × ℕ) (region : Region) (new : List ℕ) → HasPoints g.points.items (length g.points.items) pair region new →
    (f : Family) (more : List Bool) → Met p f → is_seen region (set_of f pair.0) (set_of f pair.1) ≡ true → clause_true (truths p g f more) new ≡ true
seen_true law p g ground pair region new points f more m seen =
    let s = bits_show p f (sets_full p f m.fits) in
    let x = seen_at region (set_of f pair.0) (set_of f pair.1) seen in
    let bits = bits_at p f x.0 in
    let k : Contains g.points.items bits = subst (λ ps. Contains ps bits) (sym ground.points) ((law.points p bits).1 (element_is_point p f m x.0)) in
    let at : point_at g.points.items k.0 ≡ bits = same_default g.points.items k.0 [] bits k.1 ∙ k.2 in
    let lies : lies_in region pair (point_at g.points.items k.0) ≡ true = ap (lies_in region pair) at ∙ lies_shown s region pair x.0 ∙ x.1 in
    let has : has_point p f (point_at g.points.items k.0) ≡ true = ap (has_point p f) at ∙ has_own p f m.fits x.0 (lies_small p f m.fits region pair x.0 x.1) in
    clause_by (truths p g f more) new (is_so k.0) (points k.0 k.1 lies) (so_true (truths p g f more) k.0 ∙ point_bit p g f more k.0 k.1 ∙ has)

-- the clause of a region is true
pub region_true : TrialIsRight → (p : Problem) (g : Ground) → IsGround p g → (pair : ℕ × ℕ) (region : Region) (lits new : List ℕ) → ((lit : ℕ) → Contains lits lit → Contains new lit) →
    HasPoints g.points.items (length g.points.items) pair region new → IsSoOrSeen p g lits pair region → IsSo p g new
region_true law p g ground pair region lits new stay points so f more met = elim (so f more met) [
  | inl holds ↦ more_true (truths p g f more) lits new stay holds
  | inr seen ↦ seen_true law p g ground pair region new points f more (met_parts p f met) (sym (element_is_seen region (set_of f pair.0) (set_of f pair.1)) ∙ seen)
]

-- each concept has an element, where that is on
pub concept_seen : (p : Problem) (g : Ground) (lits : List ℕ) (c : ℕ) → p.switches.nonempty ≡ true → c < concept_count p → IsSoOrSeen p g lits (c, c) Both
concept_seen p g lits c on small f more met =
    let m = met_parts p f met in
    let x = an_element (set_of f c) (all_at (λ c. not (length (set_of f c) == 0)) (implies_at p.switches.nonempty (none_empty p f) m.nonempty on) (In-range 0 (concept_count p) c (omega arith) (omega (arith, small)))) in
    inr (common_from (set_of f c) (set_of f c) x.0 x.1 x.1)

-- a region that a pair forces occupied has an element
pub forced_is_seen : (p : Problem) (g : Ground) (lits : List ℕ) (pair : ℕ × ℕ) (region : Region) → same_word (word_at (forced_regions (allowed p pair)) region) Occupied ≡ true → IsSoOrSeen p g lits pair region
forced_is_seen p g lits pair region is f more met =
    let forces : Forces (allowed p pair) region true = record { same = is } in
    inr (element_is_seen region (set_of f pair.0) (set_of f pair.1) ∙ forced_so p f (met_parts p f met).said pair region true forces)

-- what a relation says of a region is so where a family has it
pub rel_seen : (p : Problem) (pairs : List ℕ) (f : Family) (place : ℕ) (rel : Rel) (region : Region) (b : Bool) (pair : ℕ × ℕ) → pair ≡ pair_at p (get_or pairs place 0) → relation_at p pairs f place ≡ rel →
    same_word (word_at (row_of rel) region) (word_of b) ≡ true → is_seen region (set_of f pair.0) (set_of f pair.1) ≡ b
rel_seen p pairs f place rel region b pair at has says =
    let xs = set_of f pair.0 in
    let ys = set_of f pair.1 in
    let same : rel ≡ relation_by (not (is_subset xs ys)) (have_common xs ys) (not (is_subset ys xs)) =
    sym has ∙ ap (λ q. relation_of (set_of f q.0) (set_of f q.1)) (sym at) ∙ relation_of-by xs ys in
    row_seen (not (is_subset xs ys)) (have_common xs ys) (not (is_subset ys xs)) region b (ap (λ r. same_word (word_at (row_of r) region) (word_of b)) (sym same) ∙ says)

-- a family has a relation, or the literal that it has not is true
pub rel_or_not : (p : Problem) (g : Ground) (f : Family) (more : List Bool) (place : ℕ) (rel : Rel) → place < length g.pairs.items →
    (relation_at p g.pairs.items f place ≡ rel) ⊎ (lit_true (truths p g f more) (is_not (rel_variable g place rel)) ≡ true)
rel_or_not p g f more place rel within = elim (cases_Bool (rank_of (relation_at p g.pairs.items f place) == rank_of rel)) [
  | inl same ↦ inl (same_number (relation_at p g.pairs.items f place) rel (eqb-true _ _ same))
  | inr other ↦ inr (not_true (truths p g f more) (rel_variable g place rel) ∙ ap not (rel_bit p g f more place rel within ∙ other))
]

-- a region has an element that a relation says has one, or the relation is not there
pub occupied_seen : (p : Problem) (g : Ground) (place : ℕ) (rel : Rel) (region : Region) (pair : ℕ × ℕ) (lits : List ℕ) → place < length g.pairs.items → pair ≡ pair_at p (get_or g.pairs.items place 0) →
    same_word (word_at (row_of rel) region) Occupied ≡ true → Contains lits (is_not (rel_variable g place rel)) → IsSoOrSeen p g lits pair region
occupied_seen p g place rel region pair lits within at is there f more met = elim (rel_or_not p g f more place rel within) [
  | inl has ↦ inr (element_is_seen region (set_of f pair.0) (set_of f pair.1) ∙ rel_seen p g.pairs.items f place rel region true pair at has is)
  | inr holds ↦ inl (clause_by (truths p g f more) lits (is_not (rel_variable g place rel)) there holds)
]

-- where a family has a relation, it has no point in a region that the relation says is empty
pub none_there : (p : Problem) (g : Ground) (f : Family) (more : List Bool) (place : ℕ) (rel : Rel) (region : Region) (pair : ℕ × ℕ) (k : ℕ) → relation_at p g.pairs.items f place ≡ rel → pair ≡ pair_at p (get_or g.pairs.items place 0) →
    pair.0 < concept_count p → pair.1 < concept_count p → same_word (word_at (row_of rel) region) Empty ≡ true → k < length g.points.items → lies_in region pair (point_at g.points.items k) ≡ true →
    lit_true (truths p g f more) (is_not k) ≡ true
none_there p g f more place rel region pair k has at left right says within lies =
    let empty = rel_seen p g.pairs.items f place rel region false pair at has says in
    let none : has_point p f (point_at g.points.items k) ≡ false = false_from_ne_true (has_point p f (point_at g.points.items k)) (λ h.
    false≢true (sym empty ∙ point_is_seen p f (point_at g.points.items k) h region pair left right lies)) in
    not_true (truths p g f more) k ∙ ap not (point_bit p g f more k within ∙ none)

-- so the clause on that is true
pub barred_true : (p : Problem) (g : Ground) (place : ℕ) (rel : Rel) (region : Region) (pair : ℕ × ℕ) (k : ℕ) (lits : List ℕ) → place < length g.pairs.items → pair ≡ pair_at p (get_or g.pairs.items place 0) →
    pair.0 < concept_count p → pair.1 < concept_count p → same_word (word_at (row_of rel) region) Empty ≡ true → k < length g.points.items → lies_in region pair (point_at g.points.items k) ≡ true →
    Contains lits (is_not (rel_variable g place rel)) → Contains lits (is_not k) → IsSo p g lits
barred_true p g place rel region pair k lits small at left right is within lies one two f more met = elim (rel_or_not p g f more place rel small) [
  | inl has ↦ clause_by (truths p g f more) lits (is_not k) two (none_there p g f more place rel region pair k has at left right is within lies)
  | inr holds ↦ clause_by (truths p g f more) lits (is_not (rel_variable g place rel)) one holds
]

-- where a family has a relation, its literal is true
pub rel_true : (p : Problem) (g : Ground) (f : Family) (more : List Bool) (place : ℕ) (rel : Rel) → place < length g.pairs.items → relation_at p g.pairs.items f place ≡ rel → lit_true (truths p g f more) (is_so (rel_variable g place rel)) ≡ true
rel_true p g f more place rel within has =
    so_true (truths p g f more) (rel_variable g place rel) ∙ rel_bit p g f more place rel within ∙ eq-eqb (rank_of (relation_at p g.pairs.items f place)) (rank_of rel) (ap rank_of has)

-- a pair has a relation that it allows
pub rule_true : (p : Problem) (g : Ground) (place : ℕ) (set : RelSet) (lits : List ℕ) → IsRule g place set lits → place < length g.pairs.items → set ≡ allowed p (pair_at p (get_or g.pairs.items place 0)) → IsSo p g lits
rule_true p g place set lits rule within is f more met =
    let rel = relation_at p g.pairs.items f place in
    let allows : has set rel ≡ true = ap (λ s. has s rel) is ∙ related p f (met_parts p f met).said (pair_at p (get_or g.pairs.items place 0)) in
    clause_by (truths p g f more) lits (is_so (rel_variable g place rel)) (rule.each rel allows) (rel_true p g f more place rel within refl)
