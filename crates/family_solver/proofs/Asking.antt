-- What the answers of the solver say of families.
use Rattle.std.proofs.Common.{◌≡◌, ℕ, ◌<◌, Bool, true, false, List, [], ◌∷◌, ◌++◌, length, get_or, ◌⊎◌, inl, inr, refl, sym, ap, ◌∙◌, subst, arith}
use Rattle.std.specs.Prelude.{IsTrue}
use Rattle.std.specs.List.{list_all}
use Rattle.std.proofs.lemmas.List.Elements.{Contains-push_cases}
use Rattle.rcc5_core.specs.declared.Rel.{Rel}
use Rattle.lits_core.specs.Derivation.{DerivedClausesFollow, LiteralsAreSets, state_after}
use Rattle.lits_core.specs.Literals.{lit_true, meets_all, negation_of, variable_of}
use Rattle.lits_core.proofs.LiteralLemmas.{negation-other, variable_of-literal_of, variable_of-negation}
use Rattle.learn_solver.specs.Solving.{AreConsistent, GoesTo, IsRefutation, SolverState}
use Rattle.point_encode.specs.Model.Clauses.{is_not, is_so}
use Rattle.watch_arena.specs.Trails.{AreInRange}
use Rattle.world_model.specs.Family.{Family, meets}
use Rattle.world_model.specs.Laws.{PairsStandOnce}
use Rattle.world_model.specs.Node.{pair_at}
use Rattle.world_model.specs.Problem.{Problem, concept_count, pairs}
use Rattle.world_model.proofs.Members.{all_from, contains_from_in}
use Rattle.family_solver.specs.Showing.{AreAssumed, IsBarred, IsFamilySolver, IsGround, IsHopeless, IsRuled, rel_variable, relation_at, truths, variable_count}
use Rattle.family_solver.specs.declared.ground.Ground.{Ground}
use Rattle.family_solver.specs.declared.solver.FamilySolver.{FamilySolver}
use Rattle.family_solver.proofs.Ruling.{none_there, rel_true, same_default, same_met}
use Rattle.family_solver.proofs.Truths.{number_small}

-- a call of the solver keeps what makes the given clauses true
pub given_stays : DerivedClausesFollow → LiteralsAreSets → (old new : SolverState) → GoesTo old new → (bits : List Bool) → meets_all bits new.state.given ≡ meets_all bits old.state.given
given_stays follow law old new goes bits =
    sym (same_met law bits (state_after old.state goes.added).given new.state.given goes.leads.after.same_given) ∙ ap (meets_all bits) (follow.given_stay old.state goes.added)

pub ruled_stays : DerivedClausesFollow → LiteralsAreSets → (p : Problem) (g : Ground) (old new : SolverState) → GoesTo old new → IsRuled p g old → IsRuled p g new
ruled_stays follow law p g old new goes ruled f more met = given_stays follow law old new goes (truths p g f more) ∙ ruled f more met

-- so it stays such a solver
pub solver_stays : DerivedClausesFollow → LiteralsAreSets → (p : Problem) (g : Ground) (one : FamilySolver) (mid new : SolverState) → mid ≡ record one.solver { waiting = [] } → GoesTo mid new → IsFamilySolver p g one →
    IsFamilySolver p g (record { solver = new })
solver_stays follow law p g one mid new is goes before = record {
  variables = omega (arith, goes.variables ∙ ap (λ s. s.variables) is, before.variables);
  ruled = ruled_stays follow law p g mid new goes (λ f more met. ap (λ s. meets_all (truths p g f more) s.state.given) is ∙ before.ruled f more met);
}

-- where no bits meet all clauses and some literals, no family makes these true
pub refuted : (p : Problem) (g : Ground) (new : SolverState) (lits : List ℕ) (id : ℕ) → IsFamilySolver p g (record { solver = new }) → IsRefutation new lits id → IsHopeless p g lits
refuted p g new lits id is refutation f more met holds = refutation.hopeless (truths p g f more) (is.ruled f more met) holds

-- a family with a relation makes true what is assumed for it
assumed_true : (p : Problem) (g : Ground) (place : ℕ) (rel : Rel) (lits : List ℕ) → AreAssumed p g place rel lits → place < length g.pairs.items →
    (pair_at p (get_or g.pairs.items place 0)).0 < concept_count p → (pair_at p (get_or g.pairs.items place 0)).1 < concept_count p → (f : Family) (more : List Bool) → relation_at p g.pairs.items f place ≡ rel →
    list_all (lit_true (truths p g f more)) lits ≡ true
assumed_true p g place rel lits assumed within left right f more has = all_from (lit_true (truths p g f more)) lits (λ lit i. elim (assumed lit (contains_from_in i)) [
  | inl is ↦ ap (lit_true (truths p g f more)) is ∙ rel_true p g f more place rel within has
  | inr barred ↦ ap (lit_true (truths p g f more)) barred.is ∙ none_there p g f more place rel barred.region (pair_at p (get_or g.pairs.items place 0)) barred.point has refl left right barred.empty barred.within barred.lies
])

-- so none has it where what is assumed is hopeless
pub refused : PairsStandOnce → (p : Problem) (g : Ground) → IsGround p g → (place : ℕ) (rel : Rel) (lits : List ℕ) → AreAssumed p g place rel lits → place < length g.pairs.items → IsHopeless p g lits →
    (f : Family) → IsTrue (meets p f) → relation_at p g.pairs.items f place ≡ rel → ⊥
refused law p g ground place rel lits assumed within hopeless f met has =
    let k = get_or g.pairs.items place 0 in
    let pair = pair_at p k in
    let small = law.no_others p pair.0 pair.1 (k, ground.pairs place 0 within, same_default (pairs p) k (pair.0, pair.1) (0, 0) (ground.pairs place 0 within)) in
    hopeless f [] met (assumed_true p g place rel lits assumed within (omega (arith, small)) small.1 f [] has)

-- the variable of what is assumed
so_variable : (g : Ground) (place : ℕ) (rel : Rel) (lit : ℕ) → lit ≡ is_so (rel_variable g place rel) → variable_of lit ≡ rel_variable g place rel
so_variable g place rel lit is = ap variable_of is ∙ variable_of-literal_of (rel_variable g place rel) false

not_variable : (point lit : ℕ) → lit ≡ is_not point → variable_of lit ≡ point
not_variable point lit is = ap variable_of is ∙ variable_of-literal_of point true

-- what is assumed is of the solver's variables
pub assumed_range : (p : Problem) (g : Ground) (place : ℕ) (rel : Rel) (lits : List ℕ) → AreAssumed p g place rel lits → place < length g.pairs.items → AreInRange lits (variable_count g)
assumed_range p g place rel lits assumed within lit there = elim (assumed lit there) [
  | inl is ↦ let small = number_small rel in omega (arith, so_variable g place rel lit is, small, within)
  | inr barred ↦ omega (arith, not_variable barred.point lit barred.is, barred.within)
]

-- and no literal of it stands beside its negation
pub assumed_consistent : (p : Problem) (g : Ground) (place : ℕ) (rel : Rel) (lits : List ℕ) → AreAssumed p g place rel lits → AreConsistent lits
assumed_consistent p g place rel lits assumed lit i j =
    let same = variable_of-negation lit in
    elim (assumed lit i) [
      | inl is ↦ elim (assumed (negation_of lit) j) [
        | inl other ↦ negation-other lit (other ∙ sym is)
        | inr barred ↦ omega (arith, so_variable g place rel lit is, not_variable barred.point (negation_of lit) barred.is, same, barred.within)
      ]
      | inr barred ↦ elim (assumed (negation_of lit) j) [
        | inl other ↦ omega (arith, so_variable g place rel (negation_of lit) other, not_variable barred.point lit barred.is, same, barred.within)
        | inr another ↦ negation-other lit (another.is ∙ ap is_not (sym (not_variable another.point (negation_of lit) another.is) ∙ same ∙ not_variable barred.point lit barred.is) ∙ sym barred.is)
      ]
    ]

-- one literal more is assumed
pub assumed_more : (p : Problem) (g : Ground) (place : ℕ) (rel : Rel) (lits : List ℕ) (lit : ℕ) → AreAssumed p g place rel lits → (lit ≡ is_so (rel_variable g place rel)) ⊎ IsBarred p g place rel lit → AreAssumed p g place rel (lits ++ lit ∷ [])
assumed_more p g place rel lits lit before is other there = elim (Contains-push_cases lits lit other there) [
  | inl old ↦ before other old
  | inr same ↦ subst (λ l. (l ≡ is_so (rel_variable g place rel)) ⊎ IsBarred p g place rel l) same is
]
