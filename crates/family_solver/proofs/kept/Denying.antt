-- What the answers of the solver say of articulations.
use Rattle.std.proofs.Common.{◌≡◌, ℕ, zero, suc, ◌+◌, ◌-◌, ◌<◌, ◌≤◌, Bool, true, false, not, List, [], ◌∷◌, ◌++◌, length, inl, inr, get_or, set, refl, sym, ap, ◌∙◌, subst, arith}
use Rattle.std.specs.Prelude.{Contains, MatchOption, None, Option, Some, slice_get}
use Rattle.std.proofs.lemmas.Bool.{false≢true}
use Rattle.std.proofs.lemmas.Bool.Decides.{nat_tests}
use Rattle.std.proofs.lemmas.List.Elements.{Contains-get_or, Contains-push_cases}
use Rattle.std.proofs.lemmas.Option.{get_or_from_slice_get, slice_get-get_or, slice_get_within}
use Rattle.lits_core.specs.Derivation.{DerivedClausesFollow, DerivedFollow, LiteralsAreSets, live_clause}
use Rattle.lits_core.specs.Literals.{lit_true, meets_all, negation_of, variable_of}
use Rattle.lits_core.proofs.DerivationLemmas.{live-true}
use Rattle.lits_core.proofs.LiteralLemmas.{negation-negation, negation-other, variable_of-literal_of, variable_of-negation}
use Rattle.learn_solver.specs.Solving.{AreConsistent, GoesTo, IsClosedBy, IsRefutation, SolverState}
use Rattle.point_encode.specs.Model.Clauses.{is_not, is_so}
use Rattle.point_encode.proofs.model.Bits.{not_true}
use Rattle.watch_arena.specs.Trails.{AreInRange}
use Rattle.world_model.specs.Alive.{bit_of}
use Rattle.world_model.specs.Problem.{Problem}
use Rattle.world_model.specs.Questions.{HasFlags, IsConsistent}
use Rattle.world_model.proofs.Members.{any_at, contains_from_in}
use Rattle.family_solver.specs.Showing.{truths, variable_count}
use Rattle.family_solver.specs.declared.ground.Ground.{Ground}
use Rattle.family_solver.proofs.Asking.{given_stays}
use Rattle.family_solver.proofs.Truths.{more_bit}
use Rattle.family_solver.specs.Kept.Keeping.{AreAssumed, AreDenied, IsAssumed, IsClash, IsCore, IsDenied, IsKeptSolver, IsRuledKept, IsWithin, bare, flag_variable}
use Rattle.family_solver.specs.declared.kept.solver.KeptSolver.{KeptSolver}

-- a flag that is read as true
pub on_true : (flags : List Bool) (place : ℕ) (d : Bool) → place < length flags → get_or flags place d ≡ true → slice_get flags place ≡ Some true
on_true flags place d small on = slice_get-get_or flags place d small ∙ ap Some on

-- a call of the solver keeps what it is
pub kept_goes : DerivedClausesFollow → LiteralsAreSets → (p : Problem) (one : KeptSolver) (new : SolverState) → GoesTo one.solver new → IsKeptSolver p one → IsKeptSolver p (record one { solver = new })
kept_goes follow law p one new goes before = record {
  ground = before.ground;
  few = before.few;
  variables = goes.variables ∙ before.variables;
  ruled = λ kept flags f met. given_stays follow law one.solver new goes (truths (bare p) one.ground f kept) ∙ before.ruled kept flags f met;
}

pub kept_stays : DerivedClausesFollow → LiteralsAreSets → (p : Problem) (one : KeptSolver) (mid new : SolverState) → mid ≡ record one.solver { waiting = [] } → GoesTo mid new → IsKeptSolver p one → IsKeptSolver p (record one { solver = new })
kept_stays follow law p one mid new is goes before = record {
  ground = before.ground;
  few = before.few;
  variables = goes.variables ∙ ap (λ s. s.variables) is ∙ before.variables;
  ruled = λ kept flags f met.
      let bits = truths (bare p) one.ground f kept in
      given_stays follow law mid new goes bits ∙ ap (λ s. meets_all bits s.state.given) is ∙ before.ruled kept flags f met;
}

-- what is assumed is of the solver's variables
pub assumed_range : (g : Ground) (kept : List Bool) (lits : List ℕ) → AreAssumed g kept lits → AreInRange lits (variable_count g + length kept)
assumed_range g kept lits assumed lit there =
    let a = assumed lit there in
    let within = slice_get_within kept a.place true a.on in
    omega (arith, ap variable_of a.is ∙ variable_of-literal_of (flag_variable g a.place) false, within)

-- no literal of it stands beside its negation
pub assumed_consistent : (g : Ground) (kept : List Bool) (lits : List ℕ) → AreAssumed g kept lits → AreConsistent lits
assumed_consistent g kept lits assumed lit i j =
    let a = assumed lit i in
    let b = assumed (negation_of lit) j in
    let one : variable_of lit ≡ flag_variable g a.place = ap variable_of a.is ∙ variable_of-literal_of (flag_variable g a.place) false in
    let two : variable_of (negation_of lit) ≡ flag_variable g b.place = ap variable_of b.is ∙ variable_of-literal_of (flag_variable g b.place) false in
    negation-other lit (b.is ∙ ap is_so (sym two ∙ variable_of-negation lit ∙ one) ∙ sym a.is)

negated : (v : ℕ) → negation_of (is_so v) ≡ is_not v
unfolding negation_of
negated v = grind (arith, nat_tests)

-- a clause that the assumptions make false says of kept articulations that they are not
pub closed_denied : (g : Ground) (kept : List Bool) (lits clause : List ℕ) → AreAssumed g kept lits → IsClosedBy lits clause → AreDenied g kept clause
closed_denied g kept lits clause assumed closed lit there =
    let a = assumed (negation_of lit) (closed lit there) in
    record { place = a.place; on = a.on; is = sym (negation-negation lit) ∙ ap negation_of a.is ∙ negated (flag_variable g a.place) }

-- the clause of a refutation
pub refutation_denied : (g : Ground) (kept : List Bool) (s : SolverState) (lits : List ℕ) (id : ℕ) (clause : List ℕ) → AreAssumed g kept lits → IsRefutation s lits id → live_clause s.state id ≡ Some clause → AreDenied g kept clause
refutation_denied g kept s lits id clause assumed refutation live =
    closed_denied g kept lits clause assumed (subst (λ o. MatchOption o ⊥ (IsClosedBy lits)) live refutation.named)

true_bit : (kept : List Bool) (place : ℕ) → slice_get kept place ≡ Some true → bit_of kept place ≡ true
true_bit kept place on = get_or_from_slice_get kept place true false on

-- no family meets the problem with the articulations kept of which a live clause says that they are not
pub core_conflicts : (p : Problem) (g : Ground) (s : SolverState) → IsRuledKept p g s → DerivedFollow s.state → (id : ℕ) (clause : List ℕ) → live_clause s.state id ≡ Some clause →
    (core : List Bool) → HasFlags p core → AreDenied g core clause → IsConsistent p core → ⊥
core_conflicts p g s ruled follow id clause live core flags denied consistent =
    let f = consistent.0 in
    let bits = truths (bare p) g f core in
    let given = ruled core flags f consistent.1 in
    let found = any_at (lit_true bits) clause (live-true s.state bits given (follow bits given) id clause live) in
    let d = denied found.item (contains_from_in found.member) in
    false≢true (sym (ap (lit_true bits) d.is ∙ not_true bits (flag_variable g d.place) ∙ ap not (more_bit (bare p) g f core d.place ∙ true_bit core d.place d.on)) ∙ found.passes)

pub clashes : (p : Problem) (g : Ground) (s : SolverState) → IsRuledKept p g s → DerivedFollow s.state → (id : ℕ) (clause : List ℕ) → live_clause s.state id ≡ Some clause →
    (kept core : List Bool) → HasFlags p kept → IsCore g kept clause core → IsClash p kept core
clashes p g s ruled follow id clause live kept core flags is = record {
  flags = is.flags ∙ flags;
  within = is.within;
  inconsistent = core_conflicts p g s ruled follow id clause live core (is.flags ∙ flags) is.denied;
}

-- a literal of such a clause has the variable of a flag
pub record IsFlagAt (g : Ground) (kept : List Bool) (lit flag : ℕ) : Type 0 where
  pub on : slice_get kept flag ≡ Some true
  pub is : lit ≡ is_not (flag_variable g flag)

pub flag_at : (g : Ground) (kept : List Bool) (clause : List ℕ) (place : ℕ) → place < length clause → AreDenied g kept clause → (lit variable first : ℕ) → lit ≡ get_or clause place 0 → variable ≡ variable_of lit → first ≡ variable_count g →
    (first ≤ variable) × IsFlagAt g kept lit (variable - first)
flag_at g kept clause place small denied lit variable first at of count =
    let d = denied lit (subst (Contains clause) (sym at) (Contains-get_or clause place 0 small)) in
    let value : variable ≡ variable_count g + d.place = of ∙ ap variable_of d.is ∙ variable_of-literal_of (flag_variable g d.place) true in
    let same : d.place ≡ variable - first = omega (arith, value, count) in
    (omega (arith, value, count), subst (IsFlagAt g kept lit) same (record { on = d.on; is = d.is }))

-- a flag that is set stays so
set_on : (flags : List Bool) (place : ℕ) → place < length flags → slice_get (set flags place true) place ≡ Some true
set_on [] place small = absurd (omega arith)
set_on (b ∷ flags) zero small = refl
set_on (b ∷ flags) (suc place) small = set_on flags place (omega (arith, small))

stays_on : (flags : List Bool) (place k : ℕ) → slice_get flags k ≡ Some true → slice_get (set flags place true) k ≡ Some true
stays_on [] place k on = on
stays_on (b ∷ flags) zero zero on = refl
stays_on (b ∷ flags) zero (suc k) on = on
stays_on (b ∷ flags) (suc place) zero on = on
stays_on (b ∷ flags) (suc place) (suc k) on = stays_on flags place k on

-- and no other is
pub set_within : (flags kept : List Bool) (place : ℕ) → IsWithin flags kept → slice_get kept place ≡ Some true → IsWithin (set flags place true) kept
set_within [] kept place within on k h = within k h
set_within (b ∷ flags) kept zero within on zero h = on
set_within (b ∷ flags) kept zero within on (suc k) h = within (suc k) h
set_within (b ∷ flags) kept (suc place) within on zero h = within zero h
set_within (b ∷ flags) [] (suc place) within on (suc k) h = let no : ◌≡◌ {A = Option Bool} None (Some true) = on in absurd (cc)
set_within (b ∷ flags) (c ∷ kept) (suc place) within on (suc k) h = set_within flags kept place (λ j. within (suc j)) on k h

pub denied_stays : (g : Ground) (core : List Bool) (place lit : ℕ) → IsDenied g core lit → IsDenied g (set core place true) lit
denied_stays g core place lit d = record { place = d.place; on = stays_on core place d.place d.on; is = d.is }

pub denied_now : (g : Ground) (core : List Bool) (place lit : ℕ) → place < length core → lit ≡ is_not (flag_variable g place) → IsDenied g (set core place true) lit
denied_now g core place lit small is = record { place = place; on = set_on core place small; is = is }

-- one more literal is assumed
pub assumed_more : (g : Ground) (kept : List Bool) (lits : List ℕ) (lit : ℕ) → AreAssumed g kept lits → IsAssumed g kept lit → AreAssumed g kept (lits ++ lit ∷ [])
assumed_more g kept lits lit before is other i = elim (Contains-push_cases lits lit other i) [
  | inl old ↦ before other old
  | inr same ↦ subst (IsAssumed g kept) same is
]
