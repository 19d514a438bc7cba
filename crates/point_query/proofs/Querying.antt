-- What a model and a refutation under a prefix's selectors and a need's literals say of the prefix.
use Rattle.std.proofs.Common.{◌≡◌, ℕ, Bool, true, false, ◌&&◌, List, [], ◌∷◌, ◌++◌, take, append_assoc, append-nil, ⊎_elim, refl, sym, ap, ◌∙◌, subst, arith}
use Rattle.std.specs.Prelude.{Contains, IsTrue, Option, Some, None, MatchOption, is_none}
use Rattle.std.specs.List.{list_all}
use Rattle.std.proofs.lemmas.Bool.{and_parts, and_from}
use Rattle.std.proofs.lemmas.List.Elements.{All-append, Contains-append_left, Contains-append_right, Contains-append_cases}
use Rattle.std.proofs.lemmas.List.Folds.{list_all-append}
use Rattle.rcc5_core.specs.declared.Rel.{Rel}
use Rattle.lits_core.specs.Literals.{negation_of, lit_true, clause_true, meets_all}
use Rattle.lits_core.specs.declared.Line.{Line}
use Rattle.lits_core.specs.declared.Line.TheVariants.{Derive, Forget}
use Rattle.lits_core.specs.Derivation.{State, first_state, live_clause, line_fault, next_state, state_after, is_valid_derivation, SameLits, SameGiven, SameDerived, SameState, SameLine, DerivedClausesFollow, LiteralsAreSets}
use Rattle.lits_core.proofs.LiteralSets.{same-self}
use Rattle.watch_arena.specs.Trails.{AreInRange}
use Rattle.learn_solver.proofs.ModelOrRefutation.{closed-hopeless}
use Rattle.learn_solver.specs.Solving.{SolverState, IsSolver, AddsGiven, FromOne, Leads, GoesTo, AreConsistent, IsModel, IsClosedBy, IsRefutation}
use Rattle.world_model.specs.Problem.{Problem, concept_count}
use Rattle.world_model.specs.Alive.{Need, is_point, is_in_need, problem_at}
use Rattle.world_model.proofs.Members.{all_at, all_from, in_from_contains, contains_from_in}
use Rattle.constraint_set.specs.Facts.{IsBuilt}
use Rattle.constraint_set.specs.Shape.{shape_of, SameShape}
use Rattle.point_encode.specs.Model.Clauses.{given_clauses, variable_count}
use Rattle.point_encode.specs.Model.Forced.{selectors_of, need_lits, asked_of, IsClosedAt, IsNeed}
use Rattle.point_encode.specs.Model.Laws.{ClausesArePoints, NeedsAreLiterals, Extends}
use Rattle.point_query.specs.Asking.{AskerState, AskerGoes}
use Rattle.point_query.specs.Answers.{IsClosed}
use Rattle.point_query.specs.Queries.{IsSolverOf, KeepsSolver, asker_with}
use Rattle.point_pool.specs.Cursors.{AreSelectors}
use Rattle.point_pool.specs.declared.pool.Pool.{Pool}
use Rattle.point_pool.specs.Pools.{IsPool}
use Rattle.point_query.specs.Closing.{IsKeptAsker}

-- what holds of all of a list holds of all of a list inside it
all_inside : (test : ℕ → Bool) (xs ys : List ℕ) → ((x : ℕ) → Contains xs x → Contains ys x) → list_all test ys ≡ true → list_all test xs ≡ true
all_inside test xs ys inside h = all_from test xs (λ x i. all_at test h (in_from_contains ys (inside x (contains_from_in i))))

-- given clauses stay the same, as sets of literals
same_chain : (a b c : List (List ℕ)) → SameGiven a b → SameGiven b c → SameGiven a c
same_chain [] [] [] g h = tt
same_chain [] [] (c ∷ cs) g h = absurd h
same_chain [] (b ∷ bs) cs g h = absurd g
same_chain (a ∷ more) [] cs g h = absurd g
same_chain (a ∷ more) (b ∷ bs) [] g h = absurd h
same_chain (a ∷ more) (b ∷ bs) (c ∷ cs) g h = (λ lit. g.0 lit ∙ h.0 lit, same_chain more bs cs g.1 h.1)

-- bits meet such clauses alike
pub same_met : LiteralsAreSets → (bits : List Bool) (a b : List (List ℕ)) → SameGiven a b → meets_all bits a ≡ meets_all bits b
same_met law bits [] [] g = refl
same_met law bits [] (b ∷ bs) g = absurd g
same_met law bits (a ∷ more) [] g = absurd g
same_met law bits (a ∷ more) (b ∷ bs) g =
    ap (λ t. t && meets_all bits more) (law.truth bits a b g.0) ∙ ap (λ t. clause_true bits b && t) (same_met law bits more bs g.1)

-- a solver stays that of its problem
pub solver_stays : DerivedClausesFollow → (p : Problem) (old new : SolverState) → IsSolverOf p old → GoesTo old new → IsSolverOf p new
solver_stays law p old new is goes = record {
  variables = goes.variables ∙ is.variables;
  given = same_chain _ _ _ is.given (subst (λ g. SameGiven g new.state.given) (law.given_stay old.state goes.added) goes.leads.after.same_given);
}

-- literals are what must be true where a point of the prefix is in the need
record AreAsked (p : Problem) (m : List Rel) (need : Need) (lits : List ℕ) : Type 0 where
  there : (lit : ℕ) → Contains (asked_of p m need) lit → Contains lits lit
  no_others : (lit : ℕ) → Contains lits lit → Contains (asked_of p m need) lit

asked_from : (p : Problem) (m : List Rel) (need : Need) (selectors lits : List ℕ) → AreSelectors p m selectors → lits ≡ selectors ++ need_lits need → AreAsked p m need lits
asked_from p m need selectors lits are same = record {
  there = λ lit h. subst (λ ls. Contains ls lit) (sym same) (⊎_elim
      (λ one. Contains-append_left selectors (need_lits need) lit (are.there lit one))
      (λ other. Contains-append_right selectors (need_lits need) lit other)
      (Contains-append_cases (selectors_of p m) (need_lits need) lit h));
  no_others = λ lit h. ⊎_elim
      (λ one. Contains-append_left (selectors_of p m) (need_lits need) lit (are.no_others lit one))
      (λ other. Contains-append_right (selectors_of p m) (need_lits need) lit other)
      (Contains-append_cases selectors (need_lits need) lit (subst (λ ls. Contains ls lit) same h));
}

-- what the solver wants of its assumptions
pub asked_in_range : NeedsAreLiterals → (p : Problem) (m : List Rel) (need : Need) (selectors lits : List ℕ) (s : SolverState) → IsBuilt p → IsSolverOf p s →
    IsNeed p need → AreSelectors p m selectors → lits ≡ selectors ++ need_lits need → AreInRange lits s.variables
asked_in_range law p m need selectors lits s built is numbered are same lit h =
    let asked = asked_from p m need selectors lits are same in
    rw is.variables (law.in_range p m need built numbered lit (asked.no_others lit h))

pub asked_consistent : NeedsAreLiterals → (p : Problem) (m : List Rel) (need : Need) (selectors lits : List ℕ) → IsBuilt p →
    IsNeed p need → AreSelectors p m selectors → lits ≡ selectors ++ need_lits need → AreConsistent lits
asked_consistent law p m need selectors lits built numbered are same lit h k =
    let asked = asked_from p m need selectors lits are same in
    law.consistent p m need built numbered lit (asked.no_others lit h) (asked.no_others (negation_of lit) k)

-- a model is a point of the prefix in the need
pub model_is_point : ClausesArePoints → NeedsAreLiterals → LiteralsAreSets → (p : Problem) (m : List Rel) (need : Need) (selectors lits : List ℕ) (s : SolverState) (bits : List Bool) →
    IsBuilt p → IsSolverOf p s → IsNeed p need → AreSelectors p m selectors → lits ≡ selectors ++ need_lits need → IsModel s lits bits →
    IsTrue (is_point (problem_at p m) (take (concept_count p) bits)) × IsTrue (is_in_need need (take (concept_count p) bits))
model_is_point points literals sets p m need selectors lits s bits built is numbered are same model =
    let asked = asked_from p m need selectors lits are same in
    let true_ones : list_all (lit_true bits) (selectors_of p m ++ need_lits need) ≡ true = all_inside (lit_true bits) _ _ asked.there model.assumed in
    let parts = and_parts _ _ (sym (list_all-append (lit_true bits) (selectors_of p m) (need_lits need)) ∙ true_ones) in
    let met : meets_all bits (given_clauses p) ≡ true = same_met sets bits _ _ is.given ∙ model.given in (
      points.points p built m bits (model.counted ∙ is.variables) met parts.0,
      (literals.truth p need bits built numbered).0 parts.1,
    )

-- a refutation closes the need
pub refuted_is_closed : ClausesArePoints → NeedsAreLiterals → LiteralsAreSets → (p : Problem) (m : List Rel) (need : Need) (selectors lits : List ℕ) (s : SolverState) (id : ℕ) →
    IsBuilt p → IsSolverOf p s → IsNeed p need → AreSelectors p m selectors → lits ≡ selectors ++ need_lits need → IsRefutation s lits id →
    IsClosed (asker_with p s) p m need id
refuted_is_closed points literals sets p m need selectors lits s id built is numbered are same refuted =
    let asked = asked_from p m need selectors lits are same in
    record {
      named = closed (live_clause s.state id) asked refuted.named;
      no_point = λ has.
          let e : Extends p m has.0 _ = (points.bits p built m has.0 has.1).1 in
          let bits = (points.bits p built m has.0 has.1).0 in
          let in_need : IsTrue (is_in_need need (take (concept_count p) bits)) = subst (λ b. IsTrue (is_in_need need b)) (sym e.front) has.2 in
          let lits_true = (literals.truth p need bits built numbered).1 in_need in
          let all_true : list_all (lit_true bits) (selectors_of p m ++ need_lits need) ≡ true = list_all-append (lit_true bits) (selectors_of p m) (need_lits need) ∙ and_from _ _ e.selected lits_true in
          refuted.hopeless bits (sym (same_met sets bits _ _ is.given) ∙ e.given) (all_inside (lit_true bits) _ _ asked.no_others all_true);
    }
  where
    closed : (named : Option (List ℕ)) → AreAsked p m need lits → MatchOption named ⊥ (IsClosedBy lits) → MatchOption named ⊥ (IsClosedAt p m need)
    closed None asked h = absurd h
    closed (Some clause) asked h = λ lit i. asked.no_others (negation_of lit) (h lit i)

-- a call that did nothing
goes_nowhere : (s : SolverState) → GoesTo s s
goes_nowhere s = record { variables = refl; added = []; waits = sym (append-nil s.waiting); leads = record { valid = refl; after = same-self s.state }; from_one = λ k d h. absurd (omega arith) }

derived_chain : (a b c : List (ℕ × List ℕ)) → SameDerived a b → SameDerived b c → SameDerived a c
derived_chain [] [] [] g h = tt
derived_chain [] [] (c ∷ cs) g h = absurd h
derived_chain [] (b ∷ bs) cs g h = absurd g
derived_chain (a ∷ more) [] cs g h = absurd g
derived_chain (a ∷ more) (b ∷ bs) [] g h = absurd h
derived_chain (a ∷ more) (b ∷ bs) (c ∷ cs) g h = (g.0 ∙ h.0, λ lit. g.1 lit ∙ h.1 lit, derived_chain more bs cs g.2 h.2)

pub state_chain : (a b c : State) → SameState a b → SameState b c → SameState a c
state_chain a b c g h = record { same_given = same_chain _ _ _ g.same_given h.same_given; same_derived = derived_chain _ _ _ g.same_derived h.same_derived }

lits_itself : (a : List ℕ) → SameLits a a
lits_itself a lit = refl

line_itself : (line : Line) → SameLine line line
line_itself (Derive id lits hints) = (refl, lits_itself lits, refl)
line_itself (Forget ids) = refl

-- lines are as good from a state that is the same, and lead to one that is the same
same_run : LiteralsAreSets → (one other : State) (lines : List Line) → SameState one other →
    (is_valid_derivation one lines ≡ is_valid_derivation other lines) × SameState (state_after one lines) (state_after other lines)
same_run law one other [] same = (refl, same)
same_run law one other (line ∷ lines) same =
    let rest = same_run law (next_state one line) (next_state other line) lines (law.next one other line line same (line_itself line)) in (
      ap (λ f. is_none f && is_valid_derivation (next_state one line) lines) (law.faults one other line line same (line_itself line)) ∙
          ap (λ b. is_none (line_fault other line) && b) rest.0,
      rest.1,
    )

-- lines and more lines
run_more : (s : State) (lines more : List Line) →
    (is_valid_derivation s (lines ++ more) ≡ (is_valid_derivation s lines && is_valid_derivation (state_after s lines) more)) × (state_after s (lines ++ more) ≡ state_after (state_after s lines) more)
run_more s [] more = (refl, refl)
run_more s (line ∷ lines) more =
    let rest = run_more (next_state s line) lines more in
    (ap (λ b. is_none (line_fault s line) && b) rest.0 ∙ sym (and_assoc (is_none (line_fault s line)) _ _), rest.1)
  where
    and_assoc : (a b c : Bool) → ((a && b) && c) ≡ (a && (b && c))
    and_assoc true b c = refl
    and_assoc false b c = refl

-- lines that lead from a state to another, and more that lead on
pub leads_chain : LiteralsAreSets → (a b c : State) (lines more : List Line) → Leads a lines b → Leads b more c → Leads a (lines ++ more) c
leads_chain law a b c lines more g h =
    let same = same_run law (state_after a lines) b more g.after in
    let all = run_more a lines more in
    record {
      valid = all.0 ∙ and_from _ _ g.valid (same.0 ∙ h.valid);
      after = subst (λ s. SameState s c) (sym all.1) (state_chain _ _ _ same.1 h.after);
    }

-- two calls, one after the other
pub goes_chain : LiteralsAreSets → (a b c : SolverState) → GoesTo a b → GoesTo b c → GoesTo a c
goes_chain law a b c g h = record {
  variables = h.variables ∙ g.variables;
  added = g.added ++ h.added;
  waits = h.waits ∙ ap (λ ls. ls ++ h.added) g.waits ∙ append_assoc a.waiting g.added h.added;
  leads = leads_chain law a.state b.state c.state g.added h.added g.leads h.leads;
  from_one = All-append FromOne g.added h.added g.from_one h.from_one;
}

-- a solver of a problem that did nothing is still one, and so is one that went on
pub keeps_still : (p : Problem) (s : SolverState) → IsSolverOf p s → KeepsSolver p s s
keeps_still p s is = record { goes = goes_nowhere s; solver = is }

pub keeps_on : DerivedClausesFollow → (p : Problem) (old new : SolverState) → IsSolverOf p old → GoesTo old new → KeepsSolver p old new
keeps_on law p old new is goes = record { goes = goes; solver = solver_stays law p old new is goes }

-- and after two calls, one after the other
pub keeps_chain : LiteralsAreSets → (p q : Problem) (a b c : SolverState) → q ≡ p → KeepsSolver p a b → KeepsSolver q b c → KeepsSolver p a c
keeps_chain law p q a b c same g h = record { goes = goes_chain law a b c g.goes h.goes; solver = subst (λ r. IsSolverOf r c) same h.solver }

-- one more given clause
given_push : (a b : List (List ℕ)) (c : List ℕ) → SameGiven a b → SameGiven (a ++ c ∷ []) (b ++ c ∷ [])
given_push [] [] c g = (λ _. refl, tt)
given_push [] (b ∷ bs) c g = absurd g
given_push (a ∷ more) [] c g = absurd g
given_push (a ∷ more) (b ∷ bs) c g = (g.0, given_push more bs c g.1)

pub one_more_given : (clauses : List (List ℕ)) (lits : List ℕ) (old new : SolverState) → SameState (first_state clauses) old.state → AddsGiven old new lits →
    SameState (first_state (clauses ++ lits ∷ [])) new.state
one_more_given clauses lits old new same adds = record {
  same_given = same_chain _ _ _ (given_push clauses old.state.given lits same.same_given) adds.given.same_given;
  same_derived = derived_chain [] old.state.derived new.state.derived same.same_derived adds.given.same_derived;
}

-- no derived clauses
pub none_derived : (clauses : List (List ℕ)) (s : State) → SameState (first_state clauses) s → s.derived ≡ []
none_derived clauses s same = none s.derived same.same_derived
  where
    none : (entries : List (ℕ × List ℕ)) → SameDerived [] entries → entries ≡ []
    none [] e = refl
    none (entry ∷ entries) e = absurd e

-- a problem that differs in flags and narrowings alone has the same solver
pub solver_moves : (p q : Problem) (s : SolverState) → shape_of p ≡ shape_of q → IsSolverOf p s → IsSolverOf q s
solver_moves p q s same is = record {
  variables = is.variables ∙ ap variable_count same;
  given = subst (λ shape. SameGiven (given_clauses shape) s.state.given) same is.given;
}

pub asker_goes_nowhere : (s : AskerState) → AskerGoes s s
asker_goes_nowhere s = record { shape = refl; solver = goes_nowhere s.solver }

-- so does an asker's, and the pool that it keeps
pub keeps_pool : (shape p : Problem) (s : SolverState) (pool : Option Pool) → shape_of shape ≡ shape_of p → IsSolverOf p s → MatchOption pool (Unit {0}) (λ w. IsPool w × SameShape w.cursor.problem shape) →
    IsKeptAsker shape s pool
keeps_pool shape p s pool same is walked = record { solved = solver_moves p shape s (sym same) is; walked = walked }

-- a live clause with only negations of what must be true closes the need
pub known_is_closed : ClausesArePoints → NeedsAreLiterals → LiteralsAreSets → (p : Problem) (m : List Rel) (need : Need) (s : SolverState) (id : ℕ) →
    IsBuilt p → IsSolverOf p s → IsNeed p need → IsSolver s → MatchOption (live_clause s.state id) ⊥ (IsClosedAt p m need) → IsClosed (asker_with p s) p m need id
known_is_closed points literals sets p m need s id built is numbered solver named =
    refuted_is_closed points literals sets p m need (selectors_of p m) (asked_of p m need) s id built is numbered (record { there = λ lit h. h; no_others = λ lit h. h }) refl
    (record { named = named; hopeless = hopeless (live_clause s.state id) refl named })
  where
    hopeless : (found : Option (List ℕ)) → live_clause s.state id ≡ found → MatchOption found ⊥ (IsClosedAt p m need) → (bits : List Bool) → IsTrue (meets_all bits s.state.given) → IsTrue (list_all (lit_true bits) (asked_of p m need)) → ⊥
    hopeless None e h = absurd h
    hopeless (Some clause) e h = closed-hopeless s.state (asked_of p m need) clause id solver.follow e h
