-- One more given clause, and what is so of a solver.
use Rattle.std.proofs.Common.{◌≡◌, ◌∙◌, ℕ, ◌+◌, ◌≤◌, true, false, List, [], ◌∷◌, ◌++◌, length, get_or, Result, Ok, Err, sym, subst, arith, length-take}
use Rattle.std.specs.Prelude.{OnErr}
use Rattle.std.specs.List.{All, Contains}
use Rattle.std.proofs.lemmas.List.{length-map, length_push}
use Rattle.lits_core.specs.Literals.{variable_of, is_negative}
use Rattle.lits_core.specs.Derivation.{State, SameState}
use Rattle.clause_arena.specs.Records.{Record, new_record}
use Rattle.watch_arena.specs.Trails.{SameRecords, Adds}
use Rattle.learn_solver.specs.declared.learner.Learner.{Learner}
use Rattle.learn_solver.specs.Solving.{FromOne, AddsGiven, IsSolver}
use Rattle.learn_solver.specs.States.{state_of}
use Rattle.learn_solver.specs.Guides.{IsGuided}
use Rattle.learn_solver.specs.Learners.{solver_state, IsLearner, AreRecords, AreNoted, guide_of}
use Rattle.learn_solver.proofs.SameStates.{SameState-records}
use Rattle.learn_solver.proofs.RecordState.{AreRecords-same, AreUpTo-same, AreUpTo-more, AreRecords-given, AreNoted-same, AreNoted-given, given-all, state-given}
use Rattle.learn_solver.proofs.Idle.{idle_of-none, distinct-state, state-from_one, idle-derived, idle-distinct}

-- what is so of a solver whose parts are sound
pub IsSolver-sound : (l : Learner) → IsLearner l → IsSolver (solver_state l)
IsSolver-sound l s = record {
  follow = s.records.follow;
  distinct = distinct-state l.trail.records l.given s.records;
  from_one = state-from_one l.trail.records l.given s.records;
  waiting_from_one = s.waiting;
  idle_derived = λ id has. idle-derived l.trail.places l.trail.records l.given id s.records has;
  idle_once = idle-distinct l.trail.places l.trail.records l.given s.records;
}

-- a fact that holds also holds on an error
pub on_err : {X E : Type 0} (P : Type 0) (r : Result X E) → P → OnErr r P
on_err P (Ok x) p = tt
on_err P (Err e) p = p

-- how many given clauses there are
pub given-count : (records : List Record) (given : ℕ) → given ≤ length records → length (state_of records given).given ≡ given
unfolding state_of
given-count records given le = simp (length-map, length-take) (omega arith)

-- one more given clause, among sound parts
pub IsLearner-given : (old new : Learner) (lits : List ℕ) (id : ℕ) → IsLearner old → (state_of old.trail.records old.given).derived ≡ [] → id ≡ old.given + 1 → old.last ≤ new.last → id ≤ new.last → Adds old.trail new.trail lits id → new.given ≡ length new.trail.records → new.waiting.items ≡ old.waiting.items → new.variables ≡ old.variables → new.analyzer ≡ old.analyzer → length new.order ≡ length old.order → ((v : ℕ) → get_or old.order v false ≡ true → get_or new.order v false ≡ true) → ((lit : ℕ) → Contains lits lit → is_negative lit ≡ false → get_or new.order (variable_of lit) false ≡ true) → guide_of new ≡ guide_of old → IsLearner new
IsLearner-given old new lits id s none fresh last_le id_le adds given waiting variables analyzer order kept noted guide =
    let most = given-all old.trail.records old.given none in
    let enough = s.records.enough in
    let count = adds.records.count in
    let size : length (old.trail.records ++ new_record id lits ∷ []) ≡ length old.trail.records + 1 = length_push old.trail.records (new_record id lits) in
    let more : new.given ≡ old.given + 1 = omega arith in
    let all : length old.trail.records ≡ old.given = omega arith in
    let records = AreRecords-same (old.trail.records ++ new_record id lits ∷ []) new.trail.records (old.given + 1) (AreRecords-given old.trail.records old.given id lits s.records all (omega arith)) adds.records in
    let flags = AreNoted-same (old.trail.records ++ new_record id lits ∷ []) new.trail.records (old.given + 1) new.order (AreNoted-given old.trail.records old.given id lits old.order new.order s.noted all kept noted) adds.records in
    record {
      variables = variables ∙ s.variables ∙ sym adds.variables;
      analyzer = analyzer ∙ s.analyzer ∙ sym adds.variables;
      order = order ∙ s.order ∙ sym adds.variables;
      records = subst (λ (n : ℕ). AreRecords new.trail.records n) (sym more) records;
      last = AreUpTo-same (old.trail.records ++ new_record id lits ∷ []) new.trail.records new.last (AreUpTo-more old.trail.records old.last new.last id lits s.last last_le id_le) adds.records;
      waiting = subst (All FromOne) (sym waiting) s.waiting;
      noted = subst (λ (n : ℕ). AreNoted new.trail.records n new.order) (sym more) flags;
      guided = subst IsGuided (sym guide) s.guided;
    }

-- and it is all that is added
pub AddsGiven-added : (old new : Learner) (lits : List ℕ) (id : ℕ) → IsLearner old → (state_of old.trail.records old.given).derived ≡ [] → SameRecords (old.trail.records ++ new_record id lits ∷ []) new.trail.records → new.trail.variables ≡ old.trail.variables → new.given ≡ length new.trail.records → new.waiting.items ≡ old.waiting.items → AddsGiven (solver_state old) (solver_state new) lits
AddsGiven-added old new lits id s none records variables given waiting =
    let most = given-all old.trail.records old.given none in
    let enough = s.records.enough in
    let count = records.count in
    let size : length (old.trail.records ++ new_record id lits ∷ []) ≡ length old.trail.records + 1 = length_push old.trail.records (new_record id lits) in
    let more : new.given ≡ old.given + 1 = omega arith in
    let all : length old.trail.records ≡ old.given = omega arith in
    let same = SameState-records (old.trail.records ++ new_record id lits ∷ []) new.trail.records (old.given + 1) records in
    let state = state-given old.trail.records old.given id lits all in
    record {
      variables = variables;
      given = subst (λ (n : ℕ). SameState (record { given = (state_of old.trail.records old.given).given ++ lits ∷ []; derived = (state_of old.trail.records old.given).derived }) (state_of new.trail.records n)) (sym more)
          (subst (λ (st : State). SameState st (state_of new.trail.records (old.given + 1))) state same);
      waiting = waiting;
      idle = idle_of-none new.trail.places new.trail.records new.given (omega arith) ∙ sym (idle_of-none old.trail.places old.trail.records old.given most);
    }
