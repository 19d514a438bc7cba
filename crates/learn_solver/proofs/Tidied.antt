-- What forgetting clauses promises.
use Rattle.std.proofs.Common.{◌≡◌, ◌∙◌, ℕ, zero, suc, ◌+◌, ◌<◌, ◌≤◌, Bool, List, [], ◌∷◌, ◌++◌, map, length, drop, get_or, Option, None, true, false, refl, sym, ap, subst, arith, inl, inr}
use Rattle.std.specs.Prelude.{◌==◌}
use Rattle.std.specs.List.{All, Contains}
use Rattle.std.proofs.lemmas.Bool.{cases_Bool, cases_lt, eqb-true, eq-eqb, false≢true}
use Rattle.std.proofs.lemmas.List.{append-nil, length-map, get_or_past}
use Rattle.std.proofs.lemmas.List.Elements.{Contains-get_or, All-append}
use Rattle.lits_core.specs.Derivation.{State, SameState, next_state, line_fault, state_after}
use Rattle.lits_core.specs.declared.Line.{Line}
use Rattle.lits_core.specs.declared.Line.TheVariants.{Forget}
use Rattle.lits_core.proofs.LiteralSets.{same-self}
use Rattle.clause_arena.specs.Records.{Record, compacted}
use Rattle.clause_arena.specs.Movings.{place_after}
use Rattle.watch_arena.specs.declared.places.Place.{Place}
use Rattle.watch_arena.specs.Places.{place_at, places_with, is_assumed}
use Rattle.watch_arena.specs.Trails.{TrailState, IsTrail, IsCompacted}
use Rattle.learn_solver.specs.declared.learner.Learner.{Learner}
use Rattle.learn_solver.specs.States.{state_of, is_reason, gone_from, idle_from, idle_of}
use Rattle.learn_solver.specs.Guides.{AssumptionsState, IsGuided, by_trail}
use Rattle.learn_solver.specs.Weights.{weight}
use Rattle.learn_solver.specs.Learners.{solver_state, IsLearner, Steps, Forgets, AreKept, AreReasons, Clears, stays_by, gone_of, burden}
use Rattle.learn_solver.specs.Solving.{FromOne, GoesTo, IsTidied, forgetting}
use Rattle.learn_solver.proofs.SameStates.{SameState-records}
use Rattle.learn_solver.proofs.RecordState.{AreRecords-same, AreUpTo-same, AreNoted-same}
use Rattle.learn_solver.proofs.AssumptionsInvariant.{IsGuided-renamed, assumed-renamed, place-renamed}
use Rattle.learn_solver.proofs.StepInvariant.{Steps-refl}
use Rattle.learn_solver.proofs.PlaceWeight.{weight-same}
use Rattle.learn_solver.proofs.Idle.{gone-same, idle_of-from, drop-within}
use Rattle.learn_solver.proofs.RemainingRecords.{AreForgotten, AreForgotten-from, AreRecords-left, AreUpTo-left, AreNoted-left, idle-left, state-left, line-left, gone-from_one}

-- what forgetting came to
pub record HasForgotten (old new : Learner) (kept : List Bool) : Type 0 where
  pub steps : Steps old new
  pub burden : burden new ≡ burden old
  pub clears : Clears old new kept

-- where there is an id, the line is one
forgetting-some : (ids : List ℕ) → 0 < length ids → forgetting ids ≡ Forget ids ∷ []
forgetting-some [] some = absurd (omega arith)
forgetting-some (id ∷ ids) some = refl

one_line : (ids : List ℕ) (k : ℕ) (d : Line) → ((id : ℕ) → Contains ids id → 1 ≤ id) → k < length (Forget ids ∷ []) → FromOne (get_or (Forget ids ∷ []) k d)
one_line ids zero d h lt = λ j e below. h (get_or ids j e) (Contains-get_or ids j e below)
one_line ids (suc k) d h lt = absurd (omega arith)

-- where of the derived clauses just the reasons stay, the idle ones go
gone-reasons : (t : TrailState) (kept : List Bool) (given : ℕ) → AreReasons kept t given → gone_from (stays_by kept) given (drop given t.records) ≡ idle_from t.places given (drop given t.records)
gone-reasons t kept given only =
    gone-same (stays_by kept) (is_reason t.places) given (drop given t.records) (λ k lt. only (given + k) (omega arith) (drop-within t.records given k lt))

-- where all stay nothing is done
pub HasForgotten-none : (l : Learner) (kept : List Bool) → IsLearner l → gone_of l kept ≡ [] → HasForgotten l l kept
HasForgotten-none l kept s none = record {
  steps = Steps-refl l s;
  burden = refl;
  clears = record {
    waiting = sym (append-nil l.waiting.items) ∙ ap (λ (ids : List ℕ). l.waiting.items ++ forgetting ids) (sym none);
    state = subst (λ (ids : List ℕ). SameState (state_after (solver_state l).state (forgetting ids)) (solver_state l).state) (sym none) (same-self (solver_state l).state);
    assigned = refl;
    idle = λ reasons. idle_of-from l.trail.places l.trail.records l.given ∙ sym (gone-reasons l.trail kept l.given reasons) ∙ none;
  };
}

-- a reason's new name leaves the literals
lits-renamed : (name : ℕ → Option ℕ) (places : List Place) → map (λ p. p.lit) (places_with name places) ≡ map (λ p. p.lit) places
lits-renamed name [] = refl
lits-renamed name (p ∷ places) = ap (λ (lits : List ℕ). p.lit ∷ lits) (lits-renamed name places)

-- nor how much is left to do
weight-renamed : (t u : TrailState) (name : ℕ → Option ℕ) → IsTrail t → IsTrail u → u.places ≡ places_with name t.places → u.variables ≡ t.variables → weight u.variables u.places ≡ weight t.variables t.places
weight-renamed t u name f g places variables =
    let size : length u.places ≡ length t.places = ap length places ∙ (simp length-map) in
    let levels : (p : ℕ) → p < length t.places → (place_at u.places p).level ≡ (place_at t.places p).level = λ p lt.
    ap (λ (ps : List Place). (place_at ps p).level) places ∙ ap (λ (q : Place). q.level) (place-renamed name t.places p lt) in
    ap (λ (n : ℕ). weight n u.places) variables
    ∙ weight-same t.variables u.places t.places size (λ p lt. elim (cases_Bool (is_assumed (place_at u.places p))) [
      | inl on ↦ on ∙ sym (assumed-renamed t u p f g size levels (omega arith) on)
      | inr off ↦ elim (cases_Bool (is_assumed (place_at t.places p))) [
        | inl on ↦ absurd (false≢true (sym off ∙ assumed-renamed u t p g f (sym size) (λ q below. sym (levels q (omega arith))) lt on))
        | inr none ↦ off ∙ sym none
      ]
    ])

-- where just the reasons stay, the others are the idle ones
reasons-forgotten : (t : TrailState) (records : List Record) (given : ℕ) (kept : List Bool) → AreKept kept t → AreReasons kept t given → AreForgotten (stays_by kept) t.records records given → AreForgotten (is_reason t.places) t.records records given
reasons-forgotten t records given kept all only f = record {
  count = f.count;
  kept = λ at why. elim why [
    | inl early ↦ f.kept at (inl early)
    | inr on ↦ elim (cases_lt at (length t.records)) [
      | inl lt ↦ f.kept at (inr (all.reasons at lt on))
      | inr past ↦ f.kept at (inr (let size = all.all in get_or_past kept at true (omega arith)))
    ]
  ];
  gone = λ at from lt off. f.gone at from lt (only at from lt ∙ off);
}

-- by its steps
pub HasForgotten-from : (old new : Learner) (kept : List Bool) (start mid : TrailState) (ids : List ℕ) → IsLearner old → AreKept kept old.trail → start ≡ record old.trail { spare = start.spare } → ids ≡ gone_of old kept → 0 < length ids → Forgets start mid old.given (stays_by kept) → IsCompacted mid new.trail → new.variables ≡ old.variables → new.analyzer ≡ old.analyzer → new.order ≡ old.order → new.given ≡ old.given → new.last ≡ old.last → new.assumptions ≡ old.assumptions → new.waiting.items ≡ old.waiting.items ++ Forget ids ∷ [] → IsTrail old.trail → IsTrail new.trail → HasForgotten old new kept
HasForgotten-from old new kept start mid ids s all start_is ids_are some forgets compacts variables analyzer order given last assumptions waiting facts after_facts =
    let stays : ℕ → Bool = stays_by kept in
    let f : AreForgotten (stays_by kept) old.trail.records mid.records old.given =
    subst (λ (rs : List Record). AreForgotten (stays_by kept) rs mid.records old.given) (ap (λ (t : TrailState). t.records) start_is) (AreForgotten-from start mid old.given (stays_by kept) forgets) in
    let mid_variables : mid.variables ≡ old.trail.variables = ap (λ (t : TrailState). t.variables) forgets.same ∙ ap (λ (t : TrailState). t.variables) start_is in
    let mid_places : mid.places ≡ old.trail.places = ap (λ (t : TrailState). t.places) forgets.same ∙ ap (λ (t : TrailState). t.places) start_is in
    let mid_level : mid.level ≡ old.trail.level = ap (λ (t : TrailState). t.level) forgets.same ∙ ap (λ (t : TrailState). t.level) start_is in
    let vars : new.trail.variables ≡ old.trail.variables = compacts.variables ∙ mid_variables in
    let places : new.trail.places ≡ places_with (place_after mid.records) old.trail.places = compacts.places ∙ ap (places_with (place_after mid.records)) mid_places in
    let state_is : state_of (compacted mid.records) old.given ≡ next_state (state_of old.trail.records old.given) (Forget ids) =
    state-left (stays_by kept) old.trail.records mid.records old.given s.records f ∙ ap (λ (is : List ℕ). next_state (state_of old.trail.records old.given) (Forget is)) (sym ids_are) in
    let after : SameState (next_state (state_of old.trail.records old.given) (Forget ids)) (state_of new.trail.records new.given) =
    subst (λ (n : ℕ). SameState (next_state (state_of old.trail.records old.given) (Forget ids)) (state_of new.trail.records n)) (sym given)
    (subst (λ (st : State). SameState st (state_of new.trail.records old.given)) state_is (SameState-records (compacted mid.records) new.trail.records old.given compacts.records)) in
    let fault : line_fault (state_of old.trail.records old.given) (Forget ids) ≡ None =
    ap (λ (is : List ℕ). line_fault (state_of old.trail.records old.given) (Forget is)) ids_are ∙ line-left (stays_by kept) old.trail.records old.given s.records in
    let line : forgetting (gone_of old kept) ≡ Forget ids ∷ [] = ap forgetting (sym ids_are) ∙ forgetting-some ids some in
    let from_one : All FromOne (Forget ids ∷ []) = λ k d lt. one_line ids k d (λ id has. gone-from_one (stays_by kept) old.trail.records old.given id s.records (subst (λ (is : List ℕ). Contains is id) ids_are has)) lt in
    record {
      steps = record {
        sound = record {
          variables = variables ∙ s.variables ∙ sym vars;
          analyzer = analyzer ∙ s.analyzer ∙ sym vars;
          order = ap length order ∙ s.order ∙ sym vars;
          records = rw given (AreRecords-same (compacted mid.records) new.trail.records old.given (AreRecords-left (stays_by kept) old.trail.records mid.records old.given s.records f) compacts.records);
          last = rw last (AreUpTo-same (compacted mid.records) new.trail.records old.last (AreUpTo-left (stays_by kept) old.trail.records mid.records old.given old.last s.records f s.last) compacts.records);
          waiting = subst (All FromOne) (sym waiting) (All-append FromOne old.waiting.items (Forget ids ∷ []) s.waiting from_one);
          noted = rw (given, order) (AreNoted-same (compacted mid.records) new.trail.records old.given old.order (AreNoted-left (stays_by kept) old.trail.records mid.records old.given old.order s.records f s.noted) compacts.records);
          guided = subst (λ (a : AssumptionsState). IsGuided (by_trail new.trail a)) (sym assumptions) (IsGuided-renamed old.trail new.trail old.assumptions (place_after mid.records) facts after_facts places (compacts.level ∙ mid_level) s.guided);
        };
        goes = record {
          variables = vars;
          added = Forget ids ∷ [];
          waits = waiting;
          leads = record { valid = rw fault refl; after = after };
          from_one = from_one;
        };
        variables = vars;
        assumptions = ap (λ (a : AssumptionsState). a.lits) assumptions;
      };
      burden = weight-renamed old.trail new.trail (place_after mid.records) facts after_facts places vars;
      clears = record {
        waiting = waiting ∙ ap (λ (ls : List Line). old.waiting.items ++ ls) (sym line);
        state = subst (λ (ls : List Line). SameState (state_after (state_of old.trail.records old.given) ls) (state_of new.trail.records new.given)) (sym line) after;
        assigned = ap (map (λ (p : Place). p.lit)) places ∙ lits-renamed (place_after mid.records) old.trail.places;
        idle = λ reasons.
            ap (λ (n : ℕ). idle_of new.trail.places new.trail.records n) given ∙ ap (λ (ps : List Place). idle_of ps new.trail.records old.given) places
            ∙ idle-left old.trail.places old.trail.records mid.records new.trail.records old.given s.records (reasons-forgotten old.trail mid.records old.given kept all reasons f) compacts.records;
      };
    }

-- so tidying is done
pub IsTidied-cleared : (old new : Learner) (kept : List Bool) → Steps old new → Clears old new kept → AreReasons kept old.trail old.given → IsTidied (solver_state old) (solver_state new)
IsTidied-cleared old new kept steps c reasons =
    let same : gone_of old kept ≡ (solver_state old).idle = gone-reasons old.trail kept old.given reasons ∙ sym (idle_of-from old.trail.places old.trail.records old.given) in
    record {
      variables = steps.variables;
      idle = c.idle reasons;
      waiting = c.waiting ∙ ap (λ (ids : List ℕ). old.waiting.items ++ forgetting ids) same;
      state = subst (λ (ids : List ℕ). SameState (state_after (solver_state old).state (forgetting ids)) (solver_state new).state) same c.state;
      assigned = c.assigned;
    }

no_element : (xs : List ℕ) → length xs ≡ 0 → xs ≡ []
no_element [] e = refl
no_element (x ∷ xs) e = absurd (omega arith)

-- a list with no element, and one with some, by the test
pub empty-list : (xs ys : List ℕ) → true ≡ (length ys == 0) → ys ≡ xs → xs ≡ []
empty-list xs ys h e = no_element xs (ap length (sym e) ∙ eqb-true (length ys) 0 (sym h))

pub some-element : (xs ys : List ℕ) → false ≡ (length ys == 0) → ys ≡ xs → 0 < length xs
some-element xs ys h e =
    let size = ap length e in
    elim (cases_lt 0 (length xs)) [
      | inl lt ↦ lt
      | inr none ↦ absurd (false≢true (h ∙ eq-eqb (length ys) 0 (omega arith)))
    ]
