-- A conflict after the trail went back, and what comes of it.
use Rattle.std.proofs.Common.{◌≡◌, ◌≢◌, ◌∙◌, ℕ, ◌+◌, ◌<◌, ◌≤◌, true, List, [], ◌∷◌, ◌++◌, length, get_or, take, drop, Option, Some, None, sym, ap, subst, arith, inl, inr, length-take}
use Rattle.std.specs.Prelude.{is_none}
use Rattle.std.specs.Option.{option_and_then}
use Rattle.std.specs.List.{Contains}
use Rattle.std.proofs.lemmas.List.{take-append-drop, length_push}
use Rattle.std.proofs.lemmas.List.Elements.{Contains-get_or}
use Rattle.std.proofs.lemmas.Bool.{cases_lt}
use Rattle.lits_core.specs.Literals.{variable_of, negation_of}
use Rattle.lits_core.proofs.LiteralLemmas.{variable_of-negation}
use Rattle.clause_arena.specs.Records.{record_at}
use Rattle.watch_arena.specs.declared.places.Place.{Place}
use Rattle.watch_arena.specs.Places.{place_at, is_false, reason_of}
use Rattle.watch_arena.specs.Trails.{TrailState, IsTrail, IsConflict, Propagates, places_up_to}
use Rattle.watch_arena.proofs.ByIndex.{list_all_at, list_all_from}
use Rattle.conflict_clause.specs.Taught.{level_in}
use Rattle.learn_solver.specs.declared.learner.Learner.{Learner}
use Rattle.learn_solver.specs.Solving.{IsRefutation, AreConsistent}
use Rattle.learn_solver.specs.Weights.{weight}
use Rattle.learn_solver.specs.Guides.{IsNext}
use Rattle.learn_solver.specs.Learners.{solver_state, guide_of, IsLearner, IsClosed, Backjumps, backtracked, assumed}
use Rattle.learn_solver.proofs.TrailPlaces.{true-index, place-take, level-at, level-most, cut-at, places-few, decided-index, place_of-at}
use Rattle.learn_solver.proofs.Cuts.{false-back, up_to-twice, assumed-past}
use Rattle.learn_solver.proofs.AssumptionsInvariant.{own-assumptions, guided-all}
use Rattle.learn_solver.proofs.PlaceWeight.{weight-jumped, weight-longer, weight-one_more}
use Rattle.learn_solver.proofs.ModelOrRefutation.{IsRefutation-closed}

-- a conflict stands at the highest level of its literals
pub conflict-back : (t : TrailState) (level at : ℕ) → IsTrail t → IsConflict t at → ((lit : ℕ) → Contains (record_at t.records at).lits lit → level_in t.places lit ≤ level) → IsConflict (backtracked t level) at
conflict-back t level at f c most = record {
  live = c.live;
  all_false = list_all_from (is_false (places_up_to t.places level)) (record_at t.records at).lits 0 (λ k lt.
      let has = Contains-get_or (record_at t.records at).lits k 0 lt in
      false-back t level (get_or (record_at t.records at).lits k 0) f (list_all_at (is_false t.places) (record_at t.records at).lits k 0 c.all_false lt) (most (get_or (record_at t.records at).lits k 0) has));
}

-- a false literal keeps its level
pub level-back : (t : TrailState) (level lit : ℕ) → IsTrail t → IsTrail (backtracked t level) → is_false t.places lit ≡ true → level_in t.places lit ≤ level → level_in (places_up_to t.places level) lit ≡ level_in t.places lit
level-back t level lit f g false_there le =
    let found = true-index t.places (negation_of lit) false_there in
    let one : variable_of (place_at t.places found.0).lit ≡ variable_of lit = ap variable_of found.2 ∙ variable_of-negation lit in
    let is = level-at t found.0 lit f found.1 one in
    let cut = cut-at t level f in
    let within = cut.1.within in
    let early : found.0 < cut.0 = elim (cases_lt found.0 cut.0) [
      | inl lt ↦ lt
      | inr ge ↦ let past = cut.1.past found.0 ge found.1 in absurd (omega arith)
    ] in
    let size : length (places_up_to t.places level) ≡ cut.0 = ap length cut.1.same ∙ (simp length-take (omega arith)) in
    let same : place_at (places_up_to t.places level) found.0 ≡ place_at t.places found.0 = ap (λ (ps : List Place). place_at ps found.0) cut.1.same ∙ place-take t.places cut.0 found.0 early in
    level-at (backtracked t level) found.0 lit g (omega arith) (ap (λ (q : Place). variable_of q.lit) same ∙ one) ∙ ap (λ (q : Place). q.level) same ∙ sym is

-- where the trail turns there is less to do
pub Backjumps-lighter : (t new : TrailState) (level : ℕ) → IsTrail t → level ≤ t.level → Backjumps (backtracked t level) new → weight new.variables new.places < weight t.variables t.places
Backjumps-lighter t new level f le turn =
    let below = turn.below in
    let cut = cut-at t turn.back f in
    let past = assumed-past t turn.back cut.0 f cut.1 (omega arith) in
    let few = places-few t f in
    let more = past.0 in
    let twice = up_to-twice t turn.back level f (omega arith) in
    let places : new.places ≡ take cut.0 t.places ++ turn.last ∷ [] = turn.places ∙ ap (λ (ps : List Place). ps ++ turn.last ∷ []) (twice ∙ cut.1.same) in
    let lighter = weight-jumped t.variables cut.0 t.places turn.last (omega arith) past.0 past.1 turn.implied in
    let is : weight new.variables new.places ≡ weight t.variables (take cut.0 t.places ++ turn.last ∷ []) = ap (λ (n : ℕ). weight n new.places) turn.variables ∙ ap (weight t.variables) places in
    omega arith

-- propagation does not make it more
pub Propagates-lighter : (old new : TrailState) → Propagates old new → weight new.variables new.places ≤ weight old.variables old.places
Propagates-lighter old new k =
    let split : new.places ≡ old.places ++ drop (length old.places) new.places = sym (take-append-drop (length old.places) new.places) ∙ ap (λ (ps : List Place). ps ++ drop (length old.places) new.places) k.places in
    let is : weight new.variables new.places ≡ weight old.variables (old.places ++ drop (length old.places) new.places) = ap (λ (n : ℕ). weight n new.places) k.variables ∙ ap (weight old.variables) split in
    let longer = weight-longer old.variables old.places (drop (length old.places) new.places) in
    omega arith

-- an assumed literal makes it less
pub assumed-lighter : (t : TrailState) (lit : ℕ) → IsTrail (assumed t lit) → weight t.variables (assumed t lit).places < weight t.variables t.places
assumed-lighter t lit f =
    let new : Place = record { lit = lit; level = t.level + 1; reason = None } in
    let few = places-few (assumed t lit) f in
    let size : length (t.places ++ new ∷ []) ≡ length t.places + 1 = length_push t.places new in
    weight-one_more t.variables t.places new (omega arith)

-- the next assumption is one
pub next-assumptions : (l : Learner) (lit : ℕ) → IsNext l.assumptions lit → Contains l.assumptions.lits lit
next-assumptions l lit next = subst (Contains l.assumptions.lits) (sym next.at) (Contains-get_or l.assumptions.lits l.assumptions.holding 0 next.within)

-- a closed clause refutes, where all levels begin with assumptions
pub IsRefutation-guided : (l : Learner) (stands : Option ℕ) (id : ℕ) → IsLearner l → IsTrail l.trail → l.trail.level ≤ l.assumptions.guided → ((lit : ℕ) → stands ≡ Some lit → Contains l.assumptions.lits (negation_of lit)) → IsClosed l.trail stands id → IsRefutation (solver_state l) l.assumptions.lits id
IsRefutation-guided l stands id s f all standing c =
    IsRefutation-closed l l.assumptions.lits id c.at s c.within c.named (λ lit has. elim (c.closed lit has) [
      | inl stood ↦ standing lit stood
      | inr decided ↦
          let found = decided-index l.trail.places (negation_of lit) decided in
          let most = level-most l.trail found.0 f found.1 in
          subst (Contains l.assumptions.lits) found.2 (own-assumptions l.trail l.assumptions found.0 f s.guided.marked found.1 found.3 (omega arith))
    ])

-- a false assumption was implied
pub false-implied : (l : Learner) (lit : ℕ) → IsTrail l.trail → IsLearner l → AreConsistent l.assumptions.lits → IsNext l.assumptions lit → is_false l.trail.places lit ≡ true → reason_of l.trail.places (variable_of lit) ≢ None
false-implied l lit f s consistent next false_there none =
    let found = true-index l.trail.places (negation_of lit) false_there in
    let one : variable_of (place_at l.trail.places found.0).lit ≡ variable_of lit = ap variable_of found.2 ∙ variable_of-negation lit in
    let place = place_of-at l.trail found.0 (variable_of lit) f found.1 one in
    let reason : (place_at l.trail.places found.0).reason ≡ None = sym (ap (λ (o : Option ℕ). option_and_then (λ k. (place_at l.trail.places k).reason) o) place) ∙ none in
    let most = level-most l.trail found.0 f found.1 in
    let guided = guided-all (guide_of l) s.guided next.within in
    let own = own-assumptions l.trail l.assumptions found.0 f s.guided.marked found.1 (ap is_none reason) (omega arith) in
    consistent lit (next-assumptions l lit next) (subst (Contains l.assumptions.lits) found.2 own)
