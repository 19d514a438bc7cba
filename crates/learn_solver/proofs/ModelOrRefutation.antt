-- Both answers are right.
use Rattle.std.proofs.Common.{◌≡◌, ◌≢◌, ◌∙◌, ℕ, zero, suc, ◌*◌, ◌<◌, ◌≤◌, Bool, true, false, cond, List, [], ◌∷◌, map, take, length, get_or, Option, Some, None, refl, sym, ap, subst, arith, inl, inr}
use Rattle.std.specs.Prelude.{not, MatchOption}
use Rattle.std.specs.List.{Contains, list_all}
use Rattle.std.proofs.lemmas.List.Elements.{Contains-get_or}
use Rattle.std.proofs.lemmas.Bool.{cases_Bool, and_from, true≢false, false≢true}
use Rattle.std.proofs.lemmas.Bool.Decides.{nat_tests}
use Rattle.lits_core.specs.Literals.{variable_of, negation_of, is_negative, lit_true, clause_true, meets_all}
use Rattle.lits_core.specs.Derivation.{State, live_clause, DerivedFollow}
use Rattle.lits_core.proofs.LiteralLemmas.{lit_true-negation}
use Rattle.lits_core.proofs.DerivationLemmas.{live-true}
use Rattle.clause_arena.specs.Records.{Record, record_at}
use Rattle.watch_arena.specs.declared.places.Place.{Place}
use Rattle.watch_arena.specs.Places.{place_of, is_true, is_false, is_false_clause}
use Rattle.watch_arena.specs.Trails.{TrailState, IsTrail, IsPropagated}
use Rattle.watch_arena.proofs.ByIndex.{list_any_at, list_any_index, list_all_at, list_all_from}
use Rattle.watch_arena.proofs.WatchedPair.{index_of}
use Rattle.learn_solver.specs.declared.learner.Learner.{Learner}
use Rattle.learn_solver.specs.Solving.{IsModel, IsRefutation, IsClosedBy}
use Rattle.learn_solver.specs.States.{state_of}
use Rattle.learn_solver.specs.Noted.{AreAssigned}
use Rattle.learn_solver.specs.Learners.{solver_state, IsLearner, AreBits}
use Rattle.learn_solver.proofs.RecordState.{live-at}
use Rattle.learn_solver.proofs.TrailPlaces.{not_both, place_of-cases, place_of-found, true-or-false}

-- assumptions that bits meet are true one by one
assumed-true : (bits : List Bool) (assumptions : List ℕ) (lit : ℕ) → list_all (lit_true bits) assumptions ≡ true → Contains assumptions lit → lit_true bits lit ≡ true
assumed-true bits assumptions lit all has =
    let index = index_of assumptions lit has in
    ap (lit_true bits) (sym index.2) ∙ list_all_at (lit_true bits) assumptions index.0 0 all index.1

-- a live clause of negated assumptions leaves no bits
pub closed-hopeless : (state : State) (assumptions clause : List ℕ) (id : ℕ) → DerivedFollow state → live_clause state id ≡ Some clause → IsClosedBy assumptions clause → (bits : List Bool) → meets_all bits state.given ≡ true → list_all (lit_true bits) assumptions ≡ true → ⊥
closed-hopeless state assumptions clause id follow named closed bits meets all =
    let truth = live-true state bits meets (follow bits meets) id clause named in
    let found = list_any_index (lit_true bits) clause 0 truth in
    let lit : ℕ = get_or clause found.0 0 in
    let other = assumed-true bits assumptions (negation_of (get_or clause found.0 0)) all (closed (get_or clause found.0 0) (Contains-get_or clause found.0 0 found.1)) in
    true≢false (sym other ∙ lit_true-negation bits (get_or clause found.0 0) ∙ ap not found.2)

-- an id of such a record refutes
pub IsRefutation-closed : (l : Learner) (assumptions : List ℕ) (id at : ℕ) → IsLearner l → at < length l.trail.records → (record_at l.trail.records at).id ≡ id → IsClosedBy assumptions (record_at l.trail.records at).lits → IsRefutation (solver_state l) assumptions id
IsRefutation-closed l assumptions id at s within named closed =
    let state : State = state_of l.trail.records l.given in
    let found : live_clause (state_of l.trail.records l.given) id ≡ Some (record_at l.trail.records at).lits =
    ap (λ (i : ℕ). live_clause (state_of l.trail.records l.given) i) (sym named) ∙ live-at l.trail.records l.given at s.records within in
    let P : Option (List ℕ) → Type 0 = λ o. MatchOption o ⊥ (IsClosedBy assumptions) in
    record {
      named = subst P (sym found) closed;
      hopeless = closed-hopeless (state_of l.trail.records l.given) assumptions (record_at l.trail.records at).lits id s.records.follow found closed;
    }

-- a literal by its variable and sign
positive-code : (lit : ℕ) → is_negative lit ≡ false → 2 * variable_of lit ≡ lit
positive-code lit h = grind (arith, nat_tests)

negative-code : (lit : ℕ) → is_negative lit ≡ true → 2 * variable_of lit ≡ negation_of lit
unfolding negation_of
negative-code lit h = grind (arith, nat_tests)

-- what the bits of a trail make of a literal
lit-positive : (t : TrailState) (bits : List Bool) (lit : ℕ) → AreBits t bits → is_negative lit ≡ false → lit_true bits lit ≡ is_true t.places lit
unfolding lit_true
lit-positive t bits lit b h =
    ap (λ (s : Bool). cond s (not (get_or bits (variable_of lit) false)) (get_or bits (variable_of lit) false)) h
    ∙ b.each (variable_of lit) ∙ ap (is_true t.places) (positive-code lit h)

lit-negative : (t : TrailState) (bits : List Bool) (lit : ℕ) → AreBits t bits → is_negative lit ≡ true → lit_true bits lit ≡ not (is_false t.places lit)
unfolding lit_true
lit-negative t bits lit b h =
    ap (λ (s : Bool). cond s (not (get_or bits (variable_of lit) false)) (get_or bits (variable_of lit) false)) h
    ∙ ap not (b.each (variable_of lit) ∙ ap (is_true t.places) (negative-code lit h))

-- a literal that is true on the trail is true
pub true-in_bits : (t : TrailState) (bits : List Bool) (lit : ℕ) → IsTrail t → AreBits t bits → is_true t.places lit ≡ true → lit_true bits lit ≡ true
true-in_bits t bits lit f b on =
    elim (cases_Bool (is_negative lit)) [
      | inl negative ↦
          lit-negative t bits lit b negative ∙ (elim (cases_Bool (is_false t.places lit)) [
            | inl also ↦ absurd (not_both t lit f on also)
            | inr free ↦ ap not free
          ])
      | inr positive ↦ lit-positive t bits lit b positive ∙ on
    ]

-- a literal that is not false is true, or positive and unassigned
free-true : (t : TrailState) (bits : List Bool) (lit : ℕ) → IsTrail t → AreBits t bits → is_false t.places lit ≡ false → (is_negative lit ≡ false → place_of t.places (variable_of lit) ≢ None) → lit_true bits lit ≡ true
free-true t bits lit f b off assigned =
    elim (cases_Bool (is_negative lit)) [
      | inl negative ↦ lit-negative t bits lit b negative ∙ ap not off
      | inr positive ↦ elim (place_of-cases (place_of t.places (variable_of lit))) [
        | inl (p, is) ↦
            let found = place_of-found t.places (variable_of lit) p is in
            elim (true-or-false t.places p lit found.0 found.1) [
              | inl on ↦ true-in_bits t bits lit f b on
              | inr also ↦ absurd (false≢true (sym off ∙ also))
            ]
        | inr none ↦ absurd (assigned positive none)
      ]
    ]

-- a clause that is not false has a literal that is not
not_false-lit : (places : List Place) (lits : List ℕ) → is_false_clause places lits ≡ false → (k : ℕ) × (k < length lits) × (is_false places (get_or lits k 0) ≡ false)
not_false-lit places [] h = absurd (true≢false h)
not_false-lit places (lit ∷ lits) h =
    elim (cases_Bool (is_false places lit)) [
      | inl on ↦ let rest = not_false-lit places lits (rw on at h) in let lt = rest.1 in (suc rest.0, omega arith, rest.2)
      | inr off ↦ (0, omega arith, off)
    ]

-- the bits make each given clause true
pub given-true : (l : Learner) (bits : List Bool) (at : ℕ) → IsTrail l.trail → IsLearner l → IsPropagated l.trail → AreAssigned l.order l.trail.places → AreBits l.trail bits → at < l.given → clause_true bits (record_at l.trail.records at).lits ≡ true
given-true l bits at f s p assigned b lt =
    let enough = s.records.enough in
    let open_clause = p.no_false at (s.records.live at (omega arith)) in
    let found = not_false-lit l.trail.places (record_at l.trail.records at).lits open_clause in
    let lit : ℕ = get_or (record_at l.trail.records at).lits found.0 0 in
    let has = Contains-get_or (record_at l.trail.records at).lits found.0 0 found.1 in
    list_any_at (lit_true bits) (record_at l.trail.records at).lits found.0 0 found.1
    (free-true l.trail bits (get_or (record_at l.trail.records at).lits found.0 0) f b found.2 (λ positive. assigned (variable_of (get_or (record_at l.trail.records at).lits found.0 0)) (s.noted at (get_or (record_at l.trail.records at).lits found.0 0) lt has positive)))

-- so they meet all of them
given-meets : (bits : List Bool) (records : List Record) (n : ℕ) → n ≤ length records → ((at : ℕ) → at < n → clause_true bits (record_at records at).lits ≡ true) → meets_all bits (map (λ r. r.lits) (take n records)) ≡ true
given-meets bits records zero le each = refl
given-meets bits [] (suc n) le each = absurd (omega arith)
given-meets bits (r ∷ records) (suc n) le each =
    and_from (clause_true bits r.lits) (meets_all bits (map (λ (q : Record). q.lits) (take n records))) (each 0 (omega arith)) (given-meets bits records n (omega arith) (λ at lt. each (suc at) (omega arith)))

given-state : (bits : List Bool) (records : List Record) (n : ℕ) → meets_all bits (map (λ r. r.lits) (take n records)) ≡ true → meets_all bits (state_of records n).given ≡ true
unfolding state_of
given-state bits records n h = h

pub IsModel-bits : (l : Learner) (assumptions : List ℕ) (bits : List Bool) → IsTrail l.trail → IsLearner l → IsPropagated l.trail → AreAssigned l.order l.trail.places → AreBits l.trail bits → ((lit : ℕ) → Contains assumptions lit → is_true l.trail.places lit ≡ true) → IsModel (solver_state l) assumptions bits
IsModel-bits l assumptions bits f s p assigned b all = record {
  counted = b.counted;
  given = given-state bits l.trail.records l.given (given-meets bits l.trail.records l.given s.records.enough (λ at lt. given-true l bits at f s p assigned b lt));
  assumed = list_all_from (lit_true bits) assumptions 0 (λ k lt. true-in_bits l.trail bits (get_or assumptions k 0) f b (all (get_or assumptions k 0) (Contains-get_or assumptions k 0 lt)));
}
