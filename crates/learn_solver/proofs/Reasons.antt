-- Clauses that are the reason of a place.
use Rattle.std.proofs.Common.{◌≡◌, ◌≢◌, ◌∙◌, ℕ, ◌<◌, Bool, true, false, List, length, get_or, Option, Some, None, sym, ap, inl, inr}
use Rattle.std.specs.Prelude.{◌==◌}
use Rattle.std.specs.Option.{option_map_or, option_and_then}
use Rattle.std.proofs.lemmas.Bool.{cases_Bool, eqb-true, eq-eqb, false≢true}
use Rattle.lits_core.specs.Literals.{variable_of}
use Rattle.clause_arena.specs.Records.{record_at}
use Rattle.watch_arena.specs.declared.places.Place.{Place}
use Rattle.watch_arena.specs.Places.{place_at, no_place, place_of, reason_of}
use Rattle.watch_arena.specs.Trails.{TrailState, IsTrail}
use Rattle.watch_arena.proofs.ByIndex.{list_any_at, list_any_index}
use Rattle.watch_arena.proofs.WatchedPair.{index_of}
use Rattle.learn_solver.specs.States.{is_reason}
use Rattle.learn_solver.proofs.RecordState.{live-within}
use Rattle.learn_solver.proofs.TrailPlaces.{place_of-at, place_of-found, place_of-cases}

-- a reason that is a clause
abbrev is_at : ℕ → Option ℕ → Bool
is_at at o = option_map_or (λ reason. reason == at) o false

is_at-some : (at : ℕ) (o : Option ℕ) → is_at at o ≡ true → o ≡ Some at
is_at-some at None h = absurd (false≢true h)
is_at-some at (Some reason) h = ap Some (eqb-true reason at h)

at-is_at : (at : ℕ) (o : Option ℕ) → o ≡ Some at → is_at at o ≡ true
at-is_at at None h = cc
at-is_at at (Some reason) h = let same : reason ≡ at = cc in eq-eqb reason at same

-- a place's reason
pub reason-at : (places : List Place) (p at : ℕ) → p < length places → (place_at places p).reason ≡ Some at → is_reason places at ≡ true
reason-at places p at lt is = list_any_at (λ (q : Place). is_at at q.reason) places p no_place lt (at-is_at at (place_at places p).reason is)

pub reason-index : (places : List Place) (at : ℕ) → is_reason places at ≡ true → (p : ℕ) × (p < length places) × ((place_at places p).reason ≡ Some at)
reason-index places at h =
    let found = list_any_index (λ (q : Place). is_at at q.reason) places no_place h in
    (found.0, found.1, is_at-some at (place_at places found.0).reason found.2)

-- a variable's reason is that of its place
pub reason-told : (places : List Place) (variable at : ℕ) → option_map_or (λ reason. reason == at) (reason_of places variable) false ≡ true → is_reason places at ≡ true
reason-told places variable at h =
    elim (place_of-cases (place_of places variable)) [
      | inl (p, is) ↦
          let found = place_of-found places variable p is in
          let same : reason_of places variable ≡ (place_at places p).reason = ap (λ (o : Option ℕ). option_and_then (λ k. (place_at places k).reason) o) is in
          reason-at places p at found.0 (sym same ∙ is_at-some at (reason_of places variable) h)
      | inr none ↦
          let same : reason_of places variable ≡ None = ap (λ (o : Option ℕ). option_and_then (λ k. (place_at places k).reason) o) none in
          absurd (false≢true (ap (is_at at) (sym same) ∙ h))
    ]

-- a clause that is the reason of none of its own literals is no reason
pub not_reason : (t : TrailState) (at : ℕ) → IsTrail t → ((k : ℕ) → k < length (record_at t.records at).lits → reason_of t.places (variable_of (get_or (record_at t.records at).lits k 0)) ≢ Some at) → is_reason t.places at ≡ false
not_reason t at f none =
    elim (cases_Bool (is_reason t.places at)) [
      | inl on ↦
          let found = reason-index t.places at on in
          let r = f.reasons found.0 at found.1 found.2 in
          let index = index_of (record_at t.records at).lits (place_at t.places found.0).lit r.has in
          let place = place_of-at t found.0 (variable_of (get_or (record_at t.records at).lits index.0 0)) f found.1 (ap variable_of (sym index.2)) in
          absurd (none index.0 index.1 (ap (λ (o : Option ℕ). option_and_then (λ k. (place_at t.places k).reason) o) place ∙ found.2))
      | inr off ↦ off
    ]

-- a variable's reason is a clause of the list
pub reason-live : (t : TrailState) (variable at : ℕ) → IsTrail t → reason_of t.places variable ≡ Some at → at < length t.records
reason-live t variable at f h =
    let found = reason-index t.places at (reason-told t.places variable at (at-is_at at (reason_of t.places variable) h)) in
    live-within t.records at (f.reasons found.0 at found.1 found.2).live
