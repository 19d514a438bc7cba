-- Clauses that a conflict taught, once they are noted.
use Rattle.std.proofs.Common.{◌≡◌, ◌∙◌, ◌⊎◌, ℕ, zero, suc, true, List, ◌∷◌, get_or, Option, Some, None, refl, sym, ap, subst, arith, inl, inr}
use Rattle.std.specs.List.{Contains}
use Rattle.std.proofs.lemmas.List.Sorted.{IsPermutation-sym, Contains-permutation}
use Rattle.lits_core.specs.Literals.{variable_of, negation_of}
use Rattle.clause_arena.specs.Records.{record_at}
use Rattle.watch_arena.specs.declared.places.Place.{Place}
use Rattle.watch_arena.specs.Places.{place_of, is_false}
use Rattle.watch_arena.specs.Trails.{TrailState, IsTrail, IsReason, places_up_to}
use Rattle.watch_arena.proofs.ByIndex.{list_all_at}
use Rattle.watch_arena.proofs.WatchedPair.{index_of}
use Rattle.conflict_clause.specs.Taught.{is_decided, IsLearnt, IsClosing}
use Rattle.learn_solver.specs.Learners.{IsClosed, IsStored, KeepsPlaces}
use Rattle.learn_solver.proofs.Cuts.{unassigned-back, false-back}

-- a closing clause that was stored
pub IsClosed-stored : (old new : TrailState) (stands : Option ℕ) (lits hints : List ℕ) (at id : ℕ) → IsClosing old stands lits hints → KeepsPlaces old new → IsStored new lits at → (record_at new.records at).id ≡ id → IsClosed new stands id
IsClosed-stored old new stands lits hints at id closing kept stored named = record {
  at = at;
  within = stored.within;
  named = named;
  closed = λ lit has.
      subst (λ (ps : List Place). (stands ≡ Some lit) ⊎ (is_decided ps (negation_of lit) ≡ true)) (sym kept.places)
      (closing.closed lit (Contains-permutation (record_at new.records at).lits lits lit (IsPermutation-sym lits (record_at new.records at).lits stored.lits_are) has));
}

-- the literals of a list after its first one
contains-split : (first lit : ℕ) (others : List ℕ) → Contains (first ∷ others) lit → (first ≡ lit) ⊎ Contains others lit
contains-split first lit others (zero, lt, e) = inl e
contains-split first lit others (suc k, lt, e) = inr (k, omega arith, e)

-- the first literal of a learnt clause
pub first-learnt : (lits others : List ℕ) (first lit : ℕ) → lits ≡ first ∷ others → lit ≡ get_or lits 0 lit → lit ≡ first
first-learnt lits others first lit split is = is ∙ ap (λ (ls : List ℕ). get_or ls 0 lit) split

-- it is unassigned once the trail went back
pub first-unassigned : (t : TrailState) (lits hints : List ℕ) (back : ℕ) (l : IsLearnt t lits hints back) → IsTrail t → place_of (places_up_to t.places back) (variable_of l.first) ≡ None
first-unassigned t lits hints back l f =
    let level = l.at_the_level in let below = l.below in
    unassigned-back t back l.first f (omega arith)

-- and the clause implies it
pub IsReason-learnt : (old new : TrailState) (lits hints : List ℕ) (back at : ℕ) (l : IsLearnt old lits hints back) → IsTrail old → KeepsPlaces old new → IsStored new lits at → IsReason new.records (places_up_to new.places back) l.first at
IsReason-learnt old new lits hints back at l f kept stored = record {
  live = stored.live;
  has = Contains-permutation lits (record_at new.records at).lits l.first stored.lits_are (subst (λ (ls : List ℕ). Contains ls l.first) (sym l.split) (0, omega arith, refl));
  others = λ m has ne.
      let there = Contains-permutation (record_at new.records at).lits lits m (IsPermutation-sym lits (record_at new.records at).lits stored.lits_are) has in
      elim (contains-split l.first m l.others (subst (λ (ls : List ℕ). Contains ls m) l.split there)) [
        | inl same ↦ absurd (ne (sym same))
        | inr other ↦
            let index = index_of lits m there in
            let false_there : is_false old.places m ≡ true = ap (is_false old.places) (sym index.2) ∙ list_all_at (is_false old.places) lits index.0 0 l.all_false index.1 in
            ap (λ (ps : List Place). is_false (places_up_to ps back) m) kept.places ∙ false-back old back m f false_there (l.up_to m other)
      ];
}
