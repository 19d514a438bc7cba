-- Slots with the map of their places.
use Rattle.std.proofs.Common.{◌≡◌, ℕ, true, false, cond, eqb, List, [], ◌∷◌, ◌++◌, Option, Some, None, refl, sym, ap, subst, ◌∙◌, ⊎_elim, length, set, ◌<◌, arith}
use Rattle.std.proofs.lemmas.Bool.{cases_Bool, cases_eq, cases_lt, eqb-true, eqb-false, eq-eqb, ne_eqb, cond-true, cond-false}
use Rattle.lits_core.specs.Derivation.{derived_clause, distinct_ids, without_id}
use Rattle.proof_check.specs.declared.places.Places.{Places}
use Rattle.proof_check.specs.Slots.{filled, entry_at, id_of, place_of, PlacesAre}
use Rattle.proof_check.proofs.SlotLemmas.{lits_of, OnlyAt, absent-none, at-clause, at-within, at-push, at-end, within-push, at-emptied, emptied-none, filled-emptied, absent-without, distinct-filled}

-- an entry at a place is the only one with its id
only : (slots : List (Option (ℕ × List ℕ))) (places : Places) (id place : ℕ) → PlacesAre slots places → place_of places id ≡ Some place → OnlyAt slots id place
only slots places id place are at other e = let two : place_of places id ≡ Some other = are.found id other e in let same : Some other ≡ Some place = sym two ∙ at in cc

pub found-clause : (slots : List (Option (ℕ × List ℕ))) (places : Places) (id place : ℕ) → PlacesAre slots places → place_of places id ≡ Some place → derived_clause (filled slots) id ≡ lits_of (entry_at slots place)
found-clause slots places id place are at = at-clause slots id place (are.kept id place at) (only slots places id place are at)

absent : (slots : List (Option (ℕ × List ℕ))) (places : Places) (id place : ℕ) → PlacesAre slots places → place_of places id ≡ None → id_of (entry_at slots place) ≡ Some id → ⊥
absent slots places id place are none e = let at : place_of places id ≡ Some place = are.found id place e in let two : None ≡ Some place = sym none ∙ at in cc

pub missing-clause : (slots : List (Option (ℕ × List ℕ))) (places : Places) (id : ℕ) → PlacesAre slots places → place_of places id ≡ None → derived_clause (filled slots) id ≡ None
missing-clause slots places id are none = absent-none slots id (λ place e. absent slots places id place are none e)

pub missing-without : (slots : List (Option (ℕ × List ℕ))) (places : Places) (id : ℕ) → PlacesAre slots places → place_of places id ≡ None → without_id (filled slots) id ≡ filled slots
missing-without slots places id are none = absent-without slots id (λ place e. absent slots places id place are none e)

pub found-within : (slots : List (Option (ℕ × List ℕ))) (places : Places) (id place : ℕ) → PlacesAre slots places → place_of places id ≡ Some place → place < length slots
found-within slots places id place are at = at-within slots id place (are.kept id place at)

pub found-without : (slots : List (Option (ℕ × List ℕ))) (places : Places) (id place : ℕ) → PlacesAre slots places → place_of places id ≡ Some place → filled (set slots place None) ≡ without_id (filled slots) id
found-without slots places id place are at = filled-emptied slots id place (are.kept id place at) (only slots places id place are at)

pub distinct-places : (slots : List (Option (ℕ × List ℕ))) (places : Places) → PlacesAre slots places → distinct_ids (filled slots) ≡ true
distinct-places slots places are =
    distinct-filled slots (λ id place other a b. let one = are.found id place a in let two = are.found id other b in let same : Some place ≡ Some other = sym one ∙ two in cc)

-- an entry with an id has a clause
has_clause : (entry : Option (ℕ × List ℕ)) (id : ℕ) → id_of entry ≡ Some id → lits_of entry ≡ None → ⊥
has_clause None id e n = cc
has_clause (Some entry) id e n = cc

-- an id of no entry has no place
pub missing-place : (slots : List (Option (ℕ × List ℕ))) (places : Places) (id : ℕ) (found : Option ℕ) → PlacesAre slots places → derived_clause (filled slots) id ≡ None → place_of places id ≡ found → found ≡ None
missing-place slots places id None are free e = refl
missing-place slots places id (Some place) are free e = absurd (has_clause (entry_at slots place) id (are.kept id place e) (sym (found-clause slots places id place are e) ∙ free))

pub places-push : (slots : List (Option (ℕ × List ℕ))) (places new : Places) (id : ℕ) (lits : List ℕ) → PlacesAre slots places → derived_clause (filled slots) id ≡ None → ((q : ℕ) → place_of new q ≡ cond (eqb id q) (Some (length slots)) (place_of places q)) → PlacesAre (slots ++ Some (id, lits) ∷ []) new
places-push slots places new id lits are free put = record {
  kept = λ q place e. ⊎_elim
      (λ same. let at : Some (length slots) ≡ Some place = sym (put_here q same) ∙ e in let is : length slots ≡ place = cc in
      subst (λ (n : ℕ). id_of (entry_at (slots ++ Some (id, lits) ∷ []) n) ≡ Some q) is (ap id_of (at-end slots (Some (id, lits))) ∙ ap Some (eqb-true id q same)))
      (λ other. let had : place_of places q ≡ Some place = sym (put_other q other) ∙ e in
      ap id_of (at-push slots (Some (id, lits)) place (found-within slots places q place are had)) ∙ are.kept q place had)
      (cases_Bool (eqb id q));
  found = λ q place e. ⊎_elim
      (λ below. let had : id_of (entry_at slots place) ≡ Some q = sym (ap id_of (at-push slots (Some (id, lits)) place below)) ∙ e in
      let at : place_of places q ≡ Some place = are.found q place had in
      put_other q (ne_eqb id q (λ is. has_clause (entry_at slots place) q had (sym (found-clause slots places q place are at) ∙ ap (derived_clause (filled slots)) (sym is) ∙ free))) ∙ at)
      (λ past. let bound = within-push slots (id, lits) q place e in let is : place ≡ length slots = omega arith in
      let last : Some id ≡ Some q = sym (ap id_of (ap (entry_at (slots ++ Some (id, lits) ∷ [])) is ∙ at-end slots (Some (id, lits)))) ∙ e in
      let same : id ≡ q = cc in put_here q (eq-eqb id q same) ∙ ap Some (sym is))
      (cases_lt place (length slots));
}
  where
    put_here : (q : ℕ) → eqb id q ≡ true → place_of new q ≡ Some (length slots)
    put_here q same = put q ∙ cond-true (eqb id q) (Some (length slots)) (place_of places q) same

    put_other : (q : ℕ) → eqb id q ≡ false → place_of new q ≡ place_of places q
    put_other q other = put q ∙ cond-false (eqb id q) (Some (length slots)) (place_of places q) other

pub places-remove : (slots : List (Option (ℕ × List ℕ))) (places new : Places) (id place : ℕ) → PlacesAre slots places → place_of places id ≡ Some place → ((q : ℕ) → place_of new q ≡ cond (eqb id q) None (place_of places q)) → PlacesAre (set slots place None) new
places-remove slots places new id place are at out = record {
  kept = λ q other e. ⊎_elim
      (λ same. let none : None ≡ Some other = sym (out_here q same) ∙ e in cc)
      (λ apart. let had : place_of places q ≡ Some other = sym (out_other q apart) ∙ e in
      ap id_of (at-emptied slots place other (λ is. let two : Some id ≡ Some q = sym (are.kept id place at) ∙ ap (λ (n : ℕ). id_of (entry_at slots n)) (sym is) ∙ are.kept q other had in let one : id ≡ q = cc in eqb-false id q apart one))
      ∙ are.kept q other had)
      (cases_Bool (eqb id q));
  found = λ q other e. ⊎_elim
      (λ is. let none : None ≡ Some q = sym (ap id_of (ap (entry_at (set slots place None)) is ∙ emptied-none slots place)) ∙ e in cc)
      (λ apart. let had : id_of (entry_at slots other) ≡ Some q = sym (ap id_of (at-emptied slots place other apart)) ∙ e in
      let was : place_of places q ≡ Some other = are.found q other had in
      out_other q (ne_eqb id q (λ is. let two : Some place ≡ Some other = sym at ∙ ap (place_of places) is ∙ was in let one : other ≡ place = cc in apart one)) ∙ was)
      (cases_eq other place);
}
  where
    out_here : (q : ℕ) → eqb id q ≡ true → place_of new q ≡ None
    out_here q same = out q ∙ cond-true (eqb id q) None (place_of places q) same

    out_other : (q : ℕ) → eqb id q ≡ false → place_of new q ≡ place_of places q
    out_other q other = out q ∙ cond-false (eqb id q) None (place_of places q) other
