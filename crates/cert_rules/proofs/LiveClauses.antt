-- What two states with the same clauses have under an id.
use Rattle.std.proofs.Common.{ℕ, zero, suc, ◌-◌, eqb, List, [], ◌∷◌, Option, Some, None, sym, ap, ◌∙◌, inl, inr}
use Rattle.std.specs.Prelude.{slice_get}
use Rattle.std.proofs.lemmas.Bool.{cases_Bool}
use Rattle.lits_core.specs.Derivation.{State, or_else, given_clause, derived_clause, live_clause, SameLits, SameGiven, SameDerived, SameState}

-- neither clause is there, or both are and have the same literals
abbrev pub AreAlike : Option (List ℕ) → Option (List ℕ) → Type 0
AreAlike None None = Unit {0}
AreAlike None (Some other) = ⊥
AreAlike (Some one) None = ⊥
AreAlike (Some one) (Some other) = SameLits one other

alike_or_else : (a b c d : Option (List ℕ)) → AreAlike a b → AreAlike c d → AreAlike (or_else a c) (or_else b d)
alike_or_else None None c d one other = other
alike_or_else None (Some b) c d one other = absurd one
alike_or_else (Some a) None c d one other = absurd one
alike_or_else (Some a) (Some b) c d one other = one

alike_at : (cs ds : List (List ℕ)) (place : ℕ) → SameGiven cs ds → AreAlike (slice_get cs place) (slice_get ds place)
alike_at [] [] place same = tt
alike_at [] (d ∷ ds) place same = absurd same
alike_at (c ∷ cs) [] place same = absurd same
alike_at (c ∷ cs) (d ∷ ds) zero same = same.0
alike_at (c ∷ cs) (d ∷ ds) (suc place) same = alike_at cs ds place same.1

alike_given : (cs ds : List (List ℕ)) (id : ℕ) → SameGiven cs ds → AreAlike (given_clause cs id) (given_clause ds id)
alike_given cs ds id same =
    elim (cases_Bool (eqb id 0)) [ inl none ↦ rw none tt | inr some ↦ rw some (alike_at cs ds (id - 1) same) ]

alike_derived : (cs ds : List (ℕ × List ℕ)) (id : ℕ) → SameDerived cs ds → AreAlike (derived_clause cs id) (derived_clause ds id)
alike_derived [] [] id same = tt
alike_derived [] (d ∷ ds) id same = absurd same
alike_derived (c ∷ cs) [] id same = absurd same
alike_derived (c ∷ cs) (d ∷ ds) id same =
    elim (cases_Bool (eqb c.0 id)) [
      | inl here ↦ rw (here, (sym (ap (λ (n : ℕ). eqb n id) same.0) ∙ here)) same.1
      | inr later ↦ rw (later, (sym (ap (λ (n : ℕ). eqb n id) same.0) ∙ later)) (alike_derived cs ds id same.2)
    ]

-- so have they one live clause, up to the order of its literals, or none
pub alike_live : (one other : State) (id : ℕ) → SameState one other → AreAlike (live_clause one id) (live_clause other id)
alike_live one other id same =
    alike_or_else (given_clause one.given id) (given_clause other.given id) (derived_clause one.derived id) (derived_clause other.derived id)
    (alike_given one.given other.given id same.same_given) (alike_derived one.derived other.derived id same.same_derived)
