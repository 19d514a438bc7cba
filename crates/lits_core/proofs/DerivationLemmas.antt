-- Derived clauses follow: bits that meet the given clauses meet each clause that valid lines derive.
use Rattle.std.proofs.Common.{◌≡◌, ℕ, zero, suc, ◌-◌, Bool, true, false, not, eqb, List, [], ◌∷◌, ◌++◌, map, Option, Some, None, refl, sym, ap, subst, ◌∙◌, ⊎_elim, inl, inr}
use Rattle.std.specs.Prelude.{slice_get, is_none, is_some}
use Rattle.std.specs.List.{list_any, list_all}
use Rattle.std.proofs.lemmas.Bool.{cases_Bool, and_parts, and_from, or_parts, or_from, or_cases, or_left, or_right, true_from_ne_false, false≢true, eqb-true}
use Rattle.lits_core.specs.Literals.{negation_of, lit_true, clause_true, meets_all}
use Rattle.lits_core.specs.Derivation.{State, or_else, given_clause, derived_clause, live_clause, has_lit, open_lits, hint_of, hint_fault, named_fault, hints_fault, without_id, without_ids, line_fault, next_state, state_after, is_valid_derivation, derived_clauses, DerivedFollow, first_state}
use Rattle.lits_core.specs.declared.Line.{Line}
use Rattle.lits_core.specs.declared.Line.TheVariants.{Derive, Forget}
use Rattle.lits_core.specs.declared.LineFault.{LineFault}
use Rattle.lits_core.specs.declared.LineFault.TheVariants.{HintNotUnit, IdUsed}
use Rattle.lits_core.proofs.LiteralLemmas.{lit_true-negation}

-- where no literal of a list passes, one that the list has does not
passes_not : (p : ℕ → Bool) (lits : List ℕ) (lit : ℕ) → list_any p lits ≡ false → has_lit lits lit ≡ true → p lit ≡ false
passes_not p [] lit h e = absurd (false≢true e)
passes_not p (l ∷ lits) lit h e = let parts = or_parts (p l) (list_any p lits) h in
    ⊎_elim (λ same. ap p (sym (eqb-true l lit same)) ∙ parts.0) (λ later. passes_not p lits lit parts.1 later) (or_cases (eqb l lit) (has_lit lits lit) e)

-- the open literals of a clause with a true literal have one too, where those held false are false
open-true : (p : ℕ → Bool) (falses clause : List ℕ) → list_any p falses ≡ false → list_any p clause ≡ true → list_any p (open_lits falses clause) ≡ true
open-true p falses [] h e = e
open-true p falses (l ∷ clause) h e =
    elim (cases_Bool (has_lit falses l)) [
      | inl held ↦ rw held (open-true p falses clause h (rw (passes_not p falses l h held) at e))
      | inr free ↦ rw free (⊎_elim (λ here. or_left _ _ here) (λ later. or_right _ _ (open-true p falses clause h later)) (or_cases (p l) (list_any p clause) e))
    ]

-- where all are one literal and one of them passes, that literal does
passes-same : (p : ℕ → Bool) (lit : ℕ) (lits : List ℕ) → list_all (λ l. eqb l lit) lits ≡ true → list_any p (lit ∷ lits) ≡ true → p lit ≡ true
passes-same p lit [] h e = ⊎_elim (λ here. here) (λ later. absurd (false≢true later)) (or_cases (p lit) false e)
passes-same p lit (l ∷ lits) h e = let parts = and_parts (eqb l lit) (list_all (λ l. eqb l lit) lits) h in
    ⊎_elim (λ here. here) (λ later. passes-same p lit lits parts.1 (rw (eqb-true l lit parts.0) at later)) (or_cases (p lit) (list_any p (l ∷ lits)) e)

-- a literal that joins those held false is false
joined-false : (bits : List Bool) (falses : List ℕ) (lit : ℕ) → lit_true bits lit ≡ true → clause_true bits falses ≡ false → clause_true bits (negation_of lit ∷ falses) ≡ false
joined-false bits falses lit t f = or_from _ _ (lit_true-negation bits lit ∙ ap not t) f

-- a hint with a true clause never ends the line, where the further hints do not
hint-no_end : (bits : List Bool) (falses open_ones : List ℕ) (further : ℕ → Option LineFault) → clause_true bits open_ones ≡ true → clause_true bits falses ≡ false → ((lit : ℕ) → clause_true bits (negation_of lit ∷ falses) ≡ false → further lit ≡ None → ⊥) → hint_fault (hint_of open_ones) further ≡ None → ⊥
hint-no_end bits falses [] further t f next e = false≢true t
hint-no_end bits falses (lit ∷ lits) further t f next e =
    elim (cases_Bool (list_all (λ l. eqb l lit) lits)) [
      | inl same ↦ next lit (joined-false bits falses lit (passes-same (lit_true bits) lit lits same t) f) (rw same at e)
      | inr other ↦ let fault : Some HintNotUnit ≡ None = rw other at e in cc
    ]

-- and neither does what a hint names, where its clause is true
named-no_end : (bits : List Bool) (falses : List ℕ) (named : Option (List ℕ)) (further : ℕ → Option LineFault) → ((clause : List ℕ) → named ≡ Some clause → clause_true bits clause ≡ true) → clause_true bits falses ≡ false → ((lit : ℕ) → clause_true bits (negation_of lit ∷ falses) ≡ false → further lit ≡ None → ⊥) → named_fault named falses further ≡ None → ⊥
named-no_end bits falses None further live f next e = cc
named-no_end bits falses (Some clause) further live f next e =
    hint-no_end bits falses (open_lits falses clause) further (open-true (lit_true bits) falses clause f (live clause refl)) f next e

-- bits that make all live clauses true and all literals held false false rule out that the hints have no fault
hints-no_end : (state : State) (bits : List Bool) → ((id : ℕ) (clause : List ℕ) → live_clause state id ≡ Some clause → clause_true bits clause ≡ true) → (hints falses : List ℕ) → clause_true bits falses ≡ false → hints_fault state hints falses ≡ None → ⊥
hints-no_end state bits live [] falses f e = cc
hints-no_end state bits live (hint ∷ hints) falses f e =
    named-no_end bits falses (live_clause state hint) (λ lit. hints_fault state hints (negation_of lit ∷ falses)) (live hint) f (λ lit held. hints-no_end state bits live hints (negation_of lit ∷ falses) held) e

-- the derived clauses of a list, without their ids
abbrev clauses_of : List (ℕ × List ℕ) → List (List ℕ)
clauses_of entries = map (λ entry. entry.1) entries

-- what all clauses pass, a named one does
given-passes : (p : List ℕ → Bool) (clauses : List (List ℕ)) (place : ℕ) (clause : List ℕ) → list_all p clauses ≡ true → slice_get clauses place ≡ Some clause → p clause ≡ true
given-passes p [] place clause h e = cc
given-passes p (c ∷ clauses) zero clause h e =
    let here : c ≡ clause = cc in subst (λ (x : List ℕ). p x ≡ true) here (and_parts (p c) (list_all p clauses) h).0
given-passes p (c ∷ clauses) (suc place) clause h e = given-passes p clauses place clause (and_parts (p c) (list_all p clauses) h).1 e

derived-passes : (p : List ℕ → Bool) (entries : List (ℕ × List ℕ)) (id : ℕ) (clause : List ℕ) → list_all p (clauses_of entries) ≡ true → derived_clause entries id ≡ Some clause → p clause ≡ true
derived-passes p [] id clause h e = cc
derived-passes p (entry ∷ entries) id clause h e = let parts = and_parts (p entry.1) (list_all p (clauses_of entries)) h in
    elim (cases_Bool (eqb entry.0 id)) [
      | inl same ↦ let named : Some entry.1 ≡ Some clause = rw same at e in let here : entry.1 ≡ clause = cc in subst (λ (x : List ℕ). p x ≡ true) here parts.0
      | inr other ↦ derived-passes p entries id clause parts.1 (rw other at e)
    ]

first-passes : (p : List ℕ → Bool) (a b : Option (List ℕ)) (clause : List ℕ) → (a ≡ Some clause → p clause ≡ true) → (b ≡ Some clause → p clause ≡ true) → or_else a b ≡ Some clause → p clause ≡ true
first-passes p None b clause f g e = g e
first-passes p (Some c) b clause f g e = f e

numbered-passes : (p : List ℕ → Bool) (clauses : List (List ℕ)) (id : ℕ) (clause : List ℕ) → list_all p clauses ≡ true → given_clause clauses id ≡ Some clause → p clause ≡ true
numbered-passes p clauses id clause h e =
    elim (cases_Bool (eqb id 0)) [
      | inl none ↦ let named : None ≡ Some clause = rw none at e in cc
      | inr some ↦ given-passes p clauses (id - 1) clause h (rw some at e)
    ]

-- where the given clauses and the derived ones are true, each live clause is
pub live-true : (state : State) (bits : List Bool) → meets_all bits state.given ≡ true → meets_all bits (derived_clauses state) ≡ true → (id : ℕ) (clause : List ℕ) → live_clause state id ≡ Some clause → clause_true bits clause ≡ true
live-true state bits h d id clause e =
    first-passes (clause_true bits) (given_clause state.given id) (derived_clause state.derived id) clause (numbered-passes (clause_true bits) state.given id clause h) (derived-passes (clause_true bits) state.derived id clause d) e

-- what each derived clause passes, each does after one more that passes, and after some are taken out
passes-push : (p : List ℕ → Bool) (entries : List (ℕ × List ℕ)) (id : ℕ) (clause : List ℕ) → list_all p (clauses_of entries) ≡ true → p clause ≡ true → list_all p (clauses_of (entries ++ (id, clause) ∷ [])) ≡ true
passes-push p [] id clause h e = and_from _ _ e refl
passes-push p (entry ∷ entries) id clause h e = let parts = and_parts (p entry.1) (list_all p (clauses_of entries)) h in
    and_from _ _ parts.0 (passes-push p entries id clause parts.1 e)

passes-without : (p : List ℕ → Bool) (entries : List (ℕ × List ℕ)) (id : ℕ) → list_all p (clauses_of entries) ≡ true → list_all p (clauses_of (without_id entries id)) ≡ true
passes-without p [] id h = refl
passes-without p (entry ∷ entries) id h = let parts = and_parts (p entry.1) (list_all p (clauses_of entries)) h in
    elim (cases_Bool (eqb entry.0 id)) [
      | inl same ↦ rw same parts.1
      | inr other ↦ rw other (and_from _ _ parts.0 (passes-without p entries id parts.1))
    ]

passes-without_ids : (p : List ℕ → Bool) (entries : List (ℕ × List ℕ)) (ids : List ℕ) → list_all p (clauses_of entries) ≡ true → list_all p (clauses_of (without_ids entries ids)) ≡ true
passes-without_ids p entries [] h = h
passes-without_ids p entries (id ∷ ids) h = passes-without_ids p (without_id entries id) ids (passes-without p entries id h)

-- a line with no fault keeps that derived clauses follow
pub DerivedFollow-next : (state : State) (line : Line) → DerivedFollow state → line_fault state line ≡ None → DerivedFollow (next_state state line)
DerivedFollow-next state (Derive id lits hints) follow e bits h =
    elim (cases_Bool (is_some (live_clause state id))) [
      | inl used ↦ let fault : Some IdUsed ≡ None = rw used at e in cc
      | inr free ↦
          passes-push (clause_true bits) state.derived id lits (follow bits h)
          (true_from_ne_false (clause_true bits lits) (λ f. hints-no_end state bits (live-true state bits h (follow bits h)) hints lits f (rw free at e)))
    ]
DerivedFollow-next state (Forget ids) follow e bits h = passes-without_ids (clause_true bits) state.derived ids (follow bits h)

-- lines leave the given clauses alone
given-next : (state : State) (line : Line) → (next_state state line).given ≡ state.given
given-next state (Derive id lits hints) = refl
given-next state (Forget ids) = refl

pub given-state_after : (state : State) (lines : List Line) → (state_after state lines).given ≡ state.given
given-state_after state [] = refl
given-state_after state (line ∷ lines) = given-state_after (next_state state line) lines ∙ given-next state line

pub is_none-None : (fault : Option LineFault) → is_none fault ≡ true → fault ≡ None
is_none-None None e = refl
is_none-None (Some f) e = absurd (false≢true e)

-- valid lines keep that derived clauses follow
pub DerivedFollow-state_after : (state : State) (lines : List Line) → DerivedFollow state → is_valid_derivation state lines ≡ true → DerivedFollow (state_after state lines)
DerivedFollow-state_after state [] follow e = follow
DerivedFollow-state_after state (line ∷ lines) follow e = let parts = and_parts (is_none (line_fault state line)) (is_valid_derivation (next_state state line) lines) e in
    DerivedFollow-state_after (next_state state line) lines (DerivedFollow-next state line follow (is_none-None _ parts.0)) parts.1

pub DerivedFollow-first : (clauses : List (List ℕ)) → DerivedFollow (first_state clauses)
DerivedFollow-first clauses bits h = refl
