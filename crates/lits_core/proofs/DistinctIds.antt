-- No two live clauses share an id, after valid lines too.
use Rattle.std.proofs.Common.{◌≡◌, ℕ, Bool, true, false, eqb, ◌&&◌, List, [], ◌∷◌, ◌++◌, Option, Some, None, refl, sym, inl, inr}
use Rattle.std.specs.Prelude.{is_none, is_some}
use Rattle.std.specs.List.{list_all}
use Rattle.std.proofs.lemmas.Bool.{cases_Bool, and_parts, and_from, false≢true, true≢false, eqb-false, ne_eqb}
use Rattle.lits_core.specs.Derivation.{State, or_else, given_clause, derived_clause, live_clause, without_id, without_ids, line_fault, next_state, state_after, is_valid_derivation, first_state, distinct_ids, has_distinct_ids}
use Rattle.lits_core.specs.declared.Line.{Line}
use Rattle.lits_core.specs.declared.Line.TheVariants.{Derive, Forget}
use Rattle.lits_core.specs.declared.LineFault.TheVariants.{IdUsed}
use Rattle.lits_core.proofs.DerivationLemmas.{is_none-None}

pub eqb-other : (a b : ℕ) → eqb a b ≡ false → eqb b a ≡ false
eqb-other a b h = ne_eqb b a (λ e. eqb-false a b h (sym e))

-- an id that is neither that of an entry nor of the entries is not that of the entries with it
pub absent-push : (entries : List (ℕ × List ℕ)) (id other : ℕ) (clause : List ℕ) → is_none (derived_clause entries other) ≡ true → eqb id other ≡ false → is_none (derived_clause (entries ++ (id, clause) ∷ []) other) ≡ true
absent-push [] id other clause h e = rw e refl
absent-push (entry ∷ entries) id other clause h e =
    elim (cases_Bool (eqb entry.0 other)) [
      | inl same ↦ absurd (false≢true (rw same at h))
      | inr apart ↦ rw apart (absent-push entries id other clause (rw apart at h) e)
    ]

pub absent-without : (entries : List (ℕ × List ℕ)) (id other : ℕ) → is_none (derived_clause entries other) ≡ true → is_none (derived_clause (without_id entries id) other) ≡ true
absent-without [] id other h = refl
absent-without (entry ∷ entries) id other h =
    elim (cases_Bool (eqb entry.0 other)) [
      | inl same ↦ absurd (false≢true (rw same at h))
      | inr apart ↦ elim (cases_Bool (eqb entry.0 id)) [
        | inl out ↦ rw out (rw apart at h)
        | inr kept ↦ rw (kept, apart) (absent-without entries id other (rw apart at h))
      ]
    ]

pub distinct-push : (entries : List (ℕ × List ℕ)) (id : ℕ) (clause : List ℕ) → distinct_ids entries ≡ true → is_none (derived_clause entries id) ≡ true → distinct_ids (entries ++ (id, clause) ∷ []) ≡ true
distinct-push [] id clause h e = refl
distinct-push (entry ∷ entries) id clause h e = let parts = and_parts (is_none (derived_clause entries entry.0)) (distinct_ids entries) h in
    elim (cases_Bool (eqb entry.0 id)) [
      | inl same ↦ absurd (false≢true (rw same at e))
      | inr apart ↦ and_from _ _ (absent-push entries id entry.0 clause parts.0 (eqb-other entry.0 id apart)) (distinct-push entries id clause parts.1 (rw apart at e))
    ]

pub distinct-without : (entries : List (ℕ × List ℕ)) (id : ℕ) → distinct_ids entries ≡ true → distinct_ids (without_id entries id) ≡ true
distinct-without [] id h = refl
distinct-without (entry ∷ entries) id h = let parts = and_parts (is_none (derived_clause entries entry.0)) (distinct_ids entries) h in
    elim (cases_Bool (eqb entry.0 id)) [
      | inl out ↦ rw out parts.1
      | inr kept ↦ rw kept (and_from _ _ (absent-without entries id entry.0 parts.0) (distinct-without entries id parts.1))
    ]

-- what each entry passes, each does after one more that passes, and after some are taken out
all-push : (p : ℕ × List ℕ → Bool) (entries : List (ℕ × List ℕ)) (entry : ℕ × List ℕ) → list_all p entries ≡ true → p entry ≡ true → list_all p (entries ++ entry ∷ []) ≡ true
all-push p [] entry h e = and_from _ _ e refl
all-push p (other ∷ entries) entry h e = let parts = and_parts (p other) (list_all p entries) h in and_from _ _ parts.0 (all-push p entries entry parts.1 e)

all-without : (p : ℕ × List ℕ → Bool) (entries : List (ℕ × List ℕ)) (id : ℕ) → list_all p entries ≡ true → list_all p (without_id entries id) ≡ true
all-without p [] id h = refl
all-without p (entry ∷ entries) id h = let parts = and_parts (p entry) (list_all p entries) h in
    elim (cases_Bool (eqb entry.0 id)) [
      | inl out ↦ rw out parts.1
      | inr kept ↦ rw kept (and_from _ _ parts.0 (all-without p entries id parts.1))
    ]

-- both facts after some ids are taken out
kept-without_ids : (p : ℕ × List ℕ → Bool) (entries : List (ℕ × List ℕ)) (ids : List ℕ) → (list_all p entries && distinct_ids entries) ≡ true → (list_all p (without_ids entries ids) && distinct_ids (without_ids entries ids)) ≡ true
kept-without_ids p entries [] h = h
kept-without_ids p entries (id ∷ ids) h = let parts = and_parts (list_all p entries) (distinct_ids entries) h in
    kept-without_ids p (without_id entries id) ids (and_from _ _ (all-without p entries id parts.0) (distinct-without entries id parts.1))

-- an id of no live clause is that of no given one and of no derived one
pub absent-parts : (a b : Option (List ℕ)) → is_some (or_else a b) ≡ false → (is_none a ≡ true) × (is_none b ≡ true)
absent-parts None None h = (refl, refl)
absent-parts None (Some clause) h = absurd (true≢false h)
absent-parts (Some clause) b h = absurd (true≢false h)

pub distinct-next : (state : State) (line : Line) → has_distinct_ids state ≡ true → line_fault state line ≡ None → has_distinct_ids (next_state state line) ≡ true
distinct-next state (Derive id lits hints) h e =
    let free = λ (entry : ℕ × List ℕ). is_none (given_clause state.given entry.0) in
    let parts = and_parts (list_all free state.derived) (distinct_ids state.derived) h in
    elim (cases_Bool (is_some (live_clause state id))) [
      | inl used ↦ let fault : Some IdUsed ≡ None = rw used at e in cc
      | inr new ↦ let absent = absent-parts (given_clause state.given id) (derived_clause state.derived id) new in
          and_from _ _ (all-push free state.derived (id, lits) parts.0 absent.0) (distinct-push state.derived id lits parts.1 absent.1)
    ]
distinct-next state (Forget ids) h e = kept-without_ids (λ entry. is_none (given_clause state.given entry.0)) state.derived ids h

pub distinct-state_after : (state : State) (lines : List Line) → has_distinct_ids state ≡ true → is_valid_derivation state lines ≡ true → has_distinct_ids (state_after state lines) ≡ true
distinct-state_after state [] h e = h
distinct-state_after state (line ∷ lines) h e = let parts = and_parts (is_none (line_fault state line)) (is_valid_derivation (next_state state line) lines) e in
    distinct-state_after (next_state state line) lines (distinct-next state line h (is_none-None _ parts.0)) parts.1

pub distinct-first : (clauses : List (List ℕ)) → has_distinct_ids (first_state clauses) ≡ true
distinct-first clauses = refl
