-- Slots by their places.
use Rattle.std.proofs.Common.{◌≡◌, ℕ, zero, suc, true, eqb, List, [], ◌∷◌, ◌++◌, Option, Some, None, refl, sym, ap, ◌∙◌, length, get_or, set, ◌<◌, ◌≤◌, arith}
use Rattle.std.specs.Prelude.{is_none}
use Rattle.std.proofs.lemmas.Bool.{and_from, eq-eqb, ne_eqb, cond-true, cond-false}
use Rattle.lits_core.specs.Derivation.{derived_clause, distinct_ids, without_id}
use Rattle.proof_check.specs.Slots.{filled, entry_at, id_of}

-- an entry's clause
abbrev pub lits_of : Option (ℕ × List ℕ) → Option (List ℕ)
lits_of None = None
lits_of (Some entry) = Some entry.1

-- no slot has the id
abbrev pub Absent : List (Option (ℕ × List ℕ)) → ℕ → Type 0
Absent slots id = (place : ℕ) → id_of (entry_at slots place) ≡ Some id → ⊥

-- the slots that have the id are all at one place
abbrev pub OnlyAt : List (Option (ℕ × List ℕ)) → ℕ → ℕ → Type 0
OnlyAt slots id place = (other : ℕ) → id_of (entry_at slots other) ≡ Some id → other ≡ place

pub absent-none : (slots : List (Option (ℕ × List ℕ))) (id : ℕ) → Absent slots id → derived_clause (filled slots) id ≡ None
absent-none [] id h = refl
absent-none (None ∷ slots) id h = absent-none slots id (λ place. h (suc place))
absent-none (Some entry ∷ slots) id h =
    cond-false (eqb entry.0 id) _ _ (ne_eqb entry.0 id (λ e. h zero (ap Some e))) ∙ absent-none slots id (λ place. h (suc place))

-- a later slot of an id which stands at one later place only
later : (slots : List (Option (ℕ × List ℕ))) (slot : Option (ℕ × List ℕ)) (id place : ℕ) → OnlyAt (slot ∷ slots) id (suc place) → OnlyAt slots id place
later slots slot id place only other e = let is : suc other ≡ suc place = only (suc other) e in cc

pub at-clause : (slots : List (Option (ℕ × List ℕ))) (id place : ℕ) → id_of (entry_at slots place) ≡ Some id → OnlyAt slots id place → derived_clause (filled slots) id ≡ lits_of (entry_at slots place)
at-clause [] id place e only = cc
at-clause (None ∷ slots) id zero e only = cc
at-clause (Some entry ∷ slots) id zero e only = let is : entry.0 ≡ id = cc in cond-true (eqb entry.0 id) _ _ (eq-eqb entry.0 id is)
at-clause (None ∷ slots) id (suc place) e only = at-clause slots id place e (later slots None id place only)
at-clause (Some entry ∷ slots) id (suc place) e only =
    cond-false (eqb entry.0 id) _ _ (ne_eqb entry.0 id (λ is. let at : zero ≡ suc place = only zero (ap Some is) in cc))
    ∙ at-clause slots id place e (later slots (Some entry) id place only)

-- a place with an entry is in range
pub at-within : (slots : List (Option (ℕ × List ℕ))) (id place : ℕ) → id_of (entry_at slots place) ≡ Some id → place < length slots
at-within [] id place e = cc
at-within (slot ∷ slots) id zero e = omega arith
at-within (slot ∷ slots) id (suc place) e = let h = at-within slots id place e in omega arith

-- the slot read at a place in range is the entry there
pub at-read : (slots : List (Option (ℕ × List ℕ))) (place : ℕ) (d : Option (ℕ × List ℕ)) → place < length slots → get_or slots place d ≡ entry_at slots place
at-read [] place d h = absurd (omega arith)
at-read (slot ∷ slots) zero d h = refl
at-read (slot ∷ slots) (suc place) d h = at-read slots place d (omega arith)

-- one more slot at the end
pub filled-push : (slots : List (Option (ℕ × List ℕ))) (entry : ℕ × List ℕ) → filled (slots ++ Some entry ∷ []) ≡ filled slots ++ entry ∷ []
filled-push [] entry = refl
filled-push (None ∷ slots) entry = filled-push slots entry
filled-push (Some first ∷ slots) entry = ap (λ (es : List (ℕ × List ℕ)). first ∷ es) (filled-push slots entry)

pub at-push : (slots : List (Option (ℕ × List ℕ))) (slot : Option (ℕ × List ℕ)) (place : ℕ) → place < length slots → entry_at (slots ++ slot ∷ []) place ≡ entry_at slots place
at-push [] slot place h = absurd (omega arith)
at-push (first ∷ slots) slot zero h = refl
at-push (first ∷ slots) slot (suc place) h = at-push slots slot place (omega arith)

pub at-end : (slots : List (Option (ℕ × List ℕ))) (slot : Option (ℕ × List ℕ)) → entry_at (slots ++ slot ∷ []) (length slots) ≡ slot
at-end [] slot = refl
at-end (first ∷ slots) slot = at-end slots slot

pub within-push : (slots : List (Option (ℕ × List ℕ))) (entry : ℕ × List ℕ) (id place : ℕ) → id_of (entry_at (slots ++ Some entry ∷ []) place) ≡ Some id → place ≤ length slots
within-push [] entry id zero h = omega arith
within-push [] entry id (suc place) h = cc
within-push (first ∷ slots) entry id zero h = omega arith
within-push (first ∷ slots) entry id (suc place) h = let e = within-push slots entry id place h in omega arith

-- one slot emptied
pub at-emptied : (slots : List (Option (ℕ × List ℕ))) (place other : ℕ) → (other ≡ place → ⊥) → entry_at (set slots place None) other ≡ entry_at slots other
at-emptied [] place other h = refl
at-emptied (slot ∷ slots) zero zero h = absurd (h refl)
at-emptied (slot ∷ slots) zero (suc other) h = refl
at-emptied (slot ∷ slots) (suc place) zero h = refl
at-emptied (slot ∷ slots) (suc place) (suc other) h = at-emptied slots place other (λ e. h (ap suc e))

pub emptied-none : (slots : List (Option (ℕ × List ℕ))) (place : ℕ) → entry_at (set slots place None) place ≡ None
emptied-none [] place = refl
emptied-none (slot ∷ slots) zero = refl
emptied-none (slot ∷ slots) (suc place) = emptied-none slots place

pub filled-emptied : (slots : List (Option (ℕ × List ℕ))) (id place : ℕ) → id_of (entry_at slots place) ≡ Some id → OnlyAt slots id place → filled (set slots place None) ≡ without_id (filled slots) id
filled-emptied [] id place e only = cc
filled-emptied (None ∷ slots) id zero e only = cc
filled-emptied (Some entry ∷ slots) id zero e only = let is : entry.0 ≡ id = cc in sym (cond-true (eqb entry.0 id) _ _ (eq-eqb entry.0 id is))
filled-emptied (None ∷ slots) id (suc place) e only = filled-emptied slots id place e (later slots None id place only)
filled-emptied (Some entry ∷ slots) id (suc place) e only =
    ap (λ (es : List (ℕ × List ℕ)). entry ∷ es) (filled-emptied slots id place e (later slots (Some entry) id place only))
    ∙ sym (cond-false (eqb entry.0 id) _ _ (ne_eqb entry.0 id (λ is. let at : zero ≡ suc place = only zero (ap Some is) in cc)))

pub absent-without : (slots : List (Option (ℕ × List ℕ))) (id : ℕ) → Absent slots id → without_id (filled slots) id ≡ filled slots
absent-without [] id h = refl
absent-without (None ∷ slots) id h = absent-without slots id (λ place. h (suc place))
absent-without (Some entry ∷ slots) id h =
    cond-false (eqb entry.0 id) _ _ (ne_eqb entry.0 id (λ e. h zero (ap Some e)))
    ∙ ap (λ (es : List (ℕ × List ℕ)). entry ∷ es) (absent-without slots id (λ place. h (suc place)))

-- ids that stand at one place each are distinct
pub distinct-filled : (slots : List (Option (ℕ × List ℕ))) → ((id place other : ℕ) → id_of (entry_at slots place) ≡ Some id → id_of (entry_at slots other) ≡ Some id → place ≡ other) → distinct_ids (filled slots) ≡ true
distinct-filled [] h = refl
distinct-filled (None ∷ slots) h = distinct-filled slots (λ id place other a b. let is : suc place ≡ suc other = h id (suc place) (suc other) a b in cc)
distinct-filled (Some entry ∷ slots) h =
    and_from _ _
    (ap is_none (absent-none slots entry.0 (λ place e. let at : zero ≡ suc place = h entry.0 zero (suc place) refl e in cc)))
    (distinct-filled slots (λ id place other a b. let is : suc place ≡ suc other = h id (suc place) (suc other) a b in cc))
