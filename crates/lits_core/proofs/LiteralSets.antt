-- Faults and next states depend on clauses as sets of literals alone.
use Rattle.std.proofs.Common.{◌≡◌, ℕ, zero, suc, ◌-◌, Bool, true, false, not, cond, eqb, ◌||◌, List, [], ◌∷◌, ◌++◌, Option, Some, None, refl, sym, ap, subst, ◌∙◌, inl, inr, ⊎_elim}
use Rattle.std.specs.Prelude.{is_some, slice_get, filter}
use Rattle.std.specs.List.{list_any, list_all}
use Rattle.std.proofs.lemmas.Bool.{cases_Bool, and_parts, and_from, or_cases, or_left, or_right, false≢true, true≢false, eqb-true, eq-eqb}
use Rattle.lits_core.specs.Literals.{negation_of, lit_true, clause_true}
use Rattle.lits_core.specs.Derivation.{State, or_else, given_clause, derived_clause, live_clause, has_lit, open_lits, hint_of, hint_fault, named_fault, hints_fault, without_id, without_ids, forget_fault, line_fault, next_state, SameLits, SameGiven, SameDerived, SameState, SameLine}
use Rattle.lits_core.specs.declared.Line.{Line}
use Rattle.lits_core.specs.declared.Line.TheVariants.{Derive, Forget}
use Rattle.lits_core.specs.declared.LineFault.{LineFault}
use Rattle.lits_core.specs.declared.LineFault.TheVariants.{IdUsed}

eqb-self : (n : ℕ) → eqb n n ≡ true
eqb-self n = eq-eqb n n refl

-- tests with the same answers
pub same_tests : (a b : Bool) → (a ≡ true → b ≡ true) → (b ≡ true → a ≡ true) → a ≡ b
same_tests true b f g = sym (f refl)
same_tests false true f g = g refl
same_tests false false f g = refl

-- a literal is in a filtered list exactly where it is in the list and passes
pub into_filter : (p : ℕ → Bool) (lits : List ℕ) (lit : ℕ) → has_lit lits lit ≡ true → p lit ≡ true → has_lit (filter p lits) lit ≡ true
into_filter p [] lit h e = h
into_filter p (l ∷ lits) lit h e =
    elim (cases_Bool (p l)) [
      | inl kept ↦ rw kept (⊎_elim (λ here. or_left _ _ here) (λ later. or_right _ _ (into_filter p lits lit later e)) (or_cases (eqb l lit) (has_lit lits lit) h))
      | inr out ↦ rw out (⊎_elim
          (λ here. absurd (true≢false (sym e ∙ ap p (sym (eqb-true l lit here)) ∙ out)))
          (λ later. into_filter p lits lit later e) (or_cases (eqb l lit) (has_lit lits lit) h))
    ]

pub from_filter : (p : ℕ → Bool) (lits : List ℕ) (lit : ℕ) → has_lit (filter p lits) lit ≡ true → (has_lit lits lit ≡ true) × (p lit ≡ true)
from_filter p [] lit h = absurd (false≢true h)
from_filter p (l ∷ lits) lit h =
    elim (cases_Bool (p l)) [
      | inl kept ↦ ⊎_elim
          (λ here. (or_left _ _ here, ap p (sym (eqb-true l lit here)) ∙ kept))
          (λ later. let rest = from_filter p lits lit later in (or_right _ _ rest.0, rest.1))
          (or_cases (eqb l lit) (has_lit (filter p lits) lit) (rw kept at h))
      | inr out ↦ let rest = from_filter p lits lit (rw out at h) in (or_right _ _ rest.0, rest.1)
    ]

open-in : (f g c d : List ℕ) (lit : ℕ) → has_lit f lit ≡ has_lit g lit → has_lit c lit ≡ has_lit d lit → has_lit (open_lits f c) lit ≡ true → has_lit (open_lits g d) lit ≡ true
open-in f g c d lit e h i = let parts = from_filter (λ l. not (has_lit f l)) c lit i in
    into_filter (λ l. not (has_lit g l)) d lit (sym h ∙ parts.0) (ap not (sym e) ∙ parts.1)

-- open literals are the same where the clauses and those held false are
pub same-open : (f g c d : List ℕ) → SameLits f g → SameLits c d → SameLits (open_lits f c) (open_lits g d)
same-open f g c d e h lit = same_tests _ _ (open-in f g c d lit (e lit) (h lit)) (open-in g f d c lit (sym (e lit)) (sym (h lit)))

-- a list all of whose literals are one has no other
only : (lit : ℕ) (lits : List ℕ) (other : ℕ) → list_all (λ l. eqb l lit) lits ≡ true → has_lit lits other ≡ true → other ≡ lit
only lit [] other h e = absurd (false≢true e)
only lit (l ∷ lits) other h e = let parts = and_parts (eqb l lit) (list_all (λ l. eqb l lit) lits) h in
    ⊎_elim (λ here. sym (eqb-true l other here) ∙ eqb-true l lit parts.0) (λ later. only lit lits other parts.1 later) (or_cases (eqb l other) (has_lit lits other) e)

from_only : (lit : ℕ) (lits : List ℕ) → ((other : ℕ) → has_lit lits other ≡ true → other ≡ lit) → list_all (λ l. eqb l lit) lits ≡ true
from_only lit [] h = refl
from_only lit (l ∷ lits) h =
    and_from _ _ (eq-eqb l lit (h l (or_left _ _ (eqb-self l)))) (from_only lit lits (λ other i. h other (or_right _ _ i)))

-- where all are one literal in a list, all are the other's first one in a list with the same literals
one-in : (a b : ℕ) (xs ys : List ℕ) → SameLits (a ∷ xs) (b ∷ ys) → list_all (λ l. eqb l a) xs ≡ true → (b ≡ a) × (list_all (λ l. eqb l b) ys ≡ true)
one-in a b xs ys e h =
    let all : list_all (λ l. eqb l a) (a ∷ xs) ≡ true = and_from _ _ (eqb-self a) h in
    let first : b ≡ a = only a (a ∷ xs) b all (e b ∙ or_left _ _ (eqb-self b)) in
    (first, from_only b ys (λ other i. only a (a ∷ xs) other all (e other ∙ or_right _ _ i) ∙ sym first))

-- what comes of a hint is the same
pub same-hint : (a b : List ℕ) (further next : ℕ → Option LineFault) → SameLits a b → ((lit : ℕ) → further lit ≡ next lit) → hint_fault (hint_of a) further ≡ hint_fault (hint_of b) next
same-hint [] [] further next e h = refl
same-hint [] (b ∷ ys) further next e h = absurd (false≢true (e b ∙ or_left _ _ (eqb-self b)))
same-hint (a ∷ xs) [] further next e h = absurd (true≢false (sym (or_left _ _ (eqb-self a)) ∙ e a))
same-hint (a ∷ xs) (b ∷ ys) further next e h =
    elim (cases_Bool (list_all (λ l. eqb l a) xs)) [
      | inl one ↦ let other = one-in a b xs ys e one in rw (one, other.1) (h a ∙ ap next (sym other.0))
      | inr two ↦ elim (cases_Bool (list_all (λ l. eqb l b) ys)) [
        | inl one ↦ absurd (true≢false (sym (one-in b a ys xs (λ lit. sym (e lit)) one).1 ∙ two))
        | inr both ↦ rw (two, both) refl
      ]
    ]

-- two named clauses are both absent, or have the same literals
abbrev SameNamed : Option (List ℕ) → Option (List ℕ) → Type 0
SameNamed None None = Unit {0}
SameNamed None (Some d) = ⊥
SameNamed (Some c) None = ⊥
SameNamed (Some c) (Some d) = SameLits c d

same-named : (c d : Option (List ℕ)) (f g : List ℕ) (further next : ℕ → Option LineFault) → SameNamed c d → SameLits f g → ((lit : ℕ) → further lit ≡ next lit) → named_fault c f further ≡ named_fault d g next
same-named None None f g further next e h i = refl
same-named None (Some d) f g further next e h i = absurd e
same-named (Some c) None f g further next e h i = absurd e
same-named (Some c) (Some d) f g further next e h i = same-hint (open_lits f c) (open_lits g d) further next (same-open f g c d h e) i

same-is_some : (c d : Option (List ℕ)) → SameNamed c d → is_some c ≡ is_some d
same-is_some None None e = refl
same-is_some None (Some d) e = absurd e
same-is_some (Some c) None e = absurd e
same-is_some (Some c) (Some d) e = refl

same-or_else : (a b c d : Option (List ℕ)) → SameNamed a b → SameNamed c d → SameNamed (or_else a c) (or_else b d)
same-or_else None None c d e h = h
same-or_else None (Some b) c d e h = absurd e
same-or_else (Some a) None c d e h = absurd e
same-or_else (Some a) (Some b) c d e h = e

same-at : (cs ds : List (List ℕ)) (place : ℕ) → SameGiven cs ds → SameNamed (slice_get cs place) (slice_get ds place)
same-at [] [] place e = tt
same-at [] (d ∷ ds) place e = absurd e
same-at (c ∷ cs) [] place e = absurd e
same-at (c ∷ cs) (d ∷ ds) zero e = e.0
same-at (c ∷ cs) (d ∷ ds) (suc place) e = same-at cs ds place e.1

same-given : (cs ds : List (List ℕ)) (id : ℕ) → SameGiven cs ds → SameNamed (given_clause cs id) (given_clause ds id)
same-given cs ds id e =
    elim (cases_Bool (eqb id 0)) [ inl none ↦ rw none tt | inr some ↦ rw some (same-at cs ds (id - 1) e) ]

same-derived : (cs ds : List (ℕ × List ℕ)) (id : ℕ) → SameDerived cs ds → SameNamed (derived_clause cs id) (derived_clause ds id)
same-derived [] [] id e = tt
same-derived [] (d ∷ ds) id e = absurd e
same-derived (c ∷ cs) [] id e = absurd e
same-derived (c ∷ cs) (d ∷ ds) id e =
    elim (cases_Bool (eqb c.0 id)) [
      | inl here ↦ rw (here, (sym (ap (λ (n : ℕ). eqb n id) e.0) ∙ here)) e.1
      | inr later ↦ rw (later, (sym (ap (λ (n : ℕ). eqb n id) e.0) ∙ later)) (same-derived cs ds id e.2)
    ]

same-live : (one other : State) (id : ℕ) → SameState one other → SameNamed (live_clause one id) (live_clause other id)
same-live one other id e = same-or_else (given_clause one.given id) (given_clause other.given id) (derived_clause one.derived id) (derived_clause other.derived id) (same-given one.given other.given id e.same_given) (same-derived one.derived other.derived id e.same_derived)

pub same-joined : (f g : List ℕ) (lit : ℕ) → SameLits f g → SameLits (lit ∷ f) (lit ∷ g)
same-joined f g lit e other = ap (λ (b : Bool). eqb lit other || b) (e other)

pub same-hints : (one other : State) (hints f g : List ℕ) → SameState one other → SameLits f g → hints_fault one hints f ≡ hints_fault other hints g
same-hints one other [] f g e h = refl
same-hints one other (hint ∷ hints) f g e h =
    same-named (live_clause one hint) (live_clause other hint) f g (λ lit. hints_fault one hints (negation_of lit ∷ f)) (λ lit. hints_fault other hints (negation_of lit ∷ g)) (same-live one other hint e) h
    (λ lit. same-hints one other hints (negation_of lit ∷ f) (negation_of lit ∷ g) e (same-joined f g (negation_of lit) h))

same-without : (cs ds : List (ℕ × List ℕ)) (id : ℕ) → SameDerived cs ds → SameDerived (without_id cs id) (without_id ds id)
same-without [] [] id e = tt
same-without [] (d ∷ ds) id e = absurd e
same-without (c ∷ cs) [] id e = absurd e
same-without (c ∷ cs) (d ∷ ds) id e =
    elim (cases_Bool (eqb c.0 id)) [
      | inl here ↦ rw (here, (sym (ap (λ (n : ℕ). eqb n id) e.0) ∙ here)) e.2
      | inr later ↦ rw (later, (sym (ap (λ (n : ℕ). eqb n id) e.0) ∙ later)) (e.0, e.1, same-without cs ds id e.2)
    ]

same-without_ids : (cs ds : List (ℕ × List ℕ)) (ids : List ℕ) → SameDerived cs ds → SameDerived (without_ids cs ids) (without_ids ds ids)
same-without_ids cs ds [] e = e
same-without_ids cs ds (id ∷ ids) e = same-without_ids (without_id cs id) (without_id ds id) ids (same-without cs ds id e)

same-forget : (cs ds : List (ℕ × List ℕ)) (ids : List ℕ) → SameDerived cs ds → forget_fault cs ids ≡ forget_fault ds ids
same-forget cs ds [] e = refl
same-forget cs ds (id ∷ ids) e =
    let same = same-is_some (derived_clause cs id) (derived_clause ds id) (same-derived cs ds id e) in
    let rest = same-forget (without_id cs id) (without_id ds id) ids (same-without cs ds id e) in
    rw (same, rest) refl

same-push : (cs ds : List (ℕ × List ℕ)) (i j : ℕ) (a b : List ℕ) → SameDerived cs ds → i ≡ j → SameLits a b → SameDerived (cs ++ (i, a) ∷ []) (ds ++ (j, b) ∷ [])
same-push [] [] i j a b e h k = (h, k, tt)
same-push [] (d ∷ ds) i j a b e h k = absurd e
same-push (c ∷ cs) [] i j a b e h k = absurd e
same-push (c ∷ cs) (d ∷ ds) i j a b e h k = (e.0, e.1, same-push cs ds i j a b e.2 h k)

-- the fault of a derive line by whether its id is used
by-use : (a b : Bool) (f g : Option LineFault) → a ≡ b → f ≡ g → cond a (Some IdUsed) f ≡ cond b (Some IdUsed) g
by-use a b f g e h = rw (e, h) refl

pub same-line_fault : (one other : State) (line same : Line) → SameState one other → SameLine line same → line_fault one line ≡ line_fault other same
same-line_fault one other (Derive i a hs) (Derive j b ks) e h =
    let used : is_some (live_clause one i) ≡ is_some (live_clause other j) = same-is_some _ _ (same-live one other i e) ∙ ap (λ (n : ℕ). is_some (live_clause other n)) h.0 in
    by-use _ _ (hints_fault one hs a) (hints_fault other ks b) used (same-hints one other hs a b e h.1 ∙ ap (λ (ns : List ℕ). hints_fault other ns b) h.2)
same-line_fault one other (Derive i a hs) (Forget js) e h = absurd h
same-line_fault one other (Forget is) (Derive j b ks) e h = absurd h
same-line_fault one other (Forget is) (Forget js) e h = same-forget one.derived other.derived is e.same_derived ∙ ap (forget_fault other.derived) h

pub same-next_state : (one other : State) (line same : Line) → SameState one other → SameLine line same → SameState (next_state one line) (next_state other same)
same-next_state one other (Derive i a hs) (Derive j b ks) e h = record { same_given = e.same_given; same_derived = same-push one.derived other.derived i j a b e.same_derived h.0 h.1 }
same-next_state one other (Derive i a hs) (Forget js) e h = absurd h
same-next_state one other (Forget is) (Derive j b ks) e h = absurd h
same-next_state one other (Forget is) (Forget js) e h = record {
  same_given = e.same_given;
  same_derived = subst (λ (ids : List ℕ). SameDerived (without_ids one.derived is) (without_ids other.derived ids)) h (same-without_ids one.derived other.derived is e.same_derived);
}

at-true : (p : ℕ → Bool) (lits : List ℕ) (lit : ℕ) → has_lit lits lit ≡ true → p lit ≡ true → list_any p lits ≡ true
at-true p [] lit h e = h
at-true p (l ∷ lits) lit h e =
    ⊎_elim (λ here. or_left _ _ (ap p (eqb-true l lit here) ∙ e)) (λ later. or_right _ _ (at-true p lits lit later e)) (or_cases (eqb l lit) (has_lit lits lit) h)

-- a clause is true by the set of its literals
true-in : (p : ℕ → Bool) (a b : List ℕ) → ((lit : ℕ) → has_lit a lit ≡ true → has_lit b lit ≡ true) → list_any p a ≡ true → list_any p b ≡ true
true-in p [] b h e = absurd (false≢true e)
true-in p (l ∷ a) b h e =
    ⊎_elim (λ here. at-true p b l (h l (or_left _ _ (eqb-self l))) here) (λ later. true-in p a b (λ lit i. h lit (or_right _ _ i)) later) (or_cases (p l) (list_any p a) e)

pub same-truth : (bits : List Bool) (a b : List ℕ) → SameLits a b → clause_true bits a ≡ clause_true bits b
same-truth bits a b e = same_tests _ _ (true-in (lit_true bits) a b (λ lit i. sym (e lit) ∙ i)) (true-in (lit_true bits) b a (λ lit i. e lit ∙ i))

-- a state has the same literals as itself
given-self : (clauses : List (List ℕ)) → SameGiven clauses clauses
given-self [] = tt
given-self (clause ∷ clauses) = (λ _. refl, given-self clauses)

derived-self : (entries : List (ℕ × List ℕ)) → SameDerived entries entries
derived-self [] = tt
derived-self (entry ∷ entries) = (refl, λ _. refl, derived-self entries)

pub same-self : (state : State) → SameState state state
same-self state = record { same_given = given-self state.given; same_derived = derived-self state.derived }
