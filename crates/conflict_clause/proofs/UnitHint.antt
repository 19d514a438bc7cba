-- What comes of a hint whose clause has no open literals, or one.
use Rattle.std.proofs.Common.{◌≡◌, ◌∙◌, ◌⊎◌, ℕ, true, false, not, eqb, List, [], ◌∷◌, Option, Some, None, refl, sym, ap, inl, inr}
use Rattle.std.specs.Prelude.{MatchOption}
use Rattle.std.specs.List.{Contains, list_all}
use Rattle.std.proofs.lemmas.Bool.{cases_Bool, and_from, or_left, or_right, false≢true, true≢false, eqb-true, eq-eqb}
use Rattle.lits_core.specs.Derivation.{State, live_clause, has_lit, open_lits, hint_of, hint_fault, named_fault, hints_fault, SameLits}
use Rattle.lits_core.specs.declared.LineFault.{LineFault}
use Rattle.lits_core.proofs.LiteralSets.{from_filter}
use Rattle.lits_core.specs.Literals.{negation_of}
use Rattle.clause_arena.specs.Records.{Record, record_at}
use Rattle.watch_arena.proofs.ByIndex.{list_any_at, list_any_index}
use Rattle.watch_arena.proofs.WatchedPair.{contains_at, index_of}
use Rattle.conflict_clause.specs.Taught.{HoldsRecords}

-- between the two ways to say that a list has a literal
pub has_lit-Contains : (lits : List ℕ) (lit : ℕ) → Contains lits lit → has_lit lits lit ≡ true
has_lit-Contains lits lit c =
    let entry = index_of lits lit c in
    list_any_at (λ (l : ℕ). eqb l lit) lits entry.0 0 entry.1 (eq-eqb _ lit entry.2)

pub Contains-has_lit : (lits : List ℕ) (lit : ℕ) → has_lit lits lit ≡ true → Contains lits lit
Contains-has_lit lits lit h =
    let found = list_any_index (λ (l : ℕ). eqb l lit) lits 0 h in
    contains_at lits found.0 lit found.1 (eqb-true _ lit found.2)

pub has_lit-first : (lit : ℕ) (lits : List ℕ) → has_lit (lit ∷ lits) lit ≡ true
has_lit-first lit lits = or_left _ _ (eq-eqb lit lit refl)

pub has_lit-rest : (first : ℕ) (lits : List ℕ) (lit : ℕ) → has_lit lits lit ≡ true → has_lit (first ∷ lits) lit ≡ true
has_lit-rest first lits lit h = or_right _ _ h

-- all literals of a list are one
all_one : (lit : ℕ) (lits : List ℕ) → ((m : ℕ) → has_lit lits m ≡ true → m ≡ lit) → list_all (λ l. eqb l lit) lits ≡ true
all_one lit [] h = refl
all_one lit (l ∷ lits) h = and_from _ _ (eq-eqb l lit (h l (has_lit-first l lits))) (all_one lit lits (λ m i. h m (has_lit-rest l lits m i)))

-- an open literal is one of the clause, and not held false
open-in : (falses clause : List ℕ) (m : ℕ) → has_lit (open_lits falses clause) m ≡ true → (has_lit clause m ≡ true) × (has_lit falses m ≡ false)
open-in falses clause m i =
    let parts = from_filter (λ l. not (has_lit falses l)) clause m i in
    (parts.0, elim (cases_Bool (has_lit falses m)) [ inl on ↦ absurd (false≢true (ap not (sym on) ∙ parts.1)) | inr off ↦ off ])

-- open literals that are all one literal, where the further hints have no fault after it
one_open : (opens : List ℕ) (lit : ℕ) (further : ℕ → Option LineFault) → ((m : ℕ) → has_lit opens m ≡ true → m ≡ lit) → further lit ≡ None → hint_fault (hint_of opens) further ≡ None
one_open [] lit further h f = refl
one_open (l ∷ opens) lit further h f =
    let first : l ≡ lit = h l (has_lit-first l opens) in
    let all : list_all (λ x. eqb x l) opens ≡ true = all_one l opens (λ m i. h m (has_lit-rest l opens m i) ∙ sym first) in
    rw all (ap further first ∙ f)

no_open : (opens : List ℕ) (further : ℕ → Option LineFault) → ((m : ℕ) → has_lit opens m ≡ true → ⊥) → hint_fault (hint_of opens) further ≡ None
no_open [] further h = refl
no_open (l ∷ opens) further h = absurd (h l (has_lit-first l opens))

-- a hint whose clause is false ends the line
named-false : (named : Option (List ℕ)) (lits falses : List ℕ) (further : ℕ → Option LineFault) → MatchOption named ⊥ (λ c. SameLits c lits) → ((m : ℕ) → Contains lits m → has_lit falses m ≡ true) → named_fault named falses further ≡ None
named-false None lits falses further same h = absurd same
named-false (Some c) lits falses further same h =
    no_open (open_lits falses c) further (λ m i.
    let parts = open-in falses c m i in
    true≢false (sym (h m (Contains-has_lit lits m (sym (same m) ∙ parts.0))) ∙ parts.1))

-- a hint whose clause has at most one literal that is not false
named-unit : (named : Option (List ℕ)) (lits falses : List ℕ) (lit : ℕ) (further : ℕ → Option LineFault) → MatchOption named ⊥ (λ c. SameLits c lits) → ((m : ℕ) → Contains lits m → (m ≡ lit) ⊎ (has_lit falses m ≡ true)) → further lit ≡ None → named_fault named falses further ≡ None
named-unit None lits falses lit further same h f = absurd same
named-unit (Some c) lits falses lit further same h f =
    one_open (open_lits falses c) lit further (λ m i.
    let parts = open-in falses c m i in
    elim (h m (Contains-has_lit lits m (sym (same m) ∙ parts.0))) [
      | inl is ↦ is
      | inr off ↦ absurd (true≢false (sym off ∙ parts.1))
    ]) f

-- hints of which the first names a record
pub hints-false : (state : State) (records : List Record) (at : ℕ) (hints falses : List ℕ) → HoldsRecords state records → (record_at records at).live ≡ true → ((m : ℕ) → Contains (record_at records at).lits m → has_lit falses m ≡ true) → hints_fault state ((record_at records at).id ∷ hints) falses ≡ None
hints-false state records at hints falses holds live h =
    named-false (live_clause state (record_at records at).id) (record_at records at).lits falses (λ lit. hints_fault state hints (negation_of lit ∷ falses)) (holds.each at live) h

pub hints-unit : (state : State) (records : List Record) (at lit : ℕ) (hints falses : List ℕ) → HoldsRecords state records → (record_at records at).live ≡ true → ((m : ℕ) → Contains (record_at records at).lits m → (m ≡ lit) ⊎ (has_lit falses m ≡ true)) → hints_fault state hints (negation_of lit ∷ falses) ≡ None → hints_fault state ((record_at records at).id ∷ hints) falses ≡ None
hints-unit state records at lit hints falses holds live h f =
    named-unit (live_clause state (record_at records at).id) (record_at records at).lits falses lit (λ l. hints_fault state hints (negation_of l ∷ falses)) (holds.each at live) h f
