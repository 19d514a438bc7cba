-- Derivations by reverse unit propagation with the hints in order. A line derives a clause from live ones, or forgets
-- derived ones. A clause counts as the set of its literals.
use Rattle.std.specs.Prelude.{◌≡◌, ℕ, ◌-◌, ◌≤◌, ◌==◌, Bool, true, ◌&&◌, not, List, [], ◌∷◌, ◌++◌, map, filter, if◌then◌else◌, slice_get, Option, Some, None, is_some, is_none, All, IsTrue}
use Rattle.std.specs.List.{list_any, list_all}
use Rattle.lits_core.specs.Literals.{negation_of, clause_true, meets_all}
use Rattle.lits_core.specs.declared.Hint.{Hint}
use Rattle.lits_core.specs.declared.Hint.TheVariants.{Falsified, Implies, NotUnit}
use Rattle.lits_core.specs.declared.Line.{Line}
use Rattle.lits_core.specs.declared.Line.TheVariants.{Derive, Forget}
use Rattle.lits_core.specs.declared.LineFault.{LineFault}
use Rattle.lits_core.specs.declared.LineFault.TheVariants.{UnknownHint, HintNotUnit, NoConflict, IdUsed}

-- the given clauses, whose ids are 1, 2 and so on, and the live derived clauses with their ids
pub record State : Type 0 where
  pub given : List (List ℕ)
  pub derived : List (ℕ × List ℕ)

-- the state in which nothing is derived yet
abbrev pub first_state : List (List ℕ) → State
first_state clauses = record { given = clauses; derived = [] }

-- the given clause with an id
abbrev pub given_clause : List (List ℕ) → ℕ → Option (List ℕ)
given_clause clauses id = if id == 0 then None else slice_get clauses (id - 1)

-- the first derived clause with an id
abbrev pub derived_clause : List (ℕ × List ℕ) → ℕ → Option (List ℕ)
derived_clause [] id = None
derived_clause (entry ∷ entries) id = if entry.0 == id then Some entry.1 else derived_clause entries id

-- a, or else b
abbrev pub or_else : Option (List ℕ) → Option (List ℕ) → Option (List ℕ)
or_else None b = b
or_else (Some clause) b = Some clause

-- the live clause with an id
abbrev pub live_clause : State → ℕ → Option (List ℕ)
live_clause state id = or_else (given_clause state.given id) (derived_clause state.derived id)

-- whether a literal is in a list
abbrev pub has_lit : List ℕ → ℕ → Bool
has_lit lits lit = list_any (λ l. l == lit) lits

-- the literals of a clause that are not among those held false
abbrev pub open_lits : List ℕ → List ℕ → List ℕ
open_lits falses clause = filter (λ l. not (has_lit falses l)) clause

-- what the clause of a hint does, by its open literals: with none it is falsified; where all are one literal it implies
-- that one; with two it is not unit
abbrev pub hint_of : List ℕ → Hint
hint_of [] = Falsified
hint_of (lit ∷ lits) = if list_all (λ l. l == lit) lits then Implies lit else NotUnit

-- the fault that a hint leaves: none with a falsified clause, which makes the line valid; what the further hints leave
-- once the implied literal holds; and that the clause is not unit
abbrev pub hint_fault : Hint → (ℕ → Option LineFault) → Option LineFault
hint_fault Falsified further = None
hint_fault (Implies lit) further = further lit
hint_fault NotUnit further = Some HintNotUnit

-- the fault that a hint leaves, by the live clause that it names
abbrev pub named_fault : Option (List ℕ) → List ℕ → (ℕ → Option LineFault) → Option LineFault
named_fault None falses further = Some UnknownHint
named_fault (Some clause) falses further = hint_fault (hint_of (open_lits falses clause)) further

-- the fault of the hints in turn, with these literals held false
abbrev pub hints_fault : State → List ℕ → List ℕ → Option LineFault
hints_fault state [] falses = Some NoConflict
hints_fault state (hint ∷ hints) falses =
    named_fault (live_clause state hint) falses (λ lit. hints_fault state hints (negation_of lit ∷ falses))

-- the derived clauses but the first with an id
abbrev pub without_id : List (ℕ × List ℕ) → ℕ → List (ℕ × List ℕ)
without_id [] id = []
without_id (entry ∷ entries) id = if entry.0 == id then entries else entry ∷ without_id entries id

-- the derived clauses without those of some ids
abbrev pub without_ids : List (ℕ × List ℕ) → List ℕ → List (ℕ × List ℕ)
without_ids entries [] = entries
without_ids entries (id ∷ ids) = without_ids (without_id entries id) ids

-- the fault of ids to be forgotten: each must be that of a derived clause which those before it leave
abbrev pub forget_fault : List (ℕ × List ℕ) → List ℕ → Option LineFault
forget_fault entries [] = None
forget_fault entries (id ∷ ids) =
    if is_some (derived_clause entries id) then forget_fault (without_id entries id) ids else Some UnknownHint

-- the fault of a line after a state, if it has one
abbrev pub line_fault : State → Line → Option LineFault
line_fault state (Derive id lits hints) = if is_some (live_clause state id) then Some IdUsed else hints_fault state hints lits
line_fault state (Forget ids) = forget_fault state.derived ids

-- the state that a valid line leads to
abbrev pub next_state : State → Line → State
next_state state (Derive id lits hints) = record state { derived = state.derived ++ (id, lits) ∷ [] }
next_state state (Forget ids) = record state { derived = without_ids state.derived ids }

-- the state that lines lead to
abbrev pub state_after : State → List Line → State
state_after state [] = state
state_after state (line ∷ lines) = state_after (next_state state line) lines

-- whether each line is valid in turn
abbrev pub is_valid_derivation : State → List Line → Bool
is_valid_derivation state [] = true
is_valid_derivation state (line ∷ lines) = is_none (line_fault state line) && is_valid_derivation (next_state state line) lines

-- the ids in a line are at least 1
abbrev pub FromOne : Line → Type 0
FromOne (Derive id lits hints) = (1 ≤ id) × All (λ hint. 1 ≤ hint) hints
FromOne (Forget ids) = All (λ id. 1 ≤ id) ids

-- the derived clauses without their ids
abbrev pub derived_clauses : State → List (List ℕ)
derived_clauses state = map (λ entry. entry.1) state.derived

-- all bits that meet the given clauses meet the derived ones
abbrev pub DerivedFollow : State → Type 0
DerivedFollow state = (bits : List Bool) → IsTrue (meets_all bits state.given) → IsTrue (meets_all bits (derived_clauses state))

-- no two derived clauses share an id
abbrev pub distinct_ids : List (ℕ × List ℕ) → Bool
distinct_ids [] = true
distinct_ids (entry ∷ entries) = is_none (derived_clause entries entry.0) && distinct_ids entries

-- no two live clauses share an id
abbrev pub has_distinct_ids : State → Bool
has_distinct_ids state = list_all (λ entry. is_none (given_clause state.given entry.0)) state.derived && distinct_ids state.derived

-- two clauses have the same literals
abbrev pub SameLits : List ℕ → List ℕ → Type 0
SameLits a b = (lit : ℕ) → has_lit a lit ≡ has_lit b lit

-- two lists have clauses with the same literals at each place
abbrev pub SameGiven : List (List ℕ) → List (List ℕ) → Type 0
SameGiven [] [] = Unit {0}
SameGiven [] (d ∷ ds) = ⊥
SameGiven (c ∷ cs) [] = ⊥
SameGiven (c ∷ cs) (d ∷ ds) = SameLits c d × SameGiven cs ds

-- two lists have the same ids in order, and clauses with the same literals at each
abbrev pub SameDerived : List (ℕ × List ℕ) → List (ℕ × List ℕ) → Type 0
SameDerived [] [] = Unit {0}
SameDerived [] (d ∷ ds) = ⊥
SameDerived (c ∷ cs) [] = ⊥
SameDerived (c ∷ cs) (d ∷ ds) = (c.0 ≡ d.0) × SameLits c.1 d.1 × SameDerived cs ds

-- two states have the same ids in order, and clauses with the same literals at each
pub record SameState (one other : State) : Type 0 where
  pub same_given : SameGiven one.given other.given
  pub same_derived : SameDerived one.derived other.derived

-- two lines differ at most in the order and the repeats of the literals of a derived clause
abbrev pub SameLine : Line → Line → Type 0
SameLine (Derive i a hs) (Derive j b ks) = (i ≡ j) × SameLits a b × (hs ≡ ks)
SameLine (Derive i a hs) (Forget js) = ⊥
SameLine (Forget is) (Derive j b ks) = ⊥
SameLine (Forget is) (Forget js) = is ≡ js

-- bits that meet the given clauses meet each clause that valid lines leave derived: from a first state, from any state
-- whose derived clauses follow, and line by line. No line changes the given clauses
pub record DerivedClausesFollow : Type 0 where
  pub first : (clauses : List (List ℕ)) → DerivedFollow (first_state clauses)
  pub next : (state : State) (line : Line) → DerivedFollow state → line_fault state line ≡ None → DerivedFollow (next_state state line)
  pub lines : (state : State) (lines : List Line) → DerivedFollow state → IsTrue (is_valid_derivation state lines) → DerivedFollow (state_after state lines)
  pub given_stay : (state : State) (lines : List Line) → (state_after state lines).given ≡ state.given

-- first states have distinct ids, and valid lines keep them
pub record IdsStayDistinct : Type 0 where
  pub first : (clauses : List (List ℕ)) → IsTrue (has_distinct_ids (first_state clauses))
  pub next : (state : State) (line : Line) → IsTrue (has_distinct_ids state) → line_fault state line ≡ None → IsTrue (has_distinct_ids (next_state state line))
  pub lines : (state : State) (lines : List Line) → IsTrue (has_distinct_ids state) → IsTrue (is_valid_derivation state lines) → IsTrue (has_distinct_ids (state_after state lines))

-- faults and next states depend on clauses as sets of literals alone
pub record LiteralsAreSets : Type 0 where
  pub faults : (one other : State) (line same : Line) → SameState one other → SameLine line same → line_fault one line ≡ line_fault other same
  pub next : (one other : State) (line same : Line) → SameState one other → SameLine line same → SameState (next_state one line) (next_state other same)
  pub truth : (bits : List Bool) (a b : List ℕ) → SameLits a b → clause_true bits a ≡ clause_true bits b
