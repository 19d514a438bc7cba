-- What comes of the bytes that a store holds under a name.
use Rattle.std.specs.Prelude.{◌≡◌, ℕ, List, Option, None, Some, IfSome, Result, Ok, Err, take, ◌⊎◌}
use Rattle.outer_store.specs.Contents.{Contents}
use Rattle.outer_store.specs.Faults.{Rose}
use Rattle.rcc5_core.specs.declared.Rel.{Rel}
use Rattle.world_model.specs.declared.Switches.{Switches}
use Rattle.world_model.specs.Problem.{Problem}
use Rattle.cleantax_text.specs.declared.TextKind.{TextKind}
use Rattle.cleantax_text.specs.Reading.{text_result}
use Rattle.run_ends.specs.declared.token.TokenKind.{TokenKind}
use Rattle.run_ends.specs.Token.Token.{token_result}
use Rattle.run_ends.specs.declared.Status.{Status}
use Rattle.run_ends.specs.declared.Status.TheVariants.{RefusedText, ReadFault, RefusedToken, NoMemory}
use Rattle.outer_store.specs.States.{StoreState, IsQuiet}

-- names hold these bytes, by all that the store tells
abbrev pub AreHeld : (List ℕ → List ℕ) → Contents → Type 0
AreHeld bytes held = (name : List ℕ) → IfSome (held name) (λ told. bytes name ≡ told)

-- bytes that are the first of what a name holds, where that is told: as many as are read
abbrev pub AreFront : Contents → List ℕ → List ℕ → Type 0
AreFront held name bytes = IfSome (held name) (λ told. bytes ≡ take 1048577 told)

-- a problem, or how a run ends whose text is refused
abbrev pub problem_by : Result Problem (ℕ × TextKind) → Result Problem Status
problem_by (Ok p) = Ok p
problem_by (Err fault) = Err (RefusedText fault.0 fault.1)

abbrev pub problem_in : Switches → List ℕ → Result Problem Status
problem_in switches bytes = problem_by (text_result bytes switches)

-- the position of a token, or how a run ends whose token is refused
abbrev pub token_by : Result (List Rel) TokenKind → Result (List Rel) Status
token_by (Ok position) = Ok position
token_by (Err kind) = Err (RefusedToken kind)

abbrev pub token_in : Problem → List ℕ → Result (List Rel) Status
token_in p bytes = token_by (token_result p bytes)

-- how a run ends whose token has this fault, or that found no memory
abbrev pub token_end : Option TokenKind → Status
token_end None = NoMemory
token_end (Some kind) = RefusedToken kind

-- bytes are refused with this status, or memory was wanting
abbrev pub IsRefused : {X : Type 0} → Result X Status → Status → Type 0
IsRefused judged status = (status ≡ NoMemory) ⊎ (judged ≡ Err status)

-- what comes of the bytes that a name holds
pub record ComesOf {X : Type 0} (held : Contents) (name : List ℕ) (judge : List ℕ → Result X Status) (outcome : Result X Status) : Type 0 where
  pub bytes : List ℕ
  pub front : AreFront held name bytes
  pub judged : judge bytes ≡ outcome

-- why the bytes of a name were not read
abbrev pub IsUnread : List ℕ → Status → StoreState → StoreState → Type 0
IsUnread name status one other = ((status ≡ ReadFault) × Rose (one.reads name) (other.reads name)) ⊎ ((status ≡ NoMemory) × IsQuiet one other)

-- why nothing came of them
abbrev pub IsWithout : {X : Type 0} → List ℕ → (List ℕ → Result X Status) → Status → StoreState → StoreState → Type 0
IsWithout name judge status one other = (ComesOf one.held name judge (Err status) × IsQuiet one other) ⊎ IsUnread name status one other

-- a position that may be given: none without a name, and else what comes of the token under it
abbrev pub IsGiven : Contents → Problem → Option (List ℕ) → Option (List Rel) → Type 0
IsGiven held p None position = position ≡ None
IsGiven held p (Some name) None = ⊥
IsGiven held p (Some name) (Some position) = ComesOf held name (token_in p) (Ok position)

-- why none came of it
abbrev pub IsWithoutGiven : Problem → Option (List ℕ) → Status → StoreState → StoreState → Type 0
IsWithoutGiven p None status one other = ⊥
IsWithoutGiven p (Some name) status one other = IsWithout name (token_in p) status one other
