-- How a whole certificate is taken, of either kind.
use Rattle.std.specs.Prelude.{◌≡◌, ℕ, ◌+◌, ◌^◌, ◌≤◌, List, ◌∷◌, length, Option, Result, Ok, Err, ⊤}
use Rattle.rcc5_core.specs.declared.Rel.{Rel}
use Rattle.lits_core.specs.Derivation.{State, first_state}
use Rattle.world_model.specs.Problem.{Problem}
use Rattle.point_encode.specs.Model.Clauses.{given_clauses}
use Rattle.cert_text.specs.declared.line.CertLine.{CertLine}
use Rattle.cert_text.specs.Ends.{TextEnd, Whole, Faulty}
use Rattle.cert_reader.specs.declared.fault.CertTextKind.{CertTextKind}
use Rattle.cert_reader.specs.Bytes.{ForSome}
use Rattle.cert_reader.specs.Reading.{Reading, with_first}
use Rattle.cert_rules.specs.Listings.{Going, Ended, steps}
use Rattle.cert_rules.specs.ClaimLists.{claim_steps}
use Rattle.cert_rules.specs.Files.{Verdict, Answer, Rejects, Listing, ClaimList, as_listing, settle, answer_of}
use Rattle.cert_check.specs.declared.accepted.Accepted.{Accepted}
use Rattle.cert_check.specs.declared.fault.CheckFault.{CheckFault}
use Rattle.cert_check.specs.declared.fault.CheckFault.TheVariants as fault
use Rattle.cert_check.specs.declared.fault.Stop.{Stop}
use Rattle.cert_check.specs.declared.fault.Stop.TheVariants as stop
use Rattle.cert_check.specs.declared.listing.Turn.{Turn}
use Rattle.cert_check.specs.declared.listing.Turn.TheVariants as turn
use Rattle.cert_check.specs.declared.checker.Checker.{Checker}
use Rattle.cert_check.specs.declared.checker.Checker.TheVariants as kind
use Rattle.cert_tree.specs.Walks.{IsWalk}
use Rattle.cert_check.specs.Checkers.{stand_of}
use Rattle.cert_check.specs.Claiming.{AreClaims, claim_stand}
use Rattle.cert_check.specs.Answers.{Tells}

-- the answer to the lines that are still to come, by the derivation and the checker after so many
abbrev pub answer_from : State → Checker → ℕ → Reading → Answer CertTextKind
answer_from proof (kind.Listing c) n read = settle (as_listing c.walk.tree.from) (steps c.walk.tree (Going n (stand_of proof c)) read.lines) read.ends
answer_from proof (kind.Claims c) n read = settle ClaimList (claim_steps c.problem (Going n (claim_stand proof c)) read.lines) read.ends

-- what is accepted where the lines end so
abbrev pub verdict_from : Checker → Option (List Rel) → Verdict
verdict_from (kind.Listing c) to = Listing c.walk.tree.from to c.worlds.items
verdict_from (kind.Claims c) to = ClaimList c.claims.items

-- the answer where the last line was taken
abbrev pub ended_answer : Verdict → TextEnd CertTextKind → Answer CertTextKind
ended_answer verdict end = settle {S = Verdict} (λ v. v) (Ended verdict) end

abbrev pub IsReady : Checker → Type 0
IsReady (kind.Listing c) = IsWalk c.walk
IsReady (kind.Claims c) = AreClaims c

-- a line was taken: the answer to it and what follows is that to what follows, or stands
abbrev pub IsTaken : State → Checker → CertLine → State → Checker → Result Turn Stop → Type 0
IsTaken proof old line next new (Ok turn.Further) = (n : ℕ) (read : Reading) → answer_from proof old n (with_first line read) ≡ answer_from next new (n + 1) read
IsTaken proof old line next new (Ok (turn.Ended to)) = (n : ℕ) (read : Reading) → answer_from proof old n (with_first line read) ≡ ended_answer (verdict_from new to) read.ends
IsTaken proof old line next new (Err (stop.Rejected kind)) = (n : ℕ) (read : Reading) → answer_from proof old n (with_first line read) ≡ Rejects (n + 1) kind
IsTaken proof old line next new (Err stop.NoMemory) = ⊤

-- the first line was taken, and nothing is derived yet
abbrev pub Starts : Problem → CertLine → Result Checker CheckFault → Type 0
Starts p first (Ok checker) = (read : Reading) → answer_of p (first ∷ read.lines) read.ends ≡ answer_from (first_state (given_clauses p)) checker 1 read
Starts p first (Err (fault.Rejected line kind)) = (read : Reading) → answer_of p (first ∷ read.lines) read.ends ≡ Rejects line kind
Starts p first (Err (fault.Text line kind)) = ⊥
Starts p first (Err fault.ReadFault) = ⊥
Starts p first (Err fault.NoMemory) = ⊤

-- the answer to something that there may have been to read is given
abbrev pub TellsFrom : State → Checker → ℕ → (Reading → Type 0) → Result Accepted CheckFault → Type 0
TellsFrom proof checker n may result = ForSome may (λ read. Tells (answer_from proof checker n read) result)

-- so many lines more than there may be to read are few
abbrev pub AreFew : ℕ → (Reading → Type 0) → Type 0
AreFew n may = (read : Reading) → may read → n + length read.lines ≤ 2 ^ 36

-- one more line was read and taken, or there is an answer
abbrev pub IsTurn : State → Checker → ℕ → Reading → State → Checker → Reading → Result Turn CheckFault → Type 0
IsTurn proof old n read next new left (Ok turn.Further) = answer_from proof old n read ≡ answer_from next new (n + 1) left
IsTurn proof old n read next new left (Ok (turn.Ended to)) = answer_from proof old n read ≡ ended_answer (verdict_from new to) left.ends
IsTurn proof old n read next new left (Err fault) = Tells (answer_from proof old n read) (Err fault)

-- the lines came to their end, or to the fault that is there
abbrev pub IsEnd : Reading → Result Unit CheckFault → Type 0
IsEnd read (Ok done) = read.ends ≡ Whole
IsEnd read (Err (fault.Text line kind)) = read.ends ≡ Faulty line kind
IsEnd read (Err (fault.Rejected line kind)) = ⊥
IsEnd read (Err fault.ReadFault) = ⊤
IsEnd read (Err fault.NoMemory) = ⊤

-- the fault of a line that is not taken
abbrev pub fault_at : ℕ → Stop → CheckFault
fault_at line (stop.Rejected kind) = fault.Rejected line kind
fault_at line stop.NoMemory = fault.NoMemory
