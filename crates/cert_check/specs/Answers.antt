-- What a check answers, by what there was to read, and what it leaves of a source.
use Rattle.std.specs.Prelude.{◌≡◌, ℕ, ◌≤◌, [], Option, Some, None, Result, Ok, Err, ⊤}
use Rattle.outer_store.specs.Faults.{Rose}
use Rattle.world_model.specs.Problem.{Problem}
use Rattle.cert_text.specs.declared.line.CertLine.{CertLine}
use Rattle.cert_text.specs.Ends.{Faulty}
use Rattle.cert_reader.specs.declared.fault.CertTextKind.{CertTextKind}
use Rattle.cert_reader.specs.Reading.{Reading, whole, with_first}
use Rattle.cert_rules.specs.Files.{Verdict, Answer, Accepts, Rejects, HasFault, Listing, ClaimList, answer_of}
use Rattle.cert_check.specs.declared.accepted.Accepted.{Accepted}
use Rattle.cert_check.specs.declared.accepted.Accepted.TheVariants as accepted
use Rattle.cert_check.specs.declared.fault.CheckFault.{CheckFault}
use Rattle.cert_check.specs.declared.fault.CheckFault.TheVariants.{Text, Rejected, ReadFault, NoMemory}

-- what was accepted, as the rules have it
abbrev pub verdict_of : Accepted → Verdict
verdict_of (accepted.Listing from to worlds) = Listing from to worlds
verdict_of (accepted.Claims claims) = ClaimList claims

-- the answer of the rules was given, or memory ran out, or a read failed
abbrev pub Tells : Answer CertTextKind → Result Accepted CheckFault → Type 0
Tells answer (Ok said) = answer ≡ Accepts (verdict_of said)
Tells answer (Err (Text line kind)) = answer ≡ HasFault line kind
Tells answer (Err (Rejected line kind)) = answer ≡ Rejects line kind
Tells answer (Err ReadFault) = ⊤
Tells answer (Err NoMemory) = ⊤

-- the lines of a certificate, with the end of its text, have the answer
abbrev pub IsAnswerOf : Problem → Reading → Result Accepted CheckFault → Type 0
IsAnswerOf p read result = Tells (answer_of p read.lines read.ends) result

-- one fact where a read failed, and another at every other answer
abbrev pub IfReadFault : {T : Type 0} → Result T CheckFault → Type 0 → Type 0 → Type 0
IfReadFault (Ok value) failed other = other
IfReadFault (Err (Text line kind)) failed other = other
IfReadFault (Err (Rejected line kind)) failed other = other
IfReadFault (Err ReadFault) failed other = failed
IfReadFault (Err NoMemory) failed other = other

-- what a call leaves of a source: a failed read only where the count of faults rose, and at any other answer no count that moved
pub record SourceGoes {S T : Type 0} (faults : S → ℕ) (steady quiet : S → S → Type 0) (result : Result T CheckFault) (old new : S) : Type 0 where
  pub fault : IfReadFault result (Rose (faults old) (faults new)) (faults new ≡ faults old)
  pub later : faults old ≤ faults new
  pub comes : steady old new
  pub still : IfReadFault result ⊤ (quiet old new)

-- the next line was read: the first of those that there were to read, or none where the text is whole, or it has a fault
abbrev pub IsNextLine : Result (Option CertLine) CheckFault → Reading → Reading → Type 0
IsNextLine (Ok (Some line)) old new = old ≡ with_first line new
IsNextLine (Ok None) old new = old ≡ whole
IsNextLine (Err (Text line kind)) old new = old ≡ record { lines = []; ends = Faulty line kind }
IsNextLine (Err (Rejected line kind)) old new = ⊥
IsNextLine (Err ReadFault) old new = ⊤
IsNextLine (Err NoMemory) old new = ⊤
