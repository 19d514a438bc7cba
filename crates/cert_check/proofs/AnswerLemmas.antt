-- Answers to what there may have been to read.
use Rattle.std.proofs.Common.{◌≡◌, ℕ, ◌+◌, ◌^◌, ◌<◌, List, [], length, Option, Some, None, OnOk, IfOk, Result, Ok, Err, IsErrAnd, sym, ap, subst, ◌∙◌, arith}
use Rattle.rcc5_core.specs.declared.Rel.{Rel}
use Rattle.lits_core.specs.Derivation.{State, first_state}
use Rattle.world_model.specs.Problem.{Problem}
use Rattle.constraint_set.specs.Facts.{IsBuilt}
use Rattle.point_encode.specs.Model.Clauses.{given_clauses}
use Rattle.cert_text.specs.declared.line.CertLine.{CertLine}
use Rattle.cert_reader.specs.declared.fault.CertTextKind.{CertTextKind}
use Rattle.cert_reader.specs.declared.fault.CertTextFault.{CertTextFault}
use Rattle.cert_reader.specs.declared.fault.CertTextFault.TheVariants as text
use Rattle.cert_reader.specs.Bytes.{MayHold, ForSome, GoesOn}
use Rattle.cert_reader.specs.Reading.{Reading, whole, first_spot, reading, with_first}
use Rattle.cert_reader.specs.Reader.{Reader, MayRead, IsAnswer}
use Rattle.cert_reader.proofs.GoesOnLemmas.{goes_as, goes_joins, some_before}
use Rattle.cert_reader.proofs.ReaderLemmas.{some_read}
use Rattle.cert_rules.specs.declared.RejectKind.TheVariants.{MissingBranch, WrongHeader}
use Rattle.cert_rules.specs.Files.{Verdict, Accepts, answer_of}
use Rattle.cert_rules.specs.Laws.{VerdictIsSo, AcceptedIsSo}
use Rattle.cert_check.specs.declared.accepted.Accepted.{Accepted}
use Rattle.cert_check.specs.declared.fault.CheckFault.{CheckFault}
use Rattle.cert_check.specs.declared.fault.CheckFault.TheVariants as fault
use Rattle.cert_check.specs.declared.listing.Turn.{Turn}
use Rattle.cert_check.specs.declared.listing.Turn.TheVariants as turn
use Rattle.cert_check.specs.declared.checker.Checker.{Checker}
use Rattle.cert_check.specs.declared.checker.Checker.TheVariants as kind
use Rattle.cert_check.specs.Answers.{verdict_of, Tells, IsAnswerOf, IsNextLine}
use Rattle.cert_check.specs.Whole.{answer_from, verdict_from, ended_answer, Starts, AreFew, TellsFrom, IsTurn, IsEnd}

-- the fault of a text, as the check has it
abbrev fault_of : CertTextFault → CheckFault
fault_of (text.Text line k) = fault.Text line k
fault_of text.ReadFault = fault.ReadFault
fault_of text.NoMemory = fault.NoMemory

-- the answer of a reader tells the next line
ok_as : (o : Option CertLine) (told left : Reading) → IsAnswer (Ok o) told left → IsNextLine (Ok o) told left
ok_as (Some line) told left is = is
ok_as None told left is = is

err_as : (f : CertTextFault) (told left : Reading) → IsAnswer (Err f) told left → IsNextLine (Err (fault_of f)) told left
err_as (text.Text line k) told left is = is
err_as text.ReadFault told left is = tt
err_as text.NoMemory told left is = tt

-- and so does what goes on with it
module _ {old new : Reading → Type 0} where
  pub next_ok : (o next : Option CertLine) → o ≡ next → GoesOn old new (IsAnswer (Ok o)) → GoesOn old new (IsNextLine (Ok next))
  next_ok o next is goes = goes_as (subst (λ (o : Option CertLine). GoesOn old new (IsAnswer (Ok o))) is goes) (ok_as next)

  pub next_err : (f at : CertTextFault) → f ≡ at → GoesOn old new (IsAnswer (Err f)) → GoesOn old new (IsNextLine (Err (fault_of at)))
  next_err f at is goes = goes_as (subst (λ (f : CertTextFault). GoesOn old new (IsAnswer (Err f))) is goes) (err_as at)

-- a fact, where a call answered
pub on_ok : {T : Type 0} (r : Result T CheckFault) (Fact : Type 0) → Fact → OnOk r Fact
on_ok (Ok value) Fact fact = fact
on_ok (Err f) Fact fact = tt

-- no line is left, or one that has a fault
bare_from : (proof : State) (checker : Checker) (n : ℕ) (f : CheckFault) (read left : Reading) → IsNextLine (Err f) read left → Tells (answer_from proof checker n read) (Err f)
bare_from proof (kind.Listing c) n (fault.Text line k) read left is = ap (answer_from proof (kind.Listing c) n) is
bare_from proof (kind.Claims c) n (fault.Text line k) read left is = ap (answer_from proof (kind.Claims c) n) is
bare_from proof checker n (fault.Rejected line k) read left is = absurd is
bare_from proof checker n fault.ReadFault read left is = tt
bare_from proof checker n fault.NoMemory read left is = tt

none_from : (proof : State) (checker : Checker) (n : ℕ) (read left : Reading) → IsNextLine (Ok None) read left → Tells (answer_from proof checker n read) (Err (fault.Rejected n MissingBranch))
none_from proof (kind.Listing c) n read left is = ap (answer_from proof (kind.Listing c) n) is
none_from proof (kind.Claims c) n read left is = ap (answer_from proof (kind.Claims c) n) is

-- the steps from one reading to the next
module _ {old new : Reading → Type 0} where
  -- the next line by its name
  line_as : (o : Option CertLine) (line : CertLine) → o ≡ Some line → GoesOn old new (IsNextLine (Ok o)) → GoesOn old new (λ told left. told ≡ with_first line left)
  line_as o line is goes = subst (λ (o : Option CertLine). GoesOn old new (IsNextLine (Ok o))) is goes

  -- a line was read and taken
  pub turn_line : (proof : State) (checker : Checker) (n : ℕ) (after : State) (next : Checker) (o : Option CertLine) (line : CertLine) (r : Result Turn CheckFault) → o ≡ Some line → GoesOn old new (IsNextLine (Ok o))
      → ((left : Reading) → IsTurn proof checker n (with_first line left) after next left r) → GoesOn old new (λ told left. IsTurn proof checker n told after next left r)
  turn_line proof checker n after next o line r is goes takes =
      goes_as (line_as o line is goes) (λ told left first. subst (λ told. IsTurn proof checker n told after next left r) (sym first) (takes left))

  -- none is left
  pub turn_none : (proof : State) (checker : Checker) (n : ℕ) (after : State) (next : Checker) (o : Option CertLine) → o ≡ None → GoesOn old new (IsNextLine (Ok o))
      → GoesOn old new (λ told left. IsTurn proof checker n told after next left (Err (fault.Rejected n MissingBranch)))
  turn_none proof checker n after next o is goes = goes_as (subst (λ (o : Option CertLine). GoesOn old new (IsNextLine (Ok o))) is goes) (λ told left none. none_from proof checker n told left none)

  -- there is a fault
  pub turn_fault : (proof : State) (checker : Checker) (n : ℕ) (after : State) (next : Checker) (f : CheckFault) → GoesOn old new (IsNextLine (Err f)) → GoesOn old new (λ told left. IsTurn proof checker n told after next left (Err f))
  turn_fault proof checker n after next f goes = goes_as goes (λ told left at. bare_from proof checker n f told left at)

  -- with one line more read, the lines stay few
  pub few_on : (n : ℕ) (o : Option CertLine) (line : CertLine) → o ≡ Some line → GoesOn old new (IsNextLine (Ok o)) → AreFew n old → AreFew (n + 1) new
  few_on n o line is goes few = λ read here.
      let prior = (line_as o line is goes).before read here in
      omega (arith, few prior.0 prior.1.0, ap (λ (read : Reading). length read.lines) prior.1.1)

-- more lines than a certificate has bytes are not to be read
pub too_many : {T : Type 0} (reader : Reader) (left : Option (List ℕ)) (n : ℕ) → 2 ^ 36 < n → AreFew n (MayRead reader left) → T
too_many reader left n many few = let some = some_read reader left in absurd (omega (arith, many, few some.0 some.1))

-- what was read from the top on, a line after the other
module _ {first old new : Reading → Type 0} (given : State) (top : Checker) (proof : State) (checker : Checker) (n : ℕ)
    (so_far : GoesOn first old (λ all now. answer_from given top 1 all ≡ answer_from proof checker n now)) where
  pub answers_on : (after : State) (next : Checker) (t : Turn) → t ≡ turn.Further → GoesOn old new (λ told left. IsTurn proof checker n told after next left (Ok t))
      → GoesOn first new (λ all now. answer_from given top 1 all ≡ answer_from after next (n + 1) now)
  answers_on after next t is turns =
      goes_joins so_far (subst (λ (t : Turn). GoesOn old new (λ told left. IsTurn proof checker n told after next left (Ok t))) is turns) (λ all told left before after. before ∙ after)

  pub answers_end : (after : State) (next : Checker) (t : Turn) (to : Option (List Rel)) (r : Result Accepted CheckFault) → t ≡ turn.Ended to → GoesOn old new (λ told left. IsTurn proof checker n told after next left (Ok t))
      → ForSome new (λ read. Tells (ended_answer (verdict_from next to) read.ends) r) → TellsFrom given top 1 first r
  answers_end after next t to r is turns told =
      let joined : GoesOn first new (λ all left. answer_from given top 1 all ≡ ended_answer (verdict_from next to) left.ends) =
      goes_joins so_far (subst (λ (t : Turn). GoesOn old new (λ told left. IsTurn proof checker n told after next left (Ok t))) is turns) (λ all told left before after. before ∙ after) in
      some_before joined (λ read. Tells (ended_answer (verdict_from next to) read.ends) r) told (λ all left same tells. subst (λ answer. Tells answer r) (sym same) tells)

  pub answers_fault : (after : State) (next : Checker) (f : CheckFault) → (read : Reading) × new read → GoesOn old new (λ told left. IsTurn proof checker n told after next left (Err f)) → TellsFrom given top 1 first (Err f)
  answers_fault after next f some turns =
      let told = turns.before some.0 some.1 in
      some_before so_far (λ now. Tells (answer_from proof checker n now) (Err f)) told (λ all now same tells. subst (λ answer. Tells answer (Err f)) (sym same) tells)

-- a fault is the end of all the text
fault_end : (f : CheckFault) (all now left : Reading) → all.ends ≡ now.ends → IsNextLine (Err f) now left → IsEnd all (Err f)
fault_end (fault.Text line k) all now left same at = same ∙ ap (λ (read : Reading). read.ends) at
fault_end (fault.Rejected line k) all now left same at = at
fault_end fault.ReadFault all now left same at = tt
fault_end fault.NoMemory all now left same at = tt

-- the end of the text
module _ {first old new : Reading → Type 0} (so_far : GoesOn first old (λ all now. all.ends ≡ now.ends)) where
  pub ends_on : (o : Option CertLine) (line : CertLine) → o ≡ Some line → GoesOn old new (IsNextLine (Ok o)) → GoesOn first new (λ all now. all.ends ≡ now.ends)
  ends_on o line is goes = goes_joins so_far (line_as o line is goes) (λ all told left same first. same ∙ ap (λ (read : Reading). read.ends) first)

  pub ends_whole : (o : Option CertLine) (some : (read : Reading) × new read) → o ≡ None → GoesOn old new (IsNextLine (Ok o)) → ForSome first (λ read. IsEnd read (Ok (tt {0})))
  ends_whole o some is goes =
      let told = (subst (λ (o : Option CertLine). GoesOn old new (IsNextLine (Ok o))) is goes).before some.0 some.1 in
      some_before so_far (λ now. now ≡ whole) told (λ all now same none. same ∙ ap (λ (read : Reading). read.ends) none)

  pub ends_fault : (f : CheckFault) (some : (read : Reading) × new read) → GoesOn old new (IsNextLine (Err f)) → ForSome first (λ read. IsEnd read (Err f))
  ends_fault f some goes =
      let told = goes.before some.0 some.1 in
      some_before so_far (λ now. IsNextLine (Err f) now some.0) told (λ all now same at. fault_end f all now some.0 same at)

-- the answer by the end, behind the last line
end_tells : (v : Verdict) (f : CheckFault) (read : Reading) → IsEnd read (Err f) → Tells (ended_answer v read.ends) (Err f)
end_tells v (fault.Text line k) read is = ap (ended_answer v) is
end_tells v (fault.Rejected line k) read is = absurd is
end_tells v fault.ReadFault read is = tt
end_tells v fault.NoMemory read is = tt

pub finish_ok : {may : Reading → Type 0} (v : Verdict) (said : Accepted) → v ≡ verdict_of said → ForSome may (λ read. IsEnd read (Ok (tt {0}))) → ForSome may (λ read. Tells (ended_answer v read.ends) (Ok said))
finish_ok v said same end = (end.0, (end.1.0, ap (ended_answer v) end.1.1 ∙ ap Accepts same))

pub finish_fault : {may : Reading → Type 0} (v : Verdict) (f : CheckFault) → ForSome may (λ read. IsEnd read (Err f)) → ForSome may (λ read. Tells (ended_answer v read.ends) (Err f))
finish_fault v f end = (end.0, (end.1.0, end_tells v f end.0 end.1.1))

-- the first line was taken, and those behind it have their answer
pub starts_tells : {may : Reading → Type 0} (p : Problem) (first : CertLine) (checker : Checker) (r : Result Accepted CheckFault) → Starts p first (Ok checker) → TellsFrom (first_state (given_clauses p)) checker 1 may r
    → ForSome may (λ read. IsAnswerOf p (with_first first read) r)
starts_tells p first checker r starts told = (told.0, (told.1.0, subst (λ answer. Tells answer r) (sym (starts told.0)) told.1.1))

starts_fault : (p : Problem) (first : CertLine) (f : CheckFault) (read : Reading) → Starts p first (Err f) → IsAnswerOf p (with_first first read) (Err f)
starts_fault p first (fault.Rejected line k) read starts = starts read
starts_fault p first (fault.Text line k) read starts = absurd starts
starts_fault p first fault.ReadFault read starts = absurd starts
starts_fault p first fault.NoMemory read starts = tt

-- or it is not taken
pub starts_not : {may : Reading → Type 0} (p : Problem) (first : CertLine) (f : CheckFault) → (read : Reading) × may read → Starts p first (Err f)
    → ForSome may (λ read. IsAnswerOf p (with_first first read) (Err f))
starts_not p first f some starts = (some.0, (some.1, starts_fault p first f some.0 starts))

bare_tells : (p : Problem) (f : CheckFault) (read left : Reading) → IsNextLine (Err f) read left → IsAnswerOf p read (Err f)
bare_tells p (fault.Text line k) read left is = ap (λ (read : Reading). answer_of p read.lines read.ends) is
bare_tells p (fault.Rejected line k) read left is = absurd is
bare_tells p fault.ReadFault read left is = tt
bare_tells p fault.NoMemory read left is = tt

-- the whole text, by its first line
module _ {old new : Reading → Type 0} (p : Problem) where
  pub first_tells : (o : Option CertLine) (first : CertLine) (r : Result Accepted CheckFault) → o ≡ Some first → GoesOn old new (IsNextLine (Ok o))
      → ForSome new (λ read. IsAnswerOf p (with_first first read) r) → ForSome old (λ read. IsAnswerOf p read r)
  first_tells o first r is goes told = some_before (line_as o first is goes) (λ read. IsAnswerOf p (with_first first read) r) told (λ all left same tells. subst (λ read. IsAnswerOf p read r) (sym same) tells)

  pub none_tells : (o : Option CertLine) (f : CheckFault) → o ≡ None → f ≡ fault.Rejected 1 WrongHeader → (read : Reading) × new read → GoesOn old new (IsNextLine (Ok o))
      → ForSome old (λ read. IsAnswerOf p read (Err f))
  none_tells o f is is_fault some goes =
      let told = (subst (λ (o : Option CertLine). GoesOn old new (IsNextLine (Ok o))) is goes).before some.0 some.1 in
      (told.0, (told.1.0, subst (λ f. IsAnswerOf p told.0 (Err f)) (sym is_fault) (ap (λ (read : Reading). answer_of p read.lines read.ends) told.1.1)))

  pub fault_tells : (f : CheckFault) → (read : Reading) × new read → GoesOn old new (IsNextLine (Err f)) → ForSome old (λ read. IsAnswerOf p read (Err f))
  fault_tells f some goes = let told = goes.before some.0 some.1 in (told.0, (told.1.0, bare_tells p f told.0 some.0 told.1.1))

-- the answer to bytes that the source may hold
pub top_tells : (p : Problem) (reader : Reader) (left : Option (List ℕ)) (r : Result Accepted CheckFault) → reader ≡ record { spot = first_spot; pending = []; refusal = None }
    → ForSome (MayRead reader left) (λ read. IsAnswerOf p read r) → ForSome (MayHold left) (λ bytes. IsAnswerOf p (reading bytes) r)
top_tells p reader left r is told =
    let fresh = subst (λ reader. ForSome (MayRead reader left) (λ read. IsAnswerOf p read r)) is told in
    let bytes = fresh.1.0 in
    (bytes.1.0.0, (bytes.1.0.1.0, subst (λ read. IsAnswerOf p read r) (bytes.1.1 ∙ ap reading bytes.1.0.1.1) fresh.1.1))

-- with no memory for a reader, any bytes that the source may hold do
pub starved_tells : (p : Problem) (left : Option (List ℕ)) (r : Result Accepted CheckFault) → IsErrAnd r (λ f. f ≡ fault.NoMemory) → ForSome (MayHold left) (λ bytes. IsAnswerOf p (reading bytes) r)
starved_tells p left (Ok said) starved = absurd starved
starved_tells p left (Err f) starved =
    let come = (some_read (record { spot = first_spot; pending = []; refusal = None }) left).1.1.0 in
    (come.0, (come.1.0, subst (λ f. IsAnswerOf p (reading come.0) (Err f)) (sym starved) tt))

-- what was accepted is so
pub verdict_so : {may : List ℕ → Type 0} (p : Problem) (r : Result Accepted CheckFault) → IsBuilt p → AcceptedIsSo CertTextKind → ForSome may (λ bytes. IsAnswerOf p (reading bytes) r)
    → IfOk r (λ said. VerdictIsSo p (verdict_of said))
verdict_so p (Ok said) built law told = law p built (reading told.0).lines (reading told.0).ends (verdict_of said) told.1.1
verdict_so p (Err f) built law told = tt
