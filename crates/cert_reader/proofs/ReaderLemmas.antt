-- What a line, or a rest with no LF, leaves to be read.
use Rattle.std.proofs.Common.{◌≡◌, ℕ, ◌≤◌, false, List, [], ◌∷◌, ◌++◌, length, Option, Some, None, IfNone, IfOk, OnOk, Result, Ok, Err, IsErrAnd, refl, sym, ap, subst, ◌∙◌, arith}
use Rattle.std.specs.Prelude.{⊤}
use Rattle.proof_text.specs.Laws.{has_byte}
use Rattle.cert_text.specs.declared.line.CertLine.{CertLine}
use Rattle.cert_reader.specs.declared.spot.Spot.{Spot}
use Rattle.cert_reader.specs.declared.fault.CertTextKind.{CertTextKind}
use Rattle.cert_reader.specs.declared.fault.CertTextFault.{CertTextFault}
use Rattle.cert_reader.specs.declared.fault.CertTextFault.TheVariants.{Text, ReadFault, NoMemory}
use Rattle.cert_text.specs.Ends.{Faulty}
use Rattle.cert_reader.specs.Reading.{Reading, with_first, rest_fault, line_at, ending, going_on, reading_from}
use Rattle.cert_reader.specs.declared.gather.Gathered.{Gathered}
use Rattle.cert_reader.specs.declared.gather.Gathered.TheVariants as gathered
use Rattle.cert_reader.specs.Bytes.{MayHold, MayCome, ForSome, GoesOn}
use Rattle.cert_reader.proofs.BlockLemmas.{none_of}
use Rattle.cert_reader.proofs.ReadingLemmas.{reading_line, reading_rest}
use Rattle.cert_reader.specs.Reader.{Reader, IsGathered, MayRead, IsToldAt, IsAnswer, ended_by}

-- the reading where a line was read
line_first : (spot after : Spot) (x : CertLine) (line old rest : List ℕ) → has_byte 10 line ≡ false → old ≡ line ++ 10 ∷ rest → line_at spot line ≡ Ok (x, after) →
    reading_from spot old ≡ with_first x (reading_from after rest)
line_first spot after x line old rest clean e read =
    ap (reading_from spot) e ∙ reading_line spot line rest clean ∙ ap (λ read. going_on spot read (λ after. reading_from after rest)) read

-- the answers at a line's fault
answer_fault : (spot : Spot) (line old rest : List ℕ) (fault : CertTextFault) (later : Reading) → has_byte 10 line ≡ false → old ≡ line ++ 10 ∷ rest →
    IsToldAt {A = CertLine × Spot} spot (line_at spot line) (Err fault) → IsAnswer (Err fault) (reading_from spot old) later
answer_fault spot line old rest (Text n kind) later clean e told =
    ap (reading_from spot) e ∙ reading_line spot line rest clean ∙ ap (λ read. going_on spot read (λ after. reading_from after rest)) told.1
    ∙ ap (λ n. record { lines = []; ends = Faulty n kind }) (sym told.0)
answer_fault spot line old rest ReadFault later clean e told = tt
answer_fault spot line old rest NoMemory later clean e told = tt

-- what `?` answers
answer_residual : (r : Result (Option CertLine) CertTextFault) (fault : CertTextFault) (old new : Reading) → IsErrAnd r (λ y. y ≡ fault) → IsAnswer (Err fault) old new → IsAnswer r old new
answer_residual (Ok x) fault old new is h = absurd is
answer_residual (Err y) fault old new is h = subst (λ f. IsAnswer (Err f) old new) (sym is) h

ended_answer : (spot : Spot) (o : Option CertTextKind) (old new : Reading) → old ≡ ending spot o → IsAnswer (ended_by spot o) old new
ended_answer spot None old new h = h
ended_answer spot (Some kind) old new h = h

-- where the bytes have ended, none was at hand before, and none is at hand now
pub stays_at_end : (r : Result (Option CertLine) CertTextFault) (self : Reader) (spot : Spot) (old new : List ℕ) (refusal : Option CertTextFault) (bytes line : List ℕ) →
    record { spot = spot; pending = old; refusal = refusal } ≡ self → bytes ≡ line → OnOk r (length bytes ≡ 0) → (new ≡ []) × (length old ≤ length line) →
    IfOk r (λ x. IfNone x (record { spot = spot; pending = new; refusal = refusal } ≡ self))
stays_at_end (Ok None) self spot old new refusal bytes line is same empty rest =
    let none : old ≡ [] = none_of old (omega (arith, rest.1, empty, ap length same)) in
    ap (λ pending. record { spot = spot; pending = pending; refusal = refusal }) (rest.0 ∙ sym none) ∙ is
stays_at_end (Ok (Some x)) self spot old new refusal bytes line is same empty rest = tt
stays_at_end (Err fault) self spot old new refusal bytes line is same empty rest = tt

-- a fact, where an answer is none
pub where_none : (r : Result (Option CertLine) CertTextFault) (Fact : Type 0) → Fact → IfOk r (λ x. IfNone x Fact)
where_none (Ok None) Fact fact = fact
where_none (Ok (Some x)) Fact fact = tt
where_none (Err fault) Fact fact = tt

-- something may be to come, and so to be read
some_held : (left : Option (List ℕ)) → ForSome (MayHold left) (λ bytes. ⊤)
some_held None = ([], (tt, tt))
some_held (Some bytes) = (bytes, (refl, tt))

pub some_read : (reader : Reader) (left : Option (List ℕ)) → (read : Reading) × MayRead reader left read
some_read reader left =
    let rest = some_held left in
    (reading_from reader.spot (reader.pending ++ rest.0), (reader.pending ++ rest.0, ((rest.0, (rest.1.0, refl)), refl)))

-- where there is no reading of the text, any may have been before
pub answer_unread : (self : Reader) (left : Option (List ℕ)) (later : Reading → Type 0) (r : Result (Option CertLine) CertTextFault) → ((old new : Reading) → IsAnswer r old new)
    → GoesOn (MayRead self left) later (IsAnswer r)
answer_unread self left later r any = record { before = λ read may. let some = some_read self left in (some.0, (some.1, any some.0 read)) }

-- a reader that keeps its refusal has the same to read
pub refused_read : (self new : Reader) (spot : Spot) (pending : List ℕ) (refusal last : Option CertTextFault) (left after : Option (List ℕ)) (r : Result (Option CertLine) CertTextFault)
    → record { spot = spot; pending = pending; refusal = refusal } ≡ new → GoesOn (MayRead self left) (MayRead new after) (IsAnswer r)
    → GoesOn (MayRead self left) (MayRead (record { spot = spot; pending = pending; refusal = last }) after) (IsAnswer r)
refused_read self new spot pending refusal last left after r is goes =
    subst (λ (new : Reader). GoesOn (MayRead self left) (MayRead (record { spot = new.spot; pending = new.pending; refusal = last }) after) (IsAnswer r)) (sym is) goes

-- the answers of a reader, by what its calls ensure
module _ (self : Reader) (spot : Spot) (pending : List ℕ) (refusal : Option CertTextFault) (left : Option (List ℕ)) (next : List ℕ) (after : Option (List ℕ)) (how : Gathered) (line : List ℕ)
    (is : record { spot = spot; pending = pending; refusal = refusal } ≡ self) (gathers : GoesOn (MayCome pending left) (MayCome next after) (λ old new. IsGathered how spot old new line)) where
  -- what is gathered before what may be to come now
  gathered_as : (shape : Gathered) → how ≡ shape → (rest : List ℕ) → MayCome next after rest → ForSome (MayCome pending left) (λ old. IsGathered shape spot old rest line)
  gathered_as shape is_shape rest may = subst (λ how. ForSome (MayCome pending left) (λ old. IsGathered how spot old rest line)) is_shape (gathers.before rest may)

  -- an answer from the bytes that were gathered
  from_gathered : (r : Result (Option CertLine) CertTextFault) (shape : Gathered) (on : Spot) (last : Option CertTextFault) → how ≡ shape →
      ((old rest : List ℕ) → IsGathered shape spot old rest line → IsAnswer r (reading_from spot old) (reading_from on rest)) →
      GoesOn (MayRead self left) (MayRead (record { spot = on; pending = next; refusal = last }) after) (IsAnswer r)
  from_gathered r shape on last is_shape answers =
      subst (λ (self : Reader). GoesOn (MayRead self left) (MayRead (record { spot = on; pending = next; refusal = last }) after) (IsAnswer r)) is
      (record {
        before = λ read may.
            let prior = gathered_as shape is_shape may.0 may.1.0 in (
              reading_from spot prior.0,
              (
                (prior.0, (prior.1.0, refl)),
                subst (IsAnswer r (reading_from spot prior.0)) (sym may.1.1) (answers prior.0 may.0 prior.1.1),
              ),
            );
      })

  pub told_line : (x : CertLine) (on : Spot) (bytes : List ℕ) → how ≡ gathered.Line → bytes ≡ line → line_at spot bytes ≡ Ok (x, on) →
      GoesOn (MayRead self left) (MayRead (record { spot = on; pending = next; refusal = refusal }) after) (IsAnswer (Ok (Some x)))
  told_line x on bytes is_line same read =
      from_gathered (Ok (Some x)) gathered.Line on refusal is_line (λ old rest got. line_first spot on x line old rest got.0 got.1 (ap (line_at spot) (sym same) ∙ read))

  pub told_fault : (r : Result (Option CertLine) CertTextFault) (fault : CertTextFault) (bytes : List ℕ) → how ≡ gathered.Line → bytes ≡ line → IsErrAnd r (λ y. y ≡ fault) →
      IsToldAt {A = CertLine × Spot} spot (line_at spot bytes) (Err fault) → GoesOn (MayRead self left) (MayRead (record { spot = spot; pending = next; refusal = refusal }) after) (IsAnswer r)
  told_fault r fault bytes is_line same residual told =
      let told_same = subst (λ bytes. IsToldAt {A = CertLine × Spot} spot (line_at spot bytes) (Err fault)) same told in
      from_gathered r gathered.Line spot refusal is_line (λ old rest got.
      answer_residual r fault (reading_from spot old) (reading_from spot rest) residual (answer_fault spot line old rest fault (reading_from spot rest) got.0 got.1 told_same))

  pub told_rest : (answer : Result (Option CertLine) CertTextFault) (bytes : List ℕ) → how ≡ gathered.Rest → bytes ≡ line → answer ≡ ended_by spot (rest_fault spot bytes) →
      GoesOn (MayRead self left) (MayRead (record { spot = spot; pending = next; refusal = refusal }) after) (IsAnswer answer)
  told_rest answer bytes is_rest same is_answer =
      let answer_is : answer ≡ ended_by spot (rest_fault spot line) = is_answer ∙ ap (λ bytes. ended_by spot (rest_fault spot bytes)) same in
      from_gathered answer gathered.Rest spot refusal is_rest (λ old rest got.
      subst (λ answer. IsAnswer answer (reading_from spot old) (reading_from spot rest)) (sym answer_is)
      (ended_answer spot (rest_fault spot line) (reading_from spot old) (reading_from spot rest) (ap (reading_from spot) got.2 ∙ reading_rest spot line got.0)))

  pub told_faulty : (fault : CertTextFault) (kind : CertTextKind) → how ≡ gathered.Faulty kind → fault ≡ Text spot.line kind →
      GoesOn (MayRead self left) (MayRead (record { spot = spot; pending = next; refusal = refusal }) after) (IsAnswer (Err fault))
  told_faulty fault kind is_faulty is_fault =
      from_gathered (Err fault) (gathered.Faulty kind) spot refusal is_faulty (λ old rest got.
      subst (λ fault. IsAnswer (Err fault) (reading_from spot old) (reading_from spot rest)) (sym is_fault) got)
