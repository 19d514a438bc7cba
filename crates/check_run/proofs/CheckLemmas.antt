-- How a check ends, by its parts.
use Rattle.std.proofs.Common.{◌≡◌, ℕ, List, [], Option, IfOk, IfErr, Result, Ok, Err, refl, sym, ap, subst, inl, inr, ⊎_elim, arith}
use Rattle.std.specs.Prelude.{⊤}
use Rattle.std.specs.Borrow.{Bor}
use Rattle.outer_store.specs.Contents.{Contents}
use Rattle.outer_store.specs.Faults.{Rose}
use Rattle.outer_store.specs.ReaderParts.{reader_store, reader_name}
use Rattle.outer_store.specs.declared.reader.StoreReader.{StoreReader}
use Rattle.outer_store.specs.declared.fault.StoreFault.{StoreFault}
use Rattle.outer_store.specs.declared.fault.StoreFault.TheVariants as store_fault
use Rattle.world_model.specs.declared.Switches.{Switches}
use Rattle.world_model.specs.Problem.{Problem}
use Rattle.cert_reader.specs.Bytes.{MayHold, ForSome}
use Rattle.cert_reader.specs.Reading.{reading}
use Rattle.cert_rules.specs.Files.{Verdict}
use Rattle.cert_check.specs.Answers.{verdict_of, IsAnswerOf, IfReadFault}
use Rattle.cert_check.specs.declared.accepted.Accepted.{Accepted}
use Rattle.cert_check.specs.declared.fault.CheckFault.{CheckFault}
use Rattle.cert_check.specs.declared.fault.CheckFault.TheVariants as fault
use Rattle.run_ends.specs.declared.Status.{Status}
use Rattle.run_ends.specs.declared.Status.TheVariants as status
use Rattle.run_ends.specs.Ends.{end_line}
use Rattle.run_ends.specs.Reads.{problem_in, ComesOf, IsWithout}
use Rattle.outer_store.specs.States.{StoreState, SinkState, IsQuiet}
use Rattle.run_ends.specs.Runs.{Answered, ending_of, IsEarlyEnd, IsCarriedOut}
use Rattle.run_ends.proofs.TextLemmas.{err_same, says_problem, without_text}
use Rattle.run_ends.proofs.EndLemmas.{all_kept, none_written}
use Rattle.check_run.specs.Checking.{verdict_text, status_by, text_by, IsCertAnswer, IsAnswerBy, IsCheckAnswer, check_names}
use Rattle.check_run.specs.Steps.{status_of, IsAccepted, IsNotAccepted, IsVerdictOf, IsPutAnswer}

-- a run that has no problem
pub without_problem : (input cert : List ℕ) (switches : Switches) (s : Status) (one other : StoreState) → IsWithout input (problem_in switches) s one other
    → IsEarlyEnd (check_names input cert) (IsCheckAnswer input cert switches) s one other
without_problem input cert switches s one other end =
    without_text (check_names input cert) (IsCheckAnswer input cert switches) input switches s one other (0, omega arith, refl)
    (λ fault text. record {
      bytes = text.bytes;
      told = text.told_are;
      answer =
          subst (λ r. IsAnswerBy r (one.held cert) (status.RefusedText fault.0 fault.1) (end_line (status.RefusedText fault.0 fault.1))) (sym text.is) (refl, refl);
      none_written = refl;
    })
    end

-- one whose certificate is not accepted
pub without_cert : (input cert : List ℕ) (switches : Switches) (p : Problem) (s : Status) (one mid other : StoreState) → mid ≡ one
    → ComesOf one.held input (problem_in switches) (Ok p) → IsNotAccepted p cert s mid other
    → IsEarlyEnd (check_names input cert) (IsCheckAnswer input cert switches) s one other
without_cert input cert switches p s one mid other same comes end = by (subst (λ (state : StoreState). IsNotAccepted p cert s state other) same end)
  where
    by : IsNotAccepted p cert s one other → IsEarlyEnd (check_names input cert) (IsCheckAnswer input cert switches) s one other
    by end = ⊎_elim
        (λ refused.
        let text = says_problem one.held input switches p comes in
        inl (
          record {
            bytes = text.bytes;
            told = text.told_are;
            answer = subst (λ r. IsAnswerBy r (one.held cert) s (end_line s)) (sym text.is) refused.answer;
            none_written = refl;
          },
          refused.answered,
          refused.quiet,
        ))
        (λ unread. ⊎_elim
        (λ failed. inr (inl (failed.0, record { name = cert; named = (1, omega arith, refl); rose = failed.1 })))
        (λ starved. inr (inr starved))
        unread)
        end

-- one whose certificate is accepted
pub verdict_found : (input cert : List ℕ) (switches : Switches) (p : Problem) (v : Verdict) (one mid : Contents) → mid ≡ one
    → ComesOf one input (problem_in switches) (Ok p) → IsAccepted p (mid cert) v → IsVerdictOf input cert switches one v
verdict_found input cert switches p v one mid same comes accepted =
    let text = says_problem one input switches p comes in
    record {
      bytes = text.bytes;
      told = text.told_are;
      problem = p;
      is = text.is;
      accepted = subst (λ (held : Contents). IsAccepted p (held cert) v) same accepted;
    }

accepted_answer : (p : Problem) (told : Option (List ℕ)) (v : Verdict) → IsAccepted p told v → IsCertAnswer p told status.Done (verdict_text v)
accepted_answer p told v accepted = (accepted.0, (accepted.1.0, (ap status_by (sym accepted.1.1), ap text_by (sym accepted.1.1))))

verdict_answer : (input cert : List ℕ) (switches : Switches) (held : Contents) (v : Verdict) → IsVerdictOf input cert switches held v
    → IsCheckAnswer input cert switches held status.Done (verdict_text v) []
verdict_answer input cert switches held v found = record {
  bytes = found.bytes;
  told = found.told;
  answer = subst (λ r. IsAnswerBy r (held cert) status.Done (verdict_text v)) (sym found.is) (accepted_answer found.problem (held cert) v found.accepted);
  none_written = refl;
}

pub carried : (input cert : List ℕ) (switches : Switches) (v : Verdict) (r : Result Status StoreFault) (one other : StoreState) (old new : SinkState)
    → IsVerdictOf input cert switches one.held v → other.held ≡ one.held → IsQuiet one other → IsPutAnswer r v old new
    → IsCarriedOut (IsCheckAnswer input cert switches) r [] one other old new
carried input cert switches v (Ok s) one other old new found kept quiet put = record {
  done = record {
    text = verdict_text v;
    files = [];
    asked = subst (λ x. IsCheckAnswer input cert switches one.held x (verdict_text v) []) (sym put.ok.0) (verdict_answer input cert switches one.held v found);
    answered = ap ending_of put.ok.0;
    put = put.ok.1;
    written = none_written one.held other.held kept;
  };
  refused = tt;
  by_cause = record { cause = (quiet, put.cause); kept = all_kept [] one.held other.held kept };
}
carried input cert switches v (Err store_fault.Failed) one other old new found kept quiet put = record {
  done = tt;
  refused = record {
    text = verdict_text v;
    of_answer = inl (status.Done, [], verdict_answer input cert switches one.held v found);
    part = put.err;
  };
  by_cause = record { cause = inl (put.cause, quiet); kept = all_kept [] one.held other.held kept };
}
carried input cert switches v (Err store_fault.NoMemory) one other old new found kept quiet put = record {
  done = tt;
  refused = record {
    text = verdict_text v;
    of_answer = inl (status.Done, [], verdict_answer input cert switches one.held v found);
    part = put.err;
  };
  by_cause = record { cause = (quiet, put.cause); kept = all_kept [] one.held other.held kept };
}

-- a certificate is accepted, by the answer to what is left under its name
pub accepted_left : (p : Problem) (left told : Option (List ℕ)) (said : Accepted) → left ≡ told → ForSome (MayHold left) (λ bytes. IsAnswerOf p (reading bytes) (Ok said))
    → IsAccepted p told (verdict_of said)
accepted_left p left told said same tells = subst (λ told. IsAccepted p told (verdict_of said)) same tells

-- or it is refused, and no call failed
refused_left : (p : Problem) (cert : List ℕ) (left : Option (List ℕ)) (s : Status) (one other : StoreState) → left ≡ one.held cert → ending_of s ≡ Answered → IsQuiet one other
    → IsCertAnswer p left s (end_line s) → IsNotAccepted p cert s one other
refused_left p cert left s one other same answered quiet answer = inl (record { answer = subst (λ told. IsCertAnswer p told s (end_line s)) same answer; answered = answered; quiet = quiet })

-- why it is not accepted
not_accepted : (p : Problem) (cert : List ℕ) (left : Option (List ℕ)) (f : CheckFault) (one other : StoreState) → left ≡ one.held cert
    → ForSome (MayHold left) (λ bytes. IsAnswerOf p (reading bytes) (Err f)) → IfReadFault {T = Accepted} (Err f) (Rose (one.reads cert) (other.reads cert)) (other.reads cert ≡ one.reads cert)
    → IfReadFault {T = Accepted} (Err f) ⊤ (IsQuiet one other) → IsNotAccepted p cert (status_of f) one other
not_accepted p cert left (fault.Text n kind) one other same tells cause quiet =
    refused_left p cert left (status.RefusedCert n kind) one other same refl quiet (tells.0, (tells.1.0, (ap status_by (sym tells.1.1), ap text_by (sym tells.1.1))))
not_accepted p cert left (fault.Rejected n kind) one other same tells cause quiet =
    refused_left p cert left (status.Rejected n kind) one other same refl quiet (tells.0, (tells.1.0, (ap status_by (sym tells.1.1), ap text_by (sym tells.1.1))))
not_accepted p cert left fault.ReadFault one other same tells cause quiet = inr (inl (refl, cause))
not_accepted p cert left fault.NoMemory one other same tells cause quiet = inr (inr (refl, quiet))

-- by the names and the stores of a reader
not_accepted_by : (p : Problem) (cert first last : List ℕ) (left : Option (List ℕ)) (f : CheckFault) (s : Status) (one start other : StoreState)
    → first ≡ cert → last ≡ first → start ≡ one → s ≡ status_of f → left ≡ one.held cert → ForSome (MayHold left) (λ bytes. IsAnswerOf p (reading bytes) (Err f))
    → IfReadFault {T = Accepted} (Err f) (Rose (start.reads first) (other.reads last)) (other.reads last ≡ start.reads first)
    → IfReadFault {T = Accepted} (Err f) ⊤ (IsQuiet start other) → IsNotAccepted p cert s one other
not_accepted_by p cert first last left f s one start other is stays same ends holds tells cause quiet =
    let stayed : IfReadFault {T = Accepted} (Err f) (Rose (start.reads first) (other.reads first)) (other.reads first ≡ start.reads first) =
    subst (λ last. IfReadFault {T = Accepted} (Err f) (Rose (start.reads first) (other.reads last)) (other.reads last ≡ start.reads first)) stays cause in
    let named : IfReadFault {T = Accepted} (Err f) (Rose (start.reads cert) (other.reads cert)) (other.reads cert ≡ start.reads cert) =
    subst (λ first. IfReadFault {T = Accepted} (Err f) (Rose (start.reads first) (other.reads first)) (other.reads first ≡ start.reads first)) is stayed in
    subst (λ s. IsNotAccepted p cert s one other) (sym ends)
    (not_accepted p cert left f one other holds tells
    (subst (λ (start : StoreState). IfReadFault {T = Accepted} (Err f) (Rose (start.reads cert) (other.reads cert)) (other.reads cert ≡ start.reads cert)) same named)
    (subst (λ (start : StoreState). IfReadFault {T = Accepted} (Err f) ⊤ (IsQuiet start other)) same quiet))

-- where the reader's store is what is left of the store that it borrowed
module _ {S : Type 0} (state : S → StoreState) where
  pub not_accepted_over : (p : Problem) (cert : List ℕ) (left : Option (List ℕ)) (f : CheckFault) (s : Status) (store end : S) (a b : StoreReader S)
      → s ≡ status_of f → (reader_store b).now ≡ end → (reader_store a).now ≡ store → (reader_name a).now ≡ cert → reader_name b ≡ reader_name a
      → left ≡ (state store).held cert → ForSome (MayHold left) (λ bytes. IsAnswerOf p (reading bytes) (Err f))
      → IfReadFault {T = Accepted} (Err f) (Rose ((state (reader_store a).now).reads (reader_name a).now) ((state (reader_store b).now).reads (reader_name b).now))
      ((state (reader_store b).now).reads (reader_name b).now ≡ (state (reader_store a).now).reads (reader_name a).now)
      → IfReadFault {T = Accepted} (Err f) ⊤ (IsQuiet (state (reader_store a).now) (state (reader_store b).now)) → IsNotAccepted p cert s (state store) (state end)
  not_accepted_over p cert left f s store end a b ends is_end is_store named same holds tells cause quiet =
      subst (λ (end : S). IsNotAccepted p cert s (state store) (state end)) is_end
      (not_accepted_by p cert (reader_name a).now (reader_name b).now left f s (state store) (state (reader_store a).now) (state (reader_store b).now) named
      (ap (λ (name : Bor (List ℕ)). name.now) same) (ap state is_store) ends holds tells cause quiet)

pub found_ok : (r : Result Accepted Status) (input cert : List ℕ) (switches : Switches) (p : Problem) (one mid : Contents) → mid ≡ one
    → ComesOf one input (problem_in switches) (Ok p) → IfOk r (λ a. IsAccepted p (mid cert) (verdict_of a)) → IfOk r (λ a. IsVerdictOf input cert switches one (verdict_of a))
found_ok (Ok a) input cert switches p one mid same comes accepted = verdict_found input cert switches p (verdict_of a) one mid same comes accepted
found_ok (Err s) input cert switches p one mid same comes accepted = tt

pub ended_err : (r : Result Accepted Status) (input cert : List ℕ) (switches : Switches) (p : Problem) (one mid other : StoreState) → mid ≡ one
    → ComesOf one.held input (problem_in switches) (Ok p) → IfErr r (λ s. IsNotAccepted p cert s mid other)
    → IfErr r (λ s. IsEarlyEnd (check_names input cert) (IsCheckAnswer input cert switches) s one other)
ended_err (Ok a) input cert switches p one mid other same comes end = tt
ended_err (Err s) input cert switches p one mid other same comes end = without_cert input cert switches p s one mid other same comes end
