-- How a question ends, by its parts.
use Rattle.std.proofs.Common.{◌≡◌, ℕ, Bool, true, false, List, [], Option, None, Some, IfSome, Result, Ok, Err, refl, sym, ap, subst, ◌∙◌, inl, inr, arith}
use Rattle.std.specs.Prelude.{is_some, IsTrue, ⊤}
use Rattle.std.specs.Result.{IsErrAnd}
use Rattle.std.specs.Option.{option_to_list}
use Rattle.std.proofs.lemmas.List.Elements.{All-nil, All-cons}
use Rattle.outer_store.specs.Bytes.{added}
use Rattle.outer_store.specs.Contents.{Contents}
use Rattle.outer_store.specs.declared.fault.StoreFault.{StoreFault}
use Rattle.outer_store.specs.declared.fault.StoreFault.TheVariants.{Failed, NoMemory}
use Rattle.outer_store.proofs.BytesLemmas.{GrownInPart-kept}
use Rattle.world_model.specs.declared.Switches.{Switches}
use Rattle.world_model.specs.Problem.{Problem}
use Rattle.cert_rules.specs.ClaimLists.{Claim}
use Rattle.run_ends.specs.declared.Status.{Status}
use Rattle.run_ends.specs.declared.Status.TheVariants as status
use Rattle.run_ends.specs.Ends.{end_line}
use Rattle.run_ends.specs.Reads.{problem_in, ComesOf, IsWithout}
use Rattle.outer_store.specs.States.{StoreState, SinkState, IsQuiet}
use Rattle.run_ends.specs.Runs.{File, LeavesPiece, AreKeptBut, IsHeld, AreWritten, Answered, ending_of, IsEarlyEnd, IsCarriedOut}
use Rattle.run_ends.proofs.EndLemmas.{carried_as}
use Rattle.run_ends.proofs.TextLemmas.{says_problem, without_text}
use Rattle.claims_run.specs.declared.question.Question.{Question}
use Rattle.claims_run.specs.declared.question.Answer.{Answer}
use Rattle.claims_run.specs.declared.question.Answer.TheVariants.{Possible, Consistent, Conflict, Lattice}
use Rattle.claims_run.specs.Answering.{has_too_many, answer_text, answer_status, IsClaimed, IsClaimsCert, IsAnswerPut, IsAnswerAbout, IsAnswerBy, IsClaimsAnswer, claims_names}
use Rattle.run_ends.specs.Runs.{file_under}
use Rattle.claims_run.specs.Certifying.{IsCertLeft, IsSettledWith}

-- a run that has no problem
pub without_problem : (asked : Question) (input : List ℕ) (cert : Option (List ℕ)) (switches : Switches) (s : Status) (one other : StoreState) → IsWithout input (problem_in switches) s one other
    → IsEarlyEnd (claims_names input cert) (IsClaimsAnswer asked input cert switches) s one other
without_problem asked input cert switches s one other end =
    without_text (claims_names input cert) (IsClaimsAnswer asked input cert switches) input switches s one other (0, omega arith, refl)
    (λ fault text. record {
      bytes = text.bytes;
      told = text.told_are;
      answer = subst (λ r. IsAnswerBy r asked cert one.held (status.RefusedText fault.0 fault.1) (end_line (status.RefusedText fault.0 fault.1)) []) (sym text.is) (refl, refl, refl);
    })
    end

-- what comes of a problem answers the question about the name that it comes of
answers_by : (many : Bool) (asked : Question) (input : List ℕ) (cert : Option (List ℕ)) (switches : Switches) (p : Problem) (held : Contents) (s : Status) (put : List ℕ) (files : List File)
    → has_too_many p asked ≡ many → ComesOf held input (problem_in switches) (Ok p) → IsAnswerAbout many p asked cert held s put files → IsClaimsAnswer asked input cert switches held s put files
answers_by many asked input cert switches p held s put files is comes about =
    let text = says_problem held input switches p comes in
    record {
      bytes = text.bytes;
      told = text.told_are;
      answer =
          subst (λ x. IsAnswerBy x asked cert held s put files) (sym text.is)
          (subst (λ (many : Bool). IsAnswerAbout many p asked cert held s put files) (sym is) about);
    }

-- a run whose problem has more articulations than the question takes
pub with_too_many : (asked : Question) (input : List ℕ) (cert : Option (List ℕ)) (switches : Switches) (p : Problem) (one other : StoreState) → true ≡ has_too_many p asked
    → ComesOf one.held input (problem_in switches) (Ok p) → IsQuiet one other → IsEarlyEnd (claims_names input cert) (IsClaimsAnswer asked input cert switches) status.TooMany one other
with_too_many asked input cert switches p one other many comes quiet =
    inl (answers_by true asked input cert switches p one.held status.TooMany (end_line status.TooMany) [] (sym many) comes (refl, refl, refl), refl, quiet)

-- an answer about a problem is what was asked for, behind a read that left the store as it was
pub question_carried : (asked : Question) (input : List ℕ) (cert : Option (List ℕ)) (switches : Switches) (p : Problem) (r : Result Status StoreFault) (one mid other : StoreState) (old new : SinkState) → false ≡ has_too_many p asked
    → mid ≡ one → ComesOf one.held input (problem_in switches) (Ok p) → IsCarriedOut (IsAnswerPut p asked cert) r (option_to_list cert) mid other old new
    → IsCarriedOut (IsClaimsAnswer asked input cert switches) r (option_to_list cert) one other old new
question_carried asked input cert switches p r one mid other old new few same comes carried =
    carried_as (IsAnswerPut p asked cert) (IsClaimsAnswer asked input cert switches) r (option_to_list cert) one other old new
    (λ s put files settled. answers_by false asked input cert switches p one.held s put files (sym few) comes settled)
    (subst (λ (state : StoreState). IsCarriedOut (IsAnswerPut p asked cert) r (option_to_list cert) state other old new) same carried)

-- a run that has an answer ends well
answered : (a : Answer) → ending_of (answer_status a) ≡ Answered
answered (Possible mir true) = refl
answered (Possible mir false) = refl
answered Consistent = refl
answered (Conflict kept) = refl
answered (Lattice s) = refl

-- the certificate that is left under a name, told where the name told its bytes
pub cert_file : (p : Problem) (IsMade : List Claim → Type 0) (cert : Option (List ℕ)) (held held' : Contents) → IsCertLeft p IsMade cert held held' → AreKeptBut (option_to_list cert) held held'
    → (bytes : Option (List ℕ)) × IfSome cert (λ name. IfSome (held name) (λ _. IfSome bytes (IsClaimsCert p IsMade))) × AreWritten (file_under cert bytes) held held'
cert_file p IsMade None held held' left kept = (None, tt, record { each = All-nil (IsHeld held held'); others = kept })
cert_file p IsMade (Some name) held held' left kept = (
  held' name,
  certified (held name) left,
  record {
    each = All-cons (IsHeld held held') (record { name = name; bytes = held' name }) [] (refl, there (held name) left) (All-nil (IsHeld held held'));
    others = kept;
  },
)
  where
    certified : (before : Option (List ℕ)) → IfSome before (λ _. (bytes : List ℕ) × (held' name ≡ Some bytes) × IsClaimsCert p IsMade bytes) → IfSome before (λ _. IfSome (held' name) (IsClaimsCert p IsMade))
    certified None left = tt
    certified (Some before) left = subst (λ told. IfSome told (IsClaimsCert p IsMade)) (sym left.1) left.2

    there : (before : Option (List ℕ)) → IfSome before (λ _. (bytes : List ℕ) × (held' name ≡ Some bytes) × IsClaimsCert p IsMade bytes) → IfSome before (λ _. IsTrue (is_some (held' name)))
    there None left = tt
    there (Some before) left = ap is_some left.1

-- an answer is right, its certificate is written, and it is put
pub settled_done : (p : Problem) (asked : Question) (cert : Option (List ℕ)) (a : Answer) (s : Status) (one other : StoreState) (old new : SinkState) → IsSettledWith p asked cert (Ok a) one other
    → s ≡ answer_status a → new.bytes ≡ added old.bytes (answer_text p a) → new.faults ≡ old.faults → IsCarriedOut (IsAnswerPut p asked cert) (Ok s) (option_to_list cert) one other old new
settled_done p asked cert a s one other old new settled ended put same =
    let file = cert_file p (IsClaimed p a) cert one.held other.held settled.left settled.kept in
    record {
      done = record {
        text = answer_text p a;
        files = file_under cert file.0;
        asked = record { answer = a; right = settled.right; put = refl; ended = ended; bytes = file.0; certified = file.1; written = refl };
        answered = ap ending_of ended ∙ answered a;
        put = put;
        written = file.2;
      };
      refused = tt;
      by_cause = record { cause = (settled.cause, same); kept = settled.kept };
    }

-- nothing is put where there is no answer
nothing_by : (T : Type 0) (p : Problem) (asked : Question) (cert : Option (List ℕ)) (e : StoreFault) (one other : StoreState) (old : SinkState) → IsSettledWith p asked cert (Err e) one other
    → IsCarriedOut (IsAnswerPut p asked cert) (Err e) (option_to_list cert) one other old old
nothing_by T p asked cert Failed one other old settled = record {
  done = tt;
  refused = record { text = []; of_answer = inr refl; part = GrownInPart-kept old.bytes old.bytes [] refl };
  by_cause = record { cause = inr (settled.cause, refl); kept = settled.kept };
}
nothing_by T p asked cert NoMemory one other old settled = record {
  done = tt;
  refused = record { text = []; of_answer = inr refl; part = GrownInPart-kept old.bytes old.bytes [] refl };
  by_cause = record { cause = (settled.cause, refl); kept = settled.kept };
}

pub nothing_settled : (p : Problem) (asked : Question) (cert : Option (List ℕ)) (e : StoreFault) (r : Result Status StoreFault) (one other : StoreState) (old : SinkState) → IsErrAnd r (λ f. f ≡ e)
    → IsSettledWith p asked cert (Err e) one other → IsCarriedOut (IsAnswerPut p asked cert) r (option_to_list cert) one other old old
nothing_settled p asked cert e (Ok s) one other old is settled = absurd is
nothing_settled p asked cert e (Err f) one other old is settled =
    subst (λ f. IsCarriedOut (IsAnswerPut p asked cert) (Err f) (option_to_list cert) one other old old) (sym is) (nothing_by Status p asked cert e one other old settled)

-- a first part of a right answer is put
part_by : (p : Problem) (asked : Question) (cert : Option (List ℕ)) (a : Answer) (e : StoreFault) (one other : StoreState) (old new : SinkState) → IsSettledWith p asked cert (Ok a) one other
    → LeavesPiece {T = ⊤} (Err e) (answer_text p a) old new → IsCarriedOut (IsAnswerPut p asked cert) (Err e) (option_to_list cert) one other old new
part_by p asked cert a Failed one other old new settled put =
    let file = cert_file p (IsClaimed p a) cert one.held other.held settled.left settled.kept in
    record {
      done = tt;
      refused = record {
        text = answer_text p a;
        of_answer = inl (
          answer_status a,
          file_under cert file.0,
          record { answer = a; right = settled.right; put = refl; ended = refl; bytes = file.0; certified = file.1; written = refl },
        );
        part = put.err;
      };
      by_cause = record { cause = inl (put.cause, settled.cause); kept = settled.kept };
    }
part_by p asked cert a NoMemory one other old new settled put =
    let file = cert_file p (IsClaimed p a) cert one.held other.held settled.left settled.kept in
    record {
      done = tt;
      refused = record {
        text = answer_text p a;
        of_answer = inl (
          answer_status a,
          file_under cert file.0,
          record { answer = a; right = settled.right; put = refl; ended = refl; bytes = file.0; certified = file.1; written = refl },
        );
        part = put.err;
      };
      by_cause = record { cause = (settled.cause, put.cause); kept = settled.kept };
    }

pub part_settled : (p : Problem) (asked : Question) (cert : Option (List ℕ)) (a : Answer) (e : StoreFault) (r : Result Status StoreFault) (one other : StoreState) (old new : SinkState) → IsErrAnd r (λ f. f ≡ e)
    → IsSettledWith p asked cert (Ok a) one other → LeavesPiece {T = ⊤} (Err e) (answer_text p a) old new
    → IsCarriedOut (IsAnswerPut p asked cert) r (option_to_list cert) one other old new
part_settled p asked cert a e (Ok s) one other old new is settled put = absurd is
part_settled p asked cert a e (Err f) one other old new is settled put =
    subst (λ f. IsCarriedOut (IsAnswerPut p asked cert) (Err f) (option_to_list cert) one other old new) (sym is) (part_by p asked cert a e one other old new settled put)
