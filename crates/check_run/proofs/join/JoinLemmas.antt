-- How a join ends, by its parts.
use Rattle.std.proofs.Common.{◌≡◌, ◌==◌, ℕ, Bool, true, false, cond, List, [], ◌∷◌, length, IfOk, IfErr, Result, Ok, Err, refl, sym, subst, inl, inr, arith}
use Rattle.outer_store.specs.Contents.{Contents}
use Rattle.outer_store.specs.Faults.{Counts}
use Rattle.outer_store.specs.States.{StoreState, SinkState, IsQuiet}
use Rattle.outer_store.specs.declared.fault.StoreFault.{StoreFault}
use Rattle.outer_store.specs.declared.fault.StoreFault.TheVariants as store_fault
use Rattle.rcc5_core.specs.declared.Rel.{Rel}
use Rattle.world_model.specs.Problem.{Problem}
use Rattle.cert_reader.specs.Bytes.{ForSome}
use Rattle.part_join.specs.Joining.{IsJoin, MayHoldAll, SomeRose, IfReadFailed}
use Rattle.part_join.specs.declared.fault.JoinFault.{JoinFault}
use Rattle.part_join.specs.declared.fault.JoinFault.TheVariants as fault
use Rattle.command_line.specs.declared.request.JoinArgs.{JoinArgs}
use Rattle.run_ends.specs.declared.Status.{Status}
use Rattle.run_ends.specs.declared.Status.TheVariants as status
use Rattle.run_ends.specs.Ends.{end_line}
use Rattle.run_ends.specs.Reads.{problem_in, ComesOf, IsWithout}
use Rattle.run_ends.specs.Runs.{Answered, ending_of, HasFailed, IsEarlyEnd, IsCarriedOut}
use Rattle.run_ends.proofs.WrittenLemmas.{failed_right}
use Rattle.run_ends.proofs.TextLemmas.{says_problem, without_text}
use Rattle.run_ends.proofs.EndLemmas.{all_kept, none_written}
use Rattle.check_run.specs.Join.Answering.{joined_text, joined_status, IsEndOf, IsAnswerBy, IsJoinAnswer, join_names}
use Rattle.check_run.specs.Join.Steps.{status_of, AreJoined, IsNotJoined, AreWorldsOf, IsPutAnswer}

-- a run that has no problem
pub without_problem : (args : JoinArgs) (name : List ℕ) (s : Status) (one other : StoreState) → name ≡ args.input → IsWithout name (problem_in args.switches) s one other
    → IsEarlyEnd (join_names args) (IsJoinAnswer args) s one other
without_problem args name s one other is end =
    without_text (join_names args) (IsJoinAnswer args) args.input args.switches s one other (0, omega arith, refl)
    (λ why text. record {
      bytes = text.bytes;
      told = text.told_are;
      answer = subst (λ r. IsAnswerBy r args.certs one.held (status.RefusedText why.0 why.1) (end_line (status.RefusedText why.0 why.1)) []) (sym text.is) (refl, refl, refl);
    })
    (subst (λ (n : List ℕ). IsWithout n (problem_in args.switches) s one other) is end)

-- files of names that are these are files of these
pub joined_as : (p : Problem) (names certs : List (List ℕ)) (held : Contents) (worlds : List (List Rel)) → names ≡ certs → ForSome (MayHoldAll held names) (λ files. IsJoin p files (Ok worlds)) → AreJoined p certs held worlds
joined_as p names certs held worlds same joined = subst (λ names. AreJoined p names held worlds) same joined

-- parts that are not joined, by why
refused : (p : Problem) (certs : List (List ℕ)) (why : JoinFault) (one other : StoreState) → ForSome (MayHoldAll one.held certs) (λ files. IsJoin p files (Err why)) → IsEndOf (Err why) (status_of why) (end_line (status_of why)) []
    → ending_of (status_of why) ≡ Answered → IsQuiet one other → IsNotJoined p certs (status_of why) one other
refused p certs why one other joined ended answered quiet = inl (record {
  answer = record { bytes = joined.0; told = joined.1.0; result = Err why; joined = joined.1.1; ended = ended };
  answered = answered;
  quiet = quiet;
})

not_joined : (p : Problem) (certs : List (List ℕ)) (why : JoinFault) (one other : StoreState) → ForSome (MayHoldAll one.held certs) (λ files. IsJoin p files (Err why))
    → IfReadFailed why (SomeRose certs one.reads other.reads) (IsQuiet one other) → IsNotJoined p certs (status_of why) one other
not_joined p certs (fault.PartRefused number line kind) one other joined quiet = refused p certs (fault.PartRefused number line kind) one other joined (refl, refl, refl) refl quiet
not_joined p certs (fault.Gap from to) one other joined quiet = refused p certs (fault.Gap from to) one other joined (refl, refl, refl) refl quiet
not_joined p certs fault.ReadFault one other joined rose = inr (inl (refl, rose))
not_joined p certs fault.NoMemory one other joined quiet = inr (inr (refl, quiet))

pub not_joined_as : (p : Problem) (names certs : List (List ℕ)) (why : JoinFault) (s : Status) (one other : StoreState) → names ≡ certs → s ≡ status_of why
    → ForSome (MayHoldAll one.held names) (λ files. IsJoin p files (Err why)) → IfReadFailed why (SomeRose names one.reads other.reads) (IsQuiet one other) → IsNotJoined p certs s one other
not_joined_as p names certs why s one other same ends joined cause =
    subst (λ s. IsNotJoined p certs s one other) (sym ends)
    (not_joined p certs why one other (subst (λ names. ForSome (MayHoldAll one.held names) (λ files. IsJoin p files (Err why))) same joined)
    (subst (λ names. IfReadFailed why (SomeRose names one.reads other.reads) (IsQuiet one other)) same cause))

-- a name whose count rose is one of those that the run reads
failed_among : (input : List ℕ) (certs : List (List ℕ)) (before now : Counts) → SomeRose certs before now → HasFailed (input ∷ certs) before now
failed_among input certs before now rose = failed_right (input ∷ []) certs before now (record { name = rose.0; named = rose.1.0; rose = rose.1.1 })

-- a run whose parts are not joined
without_join : (args : JoinArgs) (name : List ℕ) (p : Problem) (s : Status) (one mid other : StoreState) → name ≡ args.input → mid ≡ one → ComesOf one.held name (problem_in args.switches) (Ok p)
    → IsNotJoined p args.certs s mid other → IsEarlyEnd (join_names args) (IsJoinAnswer args) s one other
without_join args name p s one mid other is same comes end = by (subst (λ (state : StoreState). IsNotJoined p args.certs s state other) same end)
  where
    by : IsNotJoined p args.certs s one other → IsEarlyEnd (join_names args) (IsJoinAnswer args) s one other
    by (inl refused) =
        let said = says_problem one.held args.input args.switches p (subst (λ (n : List ℕ). ComesOf one.held n (problem_in args.switches) (Ok p)) is comes) in
        inl (
          record {
            bytes = said.bytes;
            told = said.told_are;
            answer = subst (λ r. IsAnswerBy r args.certs one.held s (end_line s) []) (sym said.is) refused.answer;
          },
          refused.answered,
          refused.quiet,
        )
    by (inr (inl failed)) = inr (inl (failed.0, failed_among args.input args.certs one.reads other.reads failed.1))
    by (inr (inr starved)) = inr (inr starved)

-- one whose parts are joined
worlds_found : (args : JoinArgs) (name : List ℕ) (p : Problem) (worlds : List (List Rel)) (one mid : Contents) → name ≡ args.input → mid ≡ one → ComesOf one name (problem_in args.switches) (Ok p)
    → AreJoined p args.certs mid worlds → AreWorldsOf args one worlds
worlds_found args name p worlds one mid is same comes joined =
    let said = says_problem one args.input args.switches p (subst (λ (n : List ℕ). ComesOf one n (problem_in args.switches) (Ok p)) is comes) in
    record {
      bytes = said.bytes;
      told = said.told_are;
      problem = p;
      is = said.is;
      joined = subst (λ (held : Contents). AreJoined p args.certs held worlds) same joined;
    }

pub found_ok : {E : Type 0} (r : Result (List (List Rel)) E) (args : JoinArgs) (name : List ℕ) (certs : List (List ℕ)) (p : Problem) (one mid : Contents) → name ≡ args.input → certs ≡ args.certs → mid ≡ one
    → ComesOf one name (problem_in args.switches) (Ok p) → IfOk r (AreJoined p certs mid) → IfOk r (AreWorldsOf args one)
found_ok (Ok worlds) args name certs p one mid is are same comes joined = worlds_found args name p worlds one mid is same comes (subst (λ certs. AreJoined p certs mid worlds) are joined)
found_ok (Err s) args name certs p one mid is are same comes joined = tt

pub ended_err : {X : Type 0} (r : Result X Status) (args : JoinArgs) (name : List ℕ) (certs : List (List ℕ)) (p : Problem) (one mid other : StoreState) → name ≡ args.input → certs ≡ args.certs → mid ≡ one
    → ComesOf one.held name (problem_in args.switches) (Ok p) → IfErr r (λ s. IsNotJoined p certs s mid other) → IfErr r (λ s. IsEarlyEnd (join_names args) (IsJoinAnswer args) s one other)
ended_err (Ok x) args name certs p one mid other is are same comes end = tt
ended_err (Err s) args name certs p one mid other is are same comes end = without_join args name p s one mid other is same comes (subst (λ certs. IsNotJoined p certs s mid other) are end)

-- the worlds that are found are the answer
worlds_answer : (args : JoinArgs) (held : Contents) (worlds : List (List Rel)) → AreWorldsOf args held worlds → IsJoinAnswer args held (joined_status (length worlds)) (joined_text worlds) []
worlds_answer args held worlds found = record {
  bytes = found.bytes;
  told = found.told;
  answer =
      subst (λ r. IsAnswerBy r args.certs held (joined_status (length worlds)) (joined_text worlds) []) (sym found.is)
      (record { bytes = found.joined.0; told = found.joined.1.0; result = Ok worlds; joined = found.joined.1.1; ended = (refl, refl, refl) });
}

-- a run that puts worlds has answered
either_answered : (none : Bool) → ending_of (cond none status.NoWorld status.Done) ≡ Answered
either_answered true = refl
either_answered false = refl

answered : (count : ℕ) → ending_of (joined_status count) ≡ Answered
answered count = either_answered (count == 0)

pub carried : (args : JoinArgs) (worlds : List (List Rel)) (r : Result Status StoreFault) (one other : StoreState) (old new : SinkState) → AreWorldsOf args one.held worlds → other.held ≡ one.held → IsQuiet one other
    → IsPutAnswer r worlds old new → IsCarriedOut (IsJoinAnswer args) r [] one other old new
carried args worlds (Ok s) one other old new found kept quiet put = record {
  done = record {
    text = joined_text worlds;
    files = [];
    asked = subst (λ x. IsJoinAnswer args one.held x (joined_text worlds) []) (sym put.ok.0) (worlds_answer args one.held worlds found);
    answered = subst (λ x. ending_of x ≡ Answered) (sym put.ok.0) (answered (length worlds));
    put = put.ok.1;
    written = none_written one.held other.held kept;
  };
  refused = tt;
  by_cause = record { cause = (quiet, put.cause); kept = all_kept [] one.held other.held kept };
}
carried args worlds (Err store_fault.Failed) one other old new found kept quiet put = record {
  done = tt;
  refused = record { text = joined_text worlds; of_answer = inl (joined_status (length worlds), [], worlds_answer args one.held worlds found); part = put.err };
  by_cause = record { cause = inl (put.cause, quiet); kept = all_kept [] one.held other.held kept };
}
carried args worlds (Err store_fault.NoMemory) one other old new found kept quiet put = record {
  done = tt;
  refused = record { text = joined_text worlds; of_answer = inl (joined_status (length worlds), [], worlds_answer args one.held worlds found); part = put.err };
  by_cause = record { cause = (quiet, put.cause); kept = all_kept [] one.held other.held kept };
}
