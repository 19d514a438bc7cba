-- How an explanation ends, by its parts.
use Rattle.std.proofs.Common.{◌≡◌, ℕ, Bool, List, [], ◌∷◌, Result, Ok, Err, refl, sym, subst, inl, inr, ⊎_elim, arith}
use Rattle.outer_store.specs.Contents.{Contents}
use Rattle.outer_store.specs.States.{StoreState, SinkState, IsQuiet}
use Rattle.outer_store.specs.declared.fault.StoreFault.{StoreFault}
use Rattle.outer_store.specs.declared.fault.StoreFault.TheVariants as store_fault
use Rattle.world_model.specs.Problem.{Problem}
use Rattle.command_line.specs.Requests.{Names}
use Rattle.command_line.specs.declared.request.ExplainArgs.{ExplainArgs}
use Rattle.run_ends.specs.declared.Status.{Status}
use Rattle.run_ends.specs.declared.Status.TheVariants as status
use Rattle.run_ends.specs.Ends.{end_line}
use Rattle.run_ends.specs.Reads.{problem_in, ComesOf, IsWithout}
use Rattle.run_ends.specs.Runs.{LeavesPiece, IsEarlyEnd, IsCarriedOut}
use Rattle.run_ends.proofs.TextLemmas.{says_problem, without_text}
use Rattle.run_ends.proofs.EndLemmas.{all_kept, none_written}
use Rattle.claims_run.specs.Explain.Answering.{named_pair, reason_text, IsPairAnswer, IsAnswerBy, IsExplainAnswer}
use Rattle.claims_run.specs.Explain.Steps.{IsEndOf}

-- the name that it reads
abbrev pub names : ExplainArgs → Names
names args = record { read = args.input ∷ []; written = [] }

-- what comes of two words in a problem that is read is the answer
answer_of : (args : ExplainArgs) (name : List ℕ) (held : Contents) (p : Problem) (s : Status) (text : List ℕ) → name ≡ args.input → ComesOf held name (problem_in args.switches) (Ok p)
    → IsPairAnswer p (named_pair p args.left args.right) args.set s text [] → IsExplainAnswer args held s text []
answer_of args name held p s text is comes answered =
    let said = says_problem held args.input args.switches p (subst (λ (n : List ℕ). ComesOf held n (problem_in args.switches) (Ok p)) is comes) in
    record {
      bytes = said.bytes;
      told = said.told_are;
      answer = subst (λ r. IsAnswerBy r args s text []) (sym said.is) answered;
    }

-- a run that has no problem
pub without_problem : (args : ExplainArgs) (name : List ℕ) (s : Status) (one other : StoreState) → name ≡ args.input → IsWithout name (problem_in args.switches) s one other
    → IsEarlyEnd (names args) (IsExplainAnswer args) s one other
without_problem args name s one other is end =
    without_text (names args) (IsExplainAnswer args) args.input args.switches s one other (0, omega arith, refl)
    (λ fault text. record {
      bytes = text.bytes;
      told = text.told_are;
      answer = subst (λ r. IsAnswerBy r args (status.RefusedText fault.0 fault.1) (end_line (status.RefusedText fault.0 fault.1)) []) (sym text.is) (refl, refl, refl);
    })
    (subst (λ (n : List ℕ). IsWithout n (problem_in args.switches) s one other) is end)

-- one that has no statements to put
pub without_reason : (args : ExplainArgs) (name : List ℕ) (p : Problem) (s : Status) (one other : StoreState) → name ≡ args.input → ComesOf one.held name (problem_in args.switches) (Ok p)
    → IsQuiet one other → IsEndOf (IsPairAnswer p (named_pair p args.left args.right) args.set) s → IsEarlyEnd (names args) (IsExplainAnswer args) s one other
without_reason args name p s one other is comes quiet end = ⊎_elim
    (λ answered. inl (answer_of args name one.held p s (end_line s) is comes answered.0, answered.1, quiet))
    (λ starved. inr (inr (starved, quiet)))
    end

-- a result as that of a run
abbrev pub as_run : {T : Type 0} → Result T StoreFault → Result Status StoreFault
as_run (Ok v) = Ok status.Done
as_run (Err fault) = Err fault

-- statements are put that are the answer, and nothing is written
pub reason_carried : {T : Type 0} (args : ExplainArgs) (name : List ℕ) (p : Problem) (kept list : List Bool) (r : Result T StoreFault) (one other : StoreState) (old new : SinkState) → name ≡ args.input → list ≡ kept
    → ComesOf one.held name (problem_in args.switches) (Ok p) → IsPairAnswer p (named_pair p args.left args.right) args.set status.Done (reason_text p kept) [] → other.held ≡ one.held → IsQuiet one other
    → LeavesPiece r (reason_text p list) old new → IsCarriedOut (IsExplainAnswer args) (as_run r) [] one other old new
reason_carried args name p kept list r one other old new is same comes answered held quiet put = by r put
  where
    text : List ℕ
    text = reason_text p list

    asked : IsExplainAnswer args one.held status.Done text []
    asked = answer_of args name one.held p status.Done text is comes (subst (λ flags. IsPairAnswer p (named_pair p args.left args.right) args.set status.Done (reason_text p flags) []) (sym same) answered)

    by : {T : Type 0} (r : Result T StoreFault) → LeavesPiece r text old new → IsCarriedOut (IsExplainAnswer args) (as_run r) [] one other old new
    by (Ok v) put = record {
      done = record { text = text; files = []; asked = asked; answered = refl; put = put.ok; written = none_written one.held other.held held };
      refused = tt;
      by_cause = record { cause = (quiet, put.cause); kept = all_kept [] one.held other.held held };
    }
    by (Err store_fault.Failed) put = record {
      done = tt;
      refused = record { text = text; of_answer = inl (status.Done, [], asked); part = put.err };
      by_cause = record { cause = inl (put.cause, quiet); kept = all_kept [] one.held other.held held };
    }
    by (Err store_fault.NoMemory) put = record {
      done = tt;
      refused = record { text = text; of_answer = inl (status.Done, [], asked); part = put.err };
      by_cause = record { cause = (quiet, put.cause); kept = all_kept [] one.held other.held held };
    }
