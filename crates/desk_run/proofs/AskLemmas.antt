-- What is asked, or why a run ends without it.
use Rattle.std.proofs.Common.{◌≡◌, ℕ, ◌<◌, ◌≤◌, Bool, true, false, List, [], Option, None, Some, Ok, Err, length, take, refl, sym, ap, subst, ◌∙◌, inl, inr, ⊎_elim, arith, length-take, take_all}
use Rattle.std.specs.Prelude.{nat_lt, IfSome}
use Rattle.std.proofs.lemmas.Bool.{ltb-true, lt-ltb, ltb-false}
use Rattle.outer_store.specs.Contents.{Contents}
use Rattle.outer_store.specs.States.{StoreState, IsQuiet}
use Rattle.world_model.specs.Problem.{Problem}
use Rattle.cleantax_text.specs.declared.TextKind.{TextKind}
use Rattle.cert_reader.specs.Bytes.{MayHold, ForSome}
use Rattle.desk_run.specs.Script.Script.{Outcome, script_result}
use Rattle.run_ends.specs.declared.Status.{Status}
use Rattle.run_ends.specs.declared.Status.TheVariants as status
use Rattle.run_ends.specs.Reads.{AreFront, problem_in, ComesOf, IsWithout}
use Rattle.run_ends.specs.Runs.{Answers, IsEarlyEnd}
use Rattle.run_ends.proofs.TextLemmas.{says_problem, without_text}
use Rattle.command_line.specs.declared.request.DeskArgs.{DeskArgs}
use Rattle.command_line.specs.Requests.{desk_names}
use Rattle.desk_run.specs.declared.DeskStatus.{DeskStatus}
use Rattle.desk_run.specs.declared.DeskStatus.TheVariants.{RefusedText, RefusedScript}
use Rattle.desk_run.specs.Ends.{desk_status_of, desk_end_line}
use Rattle.desk_run.specs.Answering.{IsOutcome, IsAnswerBy, IsDeskAnswer}
use Rattle.desk_run.specs.Steps.{IsEarlyDeskEnd, IsProblemOf, IsScriptEnd, IsWithoutScript}

-- a problem that comes of its name is one that there may be
pub problem_found : (args : DeskArgs) (held : Contents) (name : List ℕ) (p : Problem) → name ≡ args.input → ComesOf held name (problem_in args.switches) (Ok p) → IsProblemOf args held p
problem_found args held name p is comes =
    let said = says_problem held args.input args.switches p (subst (λ (n : List ℕ). ComesOf held n (problem_in args.switches) (Ok p)) is comes) in
    (said.bytes, (said.told_are, said.is))

-- a text that is refused, with the line that says so
record IsRefusedAs (args : DeskArgs) (held : Contents) (s : Status) : Type 0 where
  line : ℕ
  kind : TextKind
  is : s ≡ status.RefusedText line kind
  answer : IsDeskAnswer args held (RefusedText line kind) (desk_end_line (RefusedText line kind)) []

abbrev as_refused : DeskArgs → Answers Status
as_refused args held s text files = IsRefusedAs args held s

-- a run that has no problem
pub without_problem : (args : DeskArgs) (name : List ℕ) (s : Status) (one other : StoreState) → name ≡ args.input → IsWithout name (problem_in args.switches) s one other
    → IsEarlyDeskEnd args (desk_status_of s) one other
without_problem args name s one other is end = ⊎_elim
    (λ refused. subst (λ x. IsEarlyDeskEnd args (desk_status_of x) one other) (sym refused.0.is) (inl (refused.0.answer, refl, refused.2)))
    (λ rest. ⊎_elim
    (λ failed. inr (inl (ap desk_status_of failed.0, failed.1)))
    (λ starved. inr (inr (ap desk_status_of starved.0, starved.1)))
    rest)
    early
  where
    early : IsEarlyEnd (desk_names args) (as_refused args) s one other
    early =
        without_text (desk_names args) (as_refused args) args.input args.switches s one other (0, omega arith, refl)
        (λ why text. record {
          line = why.0;
          kind = why.1;
          is = refl;
          answer = record {
            bytes = text.bytes;
            told = text.told_are;
            answer = subst (λ r. IsAnswerBy r (one.held args.script) (RefusedText why.0 why.1) (desk_end_line (RefusedText why.0 why.1)) []) (sym text.is) (refl, refl, refl);
          };
        })
        (subst (λ (n : List ℕ). IsWithout n (problem_in args.switches) s one other) is end)

-- bytes that are cut behind the longest script are too long still
script_cut : (p : Problem) (told : List ℕ) → script_result p (take 1048577 told) ≡ script_result p told
script_cut p told = by (nat_lt 1048576 (length told)) refl
  where
    by : (b : Bool) → nat_lt 1048576 (length told) ≡ b → script_result p (take 1048577 told) ≡ script_result p told
    by true e =
        let long : 1048576 < length told = ltb-true 1048576 (length told) e in
        let cut : 1048576 < length (take 1048577 told) = omega (arith, long, length-take 1048577 told) in
        let more : nat_lt 1048576 (length (take 1048577 told)) ≡ true = lt-ltb 1048576 (length (take 1048577 told)) cut in
        rw more (rw e refl)
    by false e =
        let short : length told ≤ 1048576 = ltb-false 1048576 (length told) e in
        ap (λ (bs : List ℕ). script_result p bs) (take_all 1048577 told (omega (arith, short)))

-- what a name holds asks for what its front does
pub script_of : (p : Problem) (told : Option (List ℕ)) (front : List ℕ) (outcome : Outcome) → IfSome told (λ all. front ≡ take 1048577 all) → script_result p front ≡ outcome
    → ForSome (MayHold told) (λ bytes. script_result p bytes ≡ outcome)
script_of p None front outcome is result = (front, (tt, result))
script_of p (Some all) front outcome is result = (all, (refl, sym (script_cut p all) ∙ ap (script_result p) (sym is) ∙ result))

-- a script that is refused
pub without_script : (p : Problem) (name front bytes : List ℕ) (s : DeskStatus) (one other : StoreState) → AreFront one.held name front → bytes ≡ front → IsQuiet one other
    → IsScriptEnd (script_result p bytes) s → IsWithoutScript p name s one other
without_script p name front bytes s one other is same quiet end = ⊎_elim
    (λ starved. inr (inr (starved, quiet)))
    (λ refused.
    let said = script_of p (one.held name) front (Err refused.0) is (ap (script_result p) (sym same) ∙ refused.1) in
    inl ((said.0, (said.1.0, (refused.0, said.1.1, refused.2))), quiet))
    end

-- a run that has a problem and no requests
pub early_script : (args : DeskArgs) (name : List ℕ) (p : Problem) (s : DeskStatus) (one mid other : StoreState) → name ≡ args.script → mid ≡ one → IsProblemOf args one.held p
    → IsWithoutScript p name s mid other → IsEarlyDeskEnd args s one other
early_script args name p s one mid other is same problem end =
    by (subst (λ (state : StoreState). IsWithoutScript p args.script s state other) same (subst (λ (n : List ℕ). IsWithoutScript p n s mid other) is end))
  where
    by : IsWithoutScript p args.script s one other → IsEarlyDeskEnd args s one other
    by end = ⊎_elim
        (λ refused.
        let why = refused.0.1.1 in
        subst (λ x. IsEarlyDeskEnd args x one other) (sym why.2) (inl (
          record {
            bytes = problem.0;
            told = problem.1.0;
            answer = subst (λ r. IsAnswerBy r (one.held args.script) (RefusedScript why.0.0 why.0.1) (desk_end_line (RefusedScript why.0.0 why.0.1)) []) (sym problem.1.1) (record {
              bytes = refused.0.0;
              told = refused.0.1.0;
              outcome = subst (λ o. IsOutcome p o (RefusedScript why.0.0 why.0.1) (desk_end_line (RefusedScript why.0.0 why.0.1)) []) (sym why.1) (refl, refl, refl);
            });
          },
          refl,
          refused.1,
        )))
        (λ unread. ⊎_elim
        (λ failed. inr (inl (failed.0, record { name = args.script; named = (1, omega arith, refl); rose = failed.1 })))
        (λ starved. inr (inr starved))
        unread)
        end
