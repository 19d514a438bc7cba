-- How a run goes on by the text of its problem.
use Rattle.std.proofs.Common.{◌≡◌, ℕ, List, [], Option, None, Some, IfSome, Result, Ok, Err, take, refl, sym, ap, subst, ◌∙◌, IfErr}
use Rattle.std.specs.Prelude.{Contains}
use Rattle.outer_store.specs.Contents.{Contents}
use Rattle.world_model.specs.declared.Switches.{Switches}
use Rattle.world_model.specs.Problem.{Problem}
use Rattle.cleantax_text.specs.declared.TextKind.{TextKind}
use Rattle.cleantax_text.specs.Reading.{text_result}
use Rattle.run_ends.specs.declared.Status.{Status}
use Rattle.run_ends.specs.declared.Status.TheVariants as status
use Rattle.run_ends.specs.Ends.{end_line}
use Rattle.run_ends.specs.Reads.{problem_by, problem_in, ComesOf, IsWithout}
use Rattle.outer_store.specs.States.{StoreState}
use Rattle.command_line.specs.Requests.{Names}
use Rattle.run_ends.specs.Runs.{Answered, Answers, ending_of, IsEarlyEnd}
use Rattle.run_ends.proofs.ReadLemmas.{text_cut, early_without}

-- bytes that agree with what is told of a name, and what they say
pub record SaysText (told : Option (List ℕ)) (switches : Switches) (says : Result Problem (ℕ × TextKind)) : Type 0 where
  pub bytes : List ℕ
  pub told_are : IfSome told (λ all. bytes ≡ all)
  pub is : text_result bytes switches ≡ says

-- what a name holds says what its front does
text_of : (told : Option (List ℕ)) (switches : Switches) (front : List ℕ) → IfSome told (λ all. front ≡ take 1048577 all) → SaysText told switches (text_result front switches)
text_of None switches front is = record { bytes = front; told_are = tt; is = refl }
text_of (Some all) switches front is = record {
  bytes = all;
  told_are = refl;
  is = sym (ap (λ (bs : List ℕ). text_result bs switches) is ∙ text_cut all switches);
}

-- a problem that comes of a name is what it says
said_ok : (r : Result Problem (ℕ × TextKind)) (p : Problem) → problem_by r ≡ Ok p → r ≡ Ok p
said_ok (Ok q) p e = cc
said_ok (Err f) p e = cc

pub says_problem : (held : Contents) (input : List ℕ) (switches : Switches) (p : Problem) → ComesOf held input (problem_in switches) (Ok p) → SaysText (held input) switches (Ok p)
says_problem held input switches p comes =
    subst (SaysText (held input) switches) (said_ok (text_result comes.bytes switches) p comes.judged) (text_of (held input) switches comes.bytes comes.front)

-- so is the fault of one that is refused
pub err_same : {X E : Type 0} (a b : E) (x : Result X E) → x ≡ Err a → x ≡ Err b → a ≡ b
err_same a b x p q = cc

said_err : (r : Result Problem (ℕ × TextKind)) (s : Status) → problem_by r ≡ Err s → (fault : ℕ × TextKind) × (r ≡ Err fault) × (s ≡ status.RefusedText fault.0 fault.1)
said_err (Ok q) s e = cc
said_err (Err f) s e = (f, refl, sym (err_same (status.RefusedText f.0 f.1) s (Err (status.RefusedText f.0 f.1)) refl e))

-- a text that is refused is an answer
pub text_answers : (switches : Switches) (bytes : List ℕ) (s : Status) → problem_in switches bytes ≡ Err s → ending_of s ≡ Answered
text_answers switches bytes s e = ap ending_of (said_err (text_result bytes switches) s e).2

-- a run that has no problem: it answers the fault of the text, or a read failed, or memory was wanting
pub without_text : (names : Names) (answers : Answers Status) (input : List ℕ) (switches : Switches) (s : Status) (one other : StoreState) → Contains names.read input
    → ((fault : ℕ × TextKind) → SaysText (one.held input) switches (Err fault) → answers one.held (status.RefusedText fault.0 fault.1) (end_line (status.RefusedText fault.0 fault.1)) [])
    → IsWithout input (problem_in switches) s one other → IsEarlyEnd names answers s one other
without_text names answers input switches s one other named refusal end =
    early_without names answers input (problem_in switches) s one other named
    (λ refused.
    let said = said_err (text_result refused.bytes switches) s refused.judged in
    let text = subst (SaysText (one.held input) switches) said.1 (text_of (one.held input) switches refused.bytes refused.front) in (
      subst (λ x. answers one.held x (end_line x) []) (sym said.2) (refusal said.0 text),
      text_answers switches refused.bytes s refused.judged,
    ))
    end

-- a fact of a fault, where the answer is that fault
pub if_err : {X E : Type 0} (r : Result X E) (P : E → Type 0) (fault : E) → P fault → r ≡ Err fault → IfErr r P
if_err (Ok value) P fault fact e = tt
if_err (Err other) P fault fact e = subst P (sym (err_same other fault (Err other) refl e)) fact
