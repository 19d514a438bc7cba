-- What comes of the bytes that are read under a name.
use Rattle.std.proofs.Common.{◌≡◌, ◌≢◌, ℕ, ◌<◌, ◌≤◌, Bool, true, false, List, [], Result, Ok, Err, length, take, refl, sym, ap, subst, ◌∙◌, ◌⊎◌, inl, inr, ⊎_elim, arith, length-take, take_all}
use Rattle.std.specs.Prelude.{nat_lt, Contains}
use Rattle.std.proofs.lemmas.Bool.{ltb-true, lt-ltb, ltb-false}
use Rattle.world_model.specs.declared.Switches.{Switches}
use Rattle.world_model.specs.Problem.{Problem}
use Rattle.cleantax_text.specs.declared.TextKind.{TextKind}
use Rattle.cleantax_text.specs.declared.TextKind.TheVariants as text
use Rattle.cleantax_text.specs.Reading.{text_result, HasFirstFault}
use Rattle.outer_store.specs.Contents.{Contents}
use Rattle.outer_store.specs.Faults.{Counts}
use Rattle.run_ends.specs.declared.Status.{Status}
use Rattle.run_ends.specs.declared.Status.TheVariants as status
use Rattle.outer_store.specs.States.{StoreState, IsQuiet}
use Rattle.command_line.specs.Requests.{Names}
use Rattle.run_ends.specs.Ends.{end_line}
use Rattle.run_ends.specs.Runs.{Answered, Answers, ending_of, IsEarlyEnd}
use Rattle.run_ends.specs.Reads.{AreFront, problem_by, problem_in, IsRefused, ComesOf, IsWithout}

-- bytes that are cut behind the longest text are too long still
pub text_cut : (told : List ℕ) (switches : Switches) → text_result (take 1048577 told) switches ≡ text_result told switches
text_cut told switches = by (nat_lt 1048576 (length told)) refl
  where
    by : (b : Bool) → nat_lt 1048576 (length told) ≡ b → text_result (take 1048577 told) switches ≡ text_result told switches
    by true e =
        let long : 1048576 < length told = ltb-true 1048576 (length told) e in
        let cut : 1048576 < length (take 1048577 told) = omega (arith, long, length-take 1048577 told) in
        let more : nat_lt 1048576 (length (take 1048577 told)) ≡ true = lt-ltb 1048576 (length (take 1048577 told)) cut in
        rw more (rw e refl)
    by false e =
        let short : length told ≤ 1048576 = ltb-false 1048576 (length told) e in
        ap (λ (bs : List ℕ). text_result bs switches) (take_all 1048577 told (omega (arith, short)))

-- what comes of a text
pub text_said : (bytes : List ℕ) (switches : Switches) (p : Problem) → text_result bytes switches ≡ Ok p → problem_in switches bytes ≡ Ok p
text_said bytes switches p e = ap problem_by e

pub text_ended : (bytes : List ℕ) (switches : Switches) (line : ℕ) (kind : TextKind) (s : Status)
    → (kind ≢ text.NoMemory → HasFirstFault bytes switches line kind)
    → (s ≡ status.NoMemory) ⊎ ((kind ≢ text.NoMemory) × (s ≡ status.RefusedText line kind))
    → IsRefused (problem_in switches bytes) s
text_ended bytes switches line kind s first end = ⊎_elim
    (λ starved. inl starved)
    (λ refused. inr (ap problem_by (first refused.0) ∙ ap Err (sym refused.1)))
    end

pub ruleset text_rules = (text_said, text_ended)

-- what comes of the bytes that were read under a name
pub comes_of : {X : Type 0} (held : Contents) (name items bytes : List ℕ) (judge : List ℕ → Result X Status) (outcome : Result X Status)
    → AreFront held name items → bytes ≡ items → judge bytes ≡ outcome → ComesOf held name judge outcome
comes_of held name items bytes judge outcome front same judged = record { bytes = items; front = front; judged = ap judge (sym same) ∙ judged }

pub without : {X : Type 0} (one other : StoreState) (name items bytes : List ℕ) (judge : List ℕ → Result X Status) (s : Status)
    → AreFront one.held name items → bytes ≡ items → IsQuiet one other → IsRefused (judge bytes) s → IsWithout name judge s one other
without one other name items bytes judge s front same quiet refused = ⊎_elim
    (λ starved. inr (inr (starved, quiet)))
    (λ judged. inl (comes_of one.held name items bytes judge (Err s) front same judged, quiet))
    refused

pub ruleset file_rules = (comes_of, without)

-- what a store tells is what it told, where it holds the same and no call failed
pub one_state : (one other : StoreState) → other.held ≡ one.held → IsQuiet one other → other ≡ one
one_state one other same quiet =
    ap (λ (held : Contents). record other { held = held }) same
    ∙ ap (λ (reads : Counts). record one { reads = reads; writes = other.writes }) quiet.0
    ∙ ap (λ (writes : Counts). record one { writes = writes }) quiet.1

-- a run that ends without what was to come of a name that it reads: its answer is a last line alone, a read failed, or memory was wanting
pub early_without : {X : Type 0} (names : Names) (answers : Answers Status) (name : List ℕ) (judge : List ℕ → Result X Status) (s : Status) (one other : StoreState) → Contains names.read name
    → (ComesOf one.held name judge (Err s) → answers one.held s (end_line s) [] × (ending_of s ≡ Answered))
    → IsWithout name judge s one other → IsEarlyEnd names answers s one other
early_without names answers name judge s one other named refusal end = ⊎_elim
    (λ refused. let said = refusal refused.0 in inl (said.0, said.1, refused.1))
    (λ unread. ⊎_elim
    (λ failed. inr (inl (failed.0, record { name = name; named = named; rose = failed.1 })))
    (λ starved. inr (inr starved))
    unread)
    end

-- what comes of a name, or why nothing does, by the text of the word that holds it
pub comes_as : {X : Type 0} (held : Contents) (text name : List ℕ) (judge : List ℕ → Result X Status) (outcome : Result X Status) → text ≡ name → ComesOf held text judge outcome → ComesOf held name judge outcome
comes_as held text name judge outcome same comes = subst (λ (n : List ℕ). ComesOf held n judge outcome) same comes

pub without_as : {X : Type 0} (text name : List ℕ) (judge : List ℕ → Result X Status) (s : Status) (one other : StoreState) → text ≡ name → IsWithout text judge s one other → IsWithout name judge s one other
without_as text name judge s one other same end = subst (λ (n : List ℕ). IsWithout n judge s one other) same end
