-- How parts end, by their steps.
use Rattle.std.proofs.Common.{◌≡◌, ℕ, List, [], ◌∷◌, Result, Ok, Err, refl, sym, subst, inl, inr, arith}
use Rattle.outer_store.specs.Contents.{Contents}
use Rattle.outer_store.specs.States.{StoreState, SinkState, IsQuiet}
use Rattle.outer_store.specs.declared.fault.StoreFault.{StoreFault}
use Rattle.outer_store.specs.declared.fault.StoreFault.TheVariants as fault
use Rattle.rcc5_core.specs.declared.Rel.{Rel}
use Rattle.world_model.specs.Problem.{Problem}
use Rattle.command_line.specs.Requests.{Names}
use Rattle.command_line.specs.declared.request.PartsArgs.{PartsArgs}
use Rattle.listing_run.specs.Parts.Beginnings.{AreBeginnings}
use Rattle.run_ends.specs.declared.Status.{Status}
use Rattle.run_ends.specs.declared.Status.TheVariants as status
use Rattle.run_ends.specs.Ends.{end_line, IsLastPut}
use Rattle.run_ends.specs.Reads.{problem_in, ComesOf, IsWithout}
use Rattle.run_ends.specs.Runs.{IsRunOf, IsCarriedOut}
use Rattle.run_ends.proofs.ReadLemmas.{one_state, comes_as, without_as}
use Rattle.run_ends.proofs.TextLemmas.{says_problem, without_text}
use Rattle.run_ends.proofs.EndLemmas.{run_early, run_done, run_refused, run_starved, carried_as}
use Rattle.listing_run.specs.Parts.Answering.{token_names, AreParts, IsAnswerBy, IsPartsAnswer, ArePartsNames, IsPartsRun}

-- the names of a run that writes some
abbrev names_with : PartsArgs → List (List ℕ) → Names
names_with args written = record { read = args.input ∷ []; written = written }

-- one that ends before its parts are found
unfound : (args : PartsArgs) (status : Status) (one other : StoreState) (old new : SinkState) → IsRunOf (names_with args []) (IsPartsAnswer args) status one other old new → IsPartsRun args status one other old new
unfound args status one other old new run = record { names = names_with args []; named = record { read = refl; written = inl refl }; run = run }

-- it has no problem
pub parts_unread : (args : PartsArgs) (name : List ℕ) (s r : Status) (one other : StoreState) (old new : SinkState) → name ≡ args.input → IsWithout name (problem_in args.switches) s one other → other.held ≡ one.held
    → IsLastPut s r (end_line s) old new → IsPartsRun args r one other old new
parts_unread args name s r one other old new is end kept last =
    unfound args r one other old new
    (run_early (names_with args []) (IsPartsAnswer args) s r one other old new
    (without_text (names_with args []) (IsPartsAnswer args) args.input args.switches s one other (0, omega arith, refl)
    (λ fault text. record {
      bytes = text.bytes;
      told = text.told_are;
      answer = subst (λ said. IsAnswerBy said args one.held (status.RefusedText fault.0 fault.1) (end_line (status.RefusedText fault.0 fault.1)) []) (sym text.is) (refl, refl, refl);
    })
    (without_as name args.input (problem_in args.switches) s one other is end))
    kept last)

-- or no memory for what it looks for
pub parts_unfound : (args : PartsArgs) (r : Status) (one other : StoreState) (old new : SinkState) → IsQuiet one other → other.held ≡ one.held → IsLastPut status.NoMemory r (end_line status.NoMemory) old new
    → IsPartsRun args r one other old new
parts_unfound args r one other old new quiet kept last =
    unfound args r one other old new (run_early (names_with args []) (IsPartsAnswer args) status.NoMemory r one other old new (inr (inr (refl, quiet))) kept last)

-- what was found of a problem
pub record AreFound (args : PartsArgs) (name : List ℕ) (p : Problem) (positions : List (List Rel)) (held : Contents) : Type 0 where
  pub is : name ≡ args.input
  pub problem : ComesOf held name (problem_in args.switches) (Ok p)
  pub begin : AreBeginnings p args.count positions

-- the names of a run that writes the tokens
abbrev names_of : PartsArgs → List (List Rel) → Names
names_of args positions = names_with args (token_names args.token positions)

named : (args : PartsArgs) (name : List ℕ) (p : Problem) (positions : List (List Rel)) (held : Contents) → AreFound args name p positions held → ArePartsNames args held (names_of args positions)
named args name p positions held found =
    let said = says_problem held args.input args.switches p (comes_as held name args.input (problem_in args.switches) (Ok p) found.is found.problem) in
    record {
      read = refl;
      written = inr (record { bytes = said.bytes; told = said.told_are; problem = p; says = said.is; positions = positions; begin = found.begin; are = refl });
    }

-- what is put and written is the answer
answered : (args : PartsArgs) (name : List ℕ) (p : Problem) (positions : List (List Rel)) (r : Result Status StoreFault) (one mid other : StoreState) (old new : SinkState)
    → AreFound args name p positions one.held → mid.held ≡ one.held → IsQuiet one mid → IsCarriedOut (AreParts p args) r (token_names args.token positions) mid other old new
    → IsCarriedOut (IsPartsAnswer args) r (token_names args.token positions) one other old new
answered args name p positions r one mid other old new found kept quiet carried =
    let said = says_problem one.held args.input args.switches p (comes_as one.held name args.input (problem_in args.switches) (Ok p) found.is found.problem) in
    carried_as (AreParts p args) (IsPartsAnswer args) r (token_names args.token positions) one other old new
    (λ s text files put. record { bytes = said.bytes; told = said.told_are; answer = subst (λ says. IsAnswerBy says args one.held s text files) (sym said.is) put })
    (subst (λ state. IsCarriedOut (AreParts p args) r (token_names args.token positions) state other old new) (one_state one mid kept quiet) carried)

-- a run that found its parts, by how they were put
pub parts_done : (args : PartsArgs) (name : List ℕ) (p : Problem) (positions : List (List Rel)) (s : Status) (one mid other : StoreState) (old new : SinkState)
    → AreFound args name p positions one.held → mid.held ≡ one.held → IsQuiet one mid → IsCarriedOut (AreParts p args) (Ok s) (token_names args.token positions) mid other old new → IsPartsRun args s one other old new
parts_done args name p positions s one mid other old new found kept quiet carried = record {
  names = names_of args positions;
  named = named args name p positions one.held found;
  run = run_done (names_of args positions) (IsPartsAnswer args) s one other old new (answered args name p positions (Ok s) one mid other old new found kept quiet carried);
}

pub parts_refused : (args : PartsArgs) (name : List ℕ) (p : Problem) (positions : List (List Rel)) (one mid other : StoreState) (old new : SinkState)
    → AreFound args name p positions one.held → mid.held ≡ one.held → IsQuiet one mid → IsCarriedOut (AreParts p args) (Err fault.Failed) (token_names args.token positions) mid other old new
    → IsPartsRun args status.WriteFault one other old new
parts_refused args name p positions one mid other old new found kept quiet carried = record {
  names = names_of args positions;
  named = named args name p positions one.held found;
  run = run_refused (names_of args positions) (IsPartsAnswer args) one other old new (answered args name p positions (Err fault.Failed) one mid other old new found kept quiet carried);
}

pub parts_starved : (args : PartsArgs) (name : List ℕ) (p : Problem) (positions : List (List Rel)) (r : Status) (one mid other : StoreState) (old between new : SinkState)
    → AreFound args name p positions one.held → mid.held ≡ one.held → IsQuiet one mid → IsCarriedOut (AreParts p args) (Err fault.NoMemory) (token_names args.token positions) mid other old between
    → IsLastPut status.NoMemory r (end_line status.NoMemory) between new → IsPartsRun args r one other old new
parts_starved args name p positions r one mid other old between new found kept quiet carried last = record {
  names = names_of args positions;
  named = named args name p positions one.held found;
  run = run_starved (names_of args positions) (IsPartsAnswer args) r one other old between new
      (answered args name p positions (Err fault.NoMemory) one mid other old between found kept quiet carried) last;
}
