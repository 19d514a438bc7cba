-- How a run ends that words ask for.
use Rattle.std.proofs.Common.{◌≡◌, ℕ, List, [], ◌∷◌, map, Result, Ok, Err, refl, sym, ap, subst, ◌∙◌, inl, inr}
use Rattle.outer_store.specs.Contents.{Contents}
use Rattle.outer_store.specs.States.{StoreState, SinkState}
use Rattle.world_watch.specs.Steps.{Texts}
use Rattle.trial_run.specs.Made.{IsSize}
use Rattle.command_line.specs.declared.UsageKind.{UsageKind}
use Rattle.command_line.specs.declared.request.Request.{Request}
use Rattle.command_line.specs.declared.request.Request.TheVariants.{Align, Check, Mir, Conflict, Lattice, Explain, Report, Parts, Part, Join, Trial}
use Rattle.command_line.specs.declared.request.TrialArgs.{TrialArgs}
use Rattle.command_line.specs.Words.{request_of}
use Rattle.command_line.specs.Requests.{Names, IsTrial, names_of}
use Rattle.report_run.specs.Reporting.{Watched, watched}
use Rattle.run_ends.specs.declared.Status.{Status}
use Rattle.run_ends.specs.declared.Status.TheVariants as status
use Rattle.run_ends.specs.Ends.{end_line, IsLastPut}
use Rattle.run_ends.proofs.EndLemmas.{run_early}
use Rattle.align_top.specs.Output.{HasRequestNames, HasNames, answers_to, request_by, IsRunFor, IsRun}

-- words that are a request
words_asked : (watchers : List Watched) (words : List (List ℕ)) (r : Request) (s : Status) (one other : StoreState) (old new : SinkState) → request_by watchers words ≡ Ok r
    → IsRunFor watchers (Ok r) s one other old new → IsRun watchers words s one other old new
words_asked watchers words r s one other old new e run = subst (λ asked. IsRunFor watchers asked s one other old new) (sym e) run

-- words that are none
words_refused : (watchers : List Watched) (words : List (List ℕ)) (kind : UsageKind) (r : Status) (one : StoreState) (old new : SinkState) → request_by watchers words ≡ Err kind
    → IsLastPut (status.Usage kind) r (end_line (status.Usage kind)) old new → IsRun watchers words r one one old new
words_refused watchers words kind r one old new e last = subst (λ asked. IsRunFor watchers asked r one one old new) (sym e) (record {
  names = record { read = []; written = [] };
  named = refl;
  run =
      run_early (record { read = []; written = [] }) (answers_to watchers (Err kind)) (status.Usage kind) r one one old new (inl ((refl, refl, refl), refl, (refl, refl))) refl last;
})

-- words have some names, whatever they ask for
request_names : (request : Request) (held : Contents) → (names : Names) × HasRequestNames request held names
request_names (Align args) held = (names_of (Align args), refl)
request_names (Check args) held = (names_of (Check args), refl)
request_names (Mir args) held = (names_of (Mir args), refl)
request_names (Conflict args) held = (names_of (Conflict args), refl)
request_names (Lattice args) held = (names_of (Lattice args), refl)
request_names (Explain args) held = (names_of (Explain args), refl)
request_names (Report args) held = (names_of (Report args), refl)
request_names (Parts args) held = (names_of (Parts args), record { read = refl; written = inl refl })
request_names (Part args) held = (names_of (Part args), refl)
request_names (Join args) held = (names_of (Join args), refl)
request_names (Trial args) held = (names_of (Trial args), refl)

some_names : (asked : Result Request UsageKind) (held : Contents) → (names : Names) × HasNames asked held names
some_names (Ok r) held = request_names r held
some_names (Err kind) held = (record { read = []; written = [] }, refl)

-- and want of memory before they are read
pub words_starved : (watchers : List Watched) (words : List (List ℕ)) (r : Status) (one : StoreState) (old new : SinkState)
    → IsLastPut status.NoMemory r (end_line status.NoMemory) old new → IsRun watchers words r one one old new
words_starved watchers words r one old new last =
    let some = some_names (request_by watchers words) one.held in
    record {
      names = some.0;
      named = some.1;
      run = run_early some.0 (answers_to watchers (request_by watchers words)) status.NoMemory r one one old new (inr (inr (refl, (refl, refl)))) refl last;
    }

-- the names of watchers as they are seen
pub watched_names : {W : Type 0} (name : W → List ℕ) (text : W → Texts) (ws : List W) → map (λ w. w.name) (watched name text ws) ≡ map name ws
watched_names name text [] = refl
watched_names name text (w ∷ ws) = ap (λ names. name w ∷ names) (watched_names name text ws)

request_named : {W : Type 0} (name : W → List ℕ) (text : W → Texts) (ws : List W) (words : List (List ℕ)) (r : Result Request UsageKind) → request_of (map name ws) words ≡ r
    → request_by (watched name text ws) words ≡ r
request_named name text ws words r e = ap (λ names. request_of names words) (watched_names name text ws) ∙ e

-- what is asked for, of watchers as they are handed in
pub asked_by : {W : Type 0} (name : W → List ℕ) (text : W → Texts) (ws : List W) (words : List (List ℕ)) (r : Request) (s : Status) (one other : StoreState) (old new : SinkState)
    → request_of (map name ws) words ≡ Ok r → IsRunFor (watched name text ws) (Ok r) s one other old new → IsRun (watched name text ws) words s one other old new
asked_by name text ws words r s one other old new e run = words_asked (watched name text ws) words r s one other old new (request_named name text ws words (Ok r) e) run

pub refused_by : {W : Type 0} (name : W → List ℕ) (text : W → Texts) (ws : List W) (words : List (List ℕ)) (kind : UsageKind) (r : Status) (one : StoreState) (old new : SinkState)
    → request_of (map name ws) words ≡ Err kind → IsLastPut (status.Usage kind) r (end_line (status.Usage kind)) old new → IsRun (watched name text ws) words r one one old new
refused_by name text ws words kind r one old new e last = words_refused (watched name text ws) words kind r one old new (request_named name text ws words (Err kind) e) last

pub ruleset words_rules = (asked_by, refused_by, words_starved)

-- a size that words ask for is one
pub sized : (args : TrialArgs) → IsTrial args → IsSize args.size
sized args trial = record { even = trial.even; least = trial.least; most = trial.most }
