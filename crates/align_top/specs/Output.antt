-- What a run answers, by its words.
use Rattle.std.specs.Prelude.{◌≡◌, ℕ, List, [], map, Result, Ok, Err}
use Rattle.outer_store.specs.Contents.{Contents}
use Rattle.outer_store.specs.States.{StoreState, SinkState}
use Rattle.command_line.specs.declared.UsageKind.{UsageKind}
use Rattle.command_line.specs.declared.request.Request.{Request}
use Rattle.command_line.specs.declared.request.Request.TheVariants.{Align, Check, Mir, Conflict, Lattice, Explain, Report, Parts, Part, Join, Trial}
use Rattle.command_line.specs.Words.{request_of}
use Rattle.command_line.specs.Requests.{Names, names_of}
use Rattle.run_ends.specs.declared.Status.{Status}
use Rattle.run_ends.specs.declared.Status.TheVariants.{Usage}
use Rattle.run_ends.specs.Ends.{end_line}
use Rattle.run_ends.specs.Runs.{Answers, IsRunOf}
use Rattle.listing_run.specs.Output.{IsListingAnswer}
use Rattle.check_run.specs.Checking.{IsCheckAnswer}
use Rattle.claims_run.specs.declared.question.Question.TheVariants as question
use Rattle.claims_run.specs.Answering.{IsClaimsAnswer}
use Rattle.claims_run.specs.Explain.Answering.{IsExplainAnswer}
use Rattle.report_run.specs.Reporting.{Watched, IsReportAnswer}
use Rattle.listing_run.specs.Parts.Answering.{IsPartsAnswer, ArePartsNames}
use Rattle.listing_run.specs.Part.Answering.{IsPartAnswer}
use Rattle.check_run.specs.Join.Answering.{IsJoinAnswer}
use Rattle.trial_run.specs.Trials.{IsTrialAnswer}

-- the names that a request's run reads and may write: those that its words give, and where parts are asked for the tokens of the parts
-- that are found
abbrev pub HasRequestNames : Request → Contents → Names → Type 0
HasRequestNames (Parts args) held names = ArePartsNames args held names
HasRequestNames request held names = names ≡ names_of request

-- and those of words
abbrev pub HasNames : Result Request UsageKind → Contents → Names → Type 0
HasNames (Ok request) held names = HasRequestNames request held names
HasNames (Err kind) held names = names ≡ record { read = []; written = [] }

-- the answers to words, with these watchers
abbrev pub answers_to : List Watched → Result Request UsageKind → Answers Status
answers_to watchers (Ok (Align args)) held status text files = IsListingAnswer args held status text files
answers_to watchers (Ok (Check args)) held status text files = IsCheckAnswer args.input args.cert args.switches held status text files
answers_to watchers (Ok (Mir args)) held status text files = IsClaimsAnswer question.Relations args.input args.cert args.switches held status text files
answers_to watchers (Ok (Conflict args)) held status text files = IsClaimsAnswer question.Conflicts args.input args.cert args.switches held status text files
answers_to watchers (Ok (Lattice args)) held status text files = IsClaimsAnswer question.Lattice args.input args.cert args.switches held status text files
answers_to watchers (Ok (Explain args)) held status text files = IsExplainAnswer args held status text files
answers_to watchers (Ok (Report args)) held status text files = IsReportAnswer args.input args.kinds args.switches watchers held status text files
answers_to watchers (Ok (Parts args)) held status text files = IsPartsAnswer args held status text files
answers_to watchers (Ok (Part args)) held status text files = IsPartAnswer args held status text files
answers_to watchers (Ok (Join args)) held status text files = IsJoinAnswer args held status text files
answers_to watchers (Ok (Trial args)) held status text files = IsTrialAnswer args.seed args.size held status text files
answers_to watchers (Err kind) held status text files = (status ≡ Usage kind) × (text ≡ end_line (Usage kind)) × (files ≡ [])

-- what a run over a store and a sink does for a request, or for words that are none, with the names that it has
pub record IsRunFor (watchers : List Watched) (asked : Result Request UsageKind) (status : Status) (store store' : StoreState) (sink sink' : SinkState) : Type 0 where
  pub names : Names
  pub named : HasNames asked store.held names
  pub run : IsRunOf names (answers_to watchers asked) status store store' sink sink'

-- what words ask for, by the names of the watchers
abbrev pub request_by : List Watched → List (List ℕ) → Result Request UsageKind
request_by watchers words = request_of (map (λ w. w.name) watchers) words

-- what a run does that words ask for
abbrev pub IsRun : List Watched → List (List ℕ) → Status → StoreState → StoreState → SinkState → SinkState → Type 0
IsRun watchers words status store store' sink sink' = IsRunFor watchers (request_by watchers words) status store store' sink sink'
