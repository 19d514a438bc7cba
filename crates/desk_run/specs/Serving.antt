-- What the desk's program does for its words.
use Rattle.std.specs.Prelude.{ℕ, List, [], Result, Ok, Err}
use Rattle.outer_store.specs.States.{StoreState, SinkState}
use Rattle.command_line.specs.declared.UsageKind.{UsageKind}
use Rattle.command_line.specs.declared.request.DeskArgs.{DeskArgs}
use Rattle.command_line.specs.Words.{desk_request_of}
use Rattle.command_line.specs.Requests.{Names, desk_names}
use Rattle.run_ends.specs.Runs.{Answers, IsRunBy}
use Rattle.desk_run.specs.declared.DeskStatus.{DeskStatus}
use Rattle.desk_run.specs.declared.DeskStatus.TheVariants.{Usage}
use Rattle.desk_run.specs.Ends.{desk_ending_of}
use Rattle.desk_run.specs.Answering.{IsDeskEndAlone, IsDeskAnswer}

-- the names that are read for words: the two that they give, or none
abbrev pub names_for : Result DeskArgs UsageKind → Names
names_for (Ok args) = desk_names args
names_for (Err kind) = record { read = []; written = [] }

-- the answers to words: those to the script that they name, or just the last line of their fault
abbrev pub answers_for : Result DeskArgs UsageKind → Answers DeskStatus
answers_for (Ok args) held status text files = IsDeskAnswer args held status text files
answers_for (Err kind) held status text files = IsDeskEndAlone (Usage kind) status text files

-- what a run over a store and a sink does for what words ask, or for their fault
abbrev pub IsServeFor : Result DeskArgs UsageKind → DeskStatus → StoreState → StoreState → SinkState → SinkState → Type 0
IsServeFor asked status store store' sink sink' = IsRunBy (desk_ending_of status) (names_for asked) (answers_for asked) status store store' sink sink'

-- and what it does for words
abbrev pub IsServe : List (List ℕ) → DeskStatus → StoreState → StoreState → SinkState → SinkState → Type 0
IsServe words status store store' sink sink' = IsServeFor (desk_request_of words) status store store' sink sink'
