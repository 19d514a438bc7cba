-- What the desk answers to a script.
use Rattle.std.specs.Prelude.{◌≡◌, ℕ, List, [], ◌∷◌, ◌++◌, length, map, flat_map, Option, None, Result, Ok, Err, codes, decimal}
use Rattle.outer_store.specs.Contents.{Contents}
use Rattle.rcc5_core.specs.Relation.{letter_of}
use Rattle.world_model.specs.Problem.{Problem}
use Rattle.cleantax_text.specs.declared.TextKind.{TextKind}
use Rattle.cleantax_text.specs.Reading.{text_result}
use Rattle.cert_reader.specs.Bytes.{MayHold}
use Rattle.desk_run.specs.declared.script.requests.DeskRequest.{DeskRequest}
use Rattle.desk_run.specs.Script.Script.{Outcome, script_result}
use Rattle.desk_run.specs.declared.desk.reply.Reply.{Reply}
use Rattle.desk_run.specs.declared.desk.reply.Reply.TheVariants.{Opened, Kept, Narrowed, World, NoneLeft, Closed, SlotOpen, SlotClosed, NoMemory}
use Rattle.desk_run.specs.Desk.Slots.{Slot}
use Rattle.desk_run.specs.Desk.Talks.{Exchange, Talk, of_slot, IsAlone}
use Rattle.command_line.specs.declared.request.DeskArgs.{DeskArgs}
use Rattle.run_ends.specs.Ends.{line_of}
use Rattle.run_ends.specs.Runs.{File}
use Rattle.desk_run.specs.declared.DeskStatus.{DeskStatus}
use Rattle.desk_run.specs.declared.DeskStatus.TheVariants.{Done, RefusedText, RefusedScript}
use Rattle.desk_run.specs.Ends.{desk_end_line}

-- the words of a reply
abbrev pub reply_words : Reply → List ℕ
reply_words Opened = codes "opened"
reply_words Kept = codes "kept"
reply_words Narrowed = codes "narrowed"
reply_words (World table) = codes "world " ++ map letter_of table
reply_words NoneLeft = codes "none"
reply_words Closed = codes "closed"
reply_words SlotOpen = codes "SlotOpen"
reply_words SlotClosed = codes "SlotClosed"
reply_words NoMemory = codes "NoMemory"

-- the line of a reply: the slot, a space and the words
abbrev pub reply_line : Exchange → List ℕ
reply_line e = line_of (decimal e.request.slot ++ 32 ∷ reply_words e.reply)

-- the last line, of so many requests
abbrev pub served_line : ℕ → List ℕ
served_line count = line_of (codes "served " ++ decimal count)

-- a talk of these requests, in which each slot is where its own requests lead it, taken alone
pub record IsTalkOf (p : Problem) (requests : List DeskRequest) (talk : Talk) : Type 0 where
  pub asked : map (λ e. e.request) talk ≡ requests
  pub ends : ℕ → Slot
  pub apart : (k : ℕ) → IsAlone p None (of_slot k talk) (ends k)

-- what is put of requests: the replies of such a talk in order, a line each, and how many there are
pub record IsServed (p : Problem) (requests : List DeskRequest) (text : List ℕ) : Type 0 where
  pub talk : Talk
  pub is : IsTalkOf p requests talk
  pub put : text ≡ flat_map reply_line talk ++ served_line (length requests)

-- just the last line of a status is put
abbrev pub IsDeskEndAlone : DeskStatus → DeskStatus → List ℕ → List File → Type 0
IsDeskEndAlone end status text files = (status ≡ end) × (text ≡ desk_end_line end) × (files ≡ [])

-- what comes of a script: its requests are served, or its first fault is told
abbrev pub IsOutcome : Problem → Outcome → DeskStatus → List ℕ → List File → Type 0
IsOutcome p (Ok requests) status text files = (status ≡ Done) × IsServed p requests text × (files ≡ [])
IsOutcome p (Err why) status text files = IsDeskEndAlone (RefusedScript why.0 why.1) status text files

-- what comes of a script, by what is told of it
pub record IsScriptAnswer (p : Problem) (script : Option (List ℕ)) (status : DeskStatus) (text : List ℕ) (files : List File) : Type 0 where
  pub bytes : List ℕ
  pub told : MayHold script bytes
  pub outcome : IsOutcome p (script_result p bytes) status text files

-- what comes of a problem's text: the script is served at its desk, or its first fault is told
abbrev pub IsAnswerBy : Result Problem (ℕ × TextKind) → Option (List ℕ) → DeskStatus → List ℕ → List File → Type 0
IsAnswerBy (Ok p) script status text files = IsScriptAnswer p script status text files
IsAnswerBy (Err why) script status text files = IsDeskEndAlone (RefusedText why.0 why.1) status text files

-- the answers to the script under one name for the problem under another
pub record IsDeskAnswer (args : DeskArgs) (held : Contents) (status : DeskStatus) (text : List ℕ) (files : List File) : Type 0 where
  pub bytes : List ℕ
  pub told : MayHold (held args.input) bytes
  pub answer : IsAnswerBy (text_result bytes args.switches) (held args.script) status text files
