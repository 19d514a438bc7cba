-- What the command that reports on all worlds answers.
use Rattle.std.specs.Prelude.{◌≡◌, ◌≢◌, ℕ, List, [], ◌∷◌, ◌++◌, length, map, flat_map, bytes_eq, Option, None, IfSome, Result, Ok, Err, All, AllPairs, Contains, codes}
use Rattle.std.specs.List.{find, filter_map}
use Rattle.outer_store.specs.Contents.{Contents}
use Rattle.rcc5_core.specs.declared.Rel.{Rel}
use Rattle.world_model.specs.declared.Switches.{Switches}
use Rattle.world_model.specs.Problem.{Problem}
use Rattle.world_model.specs.Listing.{IsListing}
use Rattle.cleantax_text.specs.declared.TextKind.{TextKind}
use Rattle.cleantax_text.specs.Reading.{text_result}
use Rattle.world_model.specs.Saturated.{saturated}
use Rattle.world_watch.specs.Steps.{Texts}
use Rattle.run_ends.specs.declared.Status.{Status}
use Rattle.run_ends.specs.declared.Status.TheVariants.{Done, RefusedText, NoWorld}
use Rattle.run_ends.specs.Ends.{line_of, in_lines, complete_line, end_line}
use Rattle.command_line.specs.Requests.{Names}
use Rattle.run_ends.specs.Runs.{File}

-- a watcher as a run sees it: its name, and what it would report of a problem after a further list of worlds
pub record Watched : Type 0 where
  pub name : List ℕ
  pub text : Texts

abbrev pub watched : {W : Type 0} → (W → List ℕ) → (W → Texts) → List W → List Watched
watched name text ws = map (λ w. record { name = name w; text = text w }) ws

-- the first watcher with a name stands for it
abbrev pub first_named : List Watched → List ℕ → Option Watched
first_named ws kind = find (λ w. bytes_eq w.name kind) ws

-- the watchers that stand for some names, in the order of the names
abbrev pub asked : List Watched → List (List ℕ) → List Watched
asked ws kinds = filter_map (first_named ws) kinds

-- names that can be asked for: each is some watcher's, and none stands twice
pub record AreKinds (ws : List Watched) (kinds : List (List ℕ)) : Type 0 where
  pub named : All (λ kind. Contains (map (λ w. w.name) ws) kind) kinds
  pub once : AllPairs (λ one other. one ≢ other) kinds

-- what is put of a watcher after some worlds: a line with its name, and the lines of its report
abbrev pub report_of : Problem → List (List Rel) → Watched → List ℕ
report_of p worlds w = line_of (codes "report " ++ w.name) ++ in_lines (w.text p worlds)

-- the reports of some watchers, and how many worlds there are
abbrev pub report_text : Problem → List (List Rel) → List Watched → List ℕ
report_text p worlds ws = flat_map (report_of p worlds) ws ++ complete_line (saturated (length worlds))

-- a good end: NoWorld where there is no world
abbrev pub report_status : List (List Rel) → Status
report_status [] = NoWorld
report_status (world ∷ worlds) = Done

-- the reports of some watchers on all worlds of a problem
pub record IsReported (p : Problem) (ws : List Watched) (status : Status) (text : List ℕ) : Type 0 where
  pub worlds : List (List Rel)
  pub all : IsListing p [] None worlds
  pub put : text ≡ report_text p worlds ws
  pub ended : status ≡ report_status worlds

-- what comes of a problem's text
abbrev pub IsAnswerBy : Result Problem (ℕ × TextKind) → List Watched → Status → List ℕ → Type 0
IsAnswerBy (Ok p) ws status text = IsReported p ws status text
IsAnswerBy (Err fault) ws status text = (status ≡ RefusedText fault.0 fault.1) × (text ≡ end_line (RefusedText fault.0 fault.1))

-- the answers to a request for the reports of some kinds on the problem under a name, with the watchers that are at hand
pub record IsReportAnswer (input : List ℕ) (kinds : List (List ℕ)) (switches : Switches) (ws : List Watched) (held : Contents) (status : Status) (text : List ℕ) (files : List File) : Type 0 where
  pub bytes : List ℕ
  pub told : IfSome (held input) (λ all. bytes ≡ all)
  pub answer : IsAnswerBy (text_result bytes switches) (asked ws kinds) status text
  pub none_written : files ≡ []

-- the name that it reads; it writes none
abbrev pub report_names : List ℕ → Names
report_names input = record { read = input ∷ []; written = [] }
