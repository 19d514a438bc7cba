-- What the command answers that lists the worlds of a part.
use Rattle.std.specs.Prelude.{◌≡◌, ℕ, List, [], ◌∷◌, ◌++◌, flat_map, Option, Some, None, IfSome, option_map, unwrap_or, Result, Ok, Err, if◌then◌else◌, codes, decimal}
use Rattle.outer_store.specs.Contents.{Contents}
use Rattle.rcc5_core.specs.declared.Rel.{Rel}
use Rattle.world_model.specs.Problem.{Problem}
use Rattle.world_model.specs.Listing.{is_before_end, IsListing}
use Rattle.world_model.specs.Saturated.{count_of}
use Rattle.world_search.specs.Searching.{IsNodeAtEnd}
use Rattle.cert_rules.specs.Parts.Certs.{IsListingCert}
use Rattle.command_line.specs.declared.request.PartArgs.{PartArgs}
use Rattle.command_line.specs.declared.request.Request.TheVariants.{Part}
use Rattle.command_line.specs.Requests.{Names, names_of}
use Rattle.run_ends.specs.declared.Status.{Status}
use Rattle.run_ends.specs.declared.Status.TheVariants.{Done, EmptyPart}
use Rattle.run_ends.specs.Ends.{line_of, world_line}
use Rattle.run_ends.specs.Reads.{AreHeld, problem_in, token_in}
use Rattle.run_ends.specs.Runs.{File, IsEndAlone}
use Rattle.listing_run.specs.declared.plan.ListingPlan.{ListingPlan}

-- the last line of a part of so many worlds
abbrev pub part_line : ℕ → List ℕ
part_line count = line_of (codes "part " ++ decimal count)

-- the text of a part: a line for each world, and how many they are
abbrev pub part_text : List (List Rel) → List ℕ
part_text worlds = flat_map world_line worlds ++ part_line (count_of worlds)

-- the position of a token that may be given, or how a run ends whose token is refused
abbrev pub given_by : Result (List Rel) Status → Result (Option (List Rel)) Status
given_by (Ok position) = Ok (Some position)
given_by (Err refusal) = Err refusal

abbrev pub given_in : Problem → Option (List ℕ) → Result (Option (List Rel)) Status
given_in p None = Ok None
given_in p (Some token) = given_by (token_in p token)

-- what is to be listed from one position up to another, or to the end of all; a part is empty whose end is not above its start
abbrev pub plan_between : Problem → List Rel → Option (List Rel) → Result ListingPlan Status
plan_between p start end =
    if is_before_end start end then Ok (record { problem = p; start = start; end = end; nodes = None; worlds = None }) else Err EmptyPart

-- by what comes of the tokens of its start and of its end; without the one it begins at the empty position
abbrev pub plan_to : Problem → Option (List Rel) → Result (Option (List Rel)) Status → Result ListingPlan Status
plan_to p start (Ok end) = plan_between p (unwrap_or start []) end
plan_to p start (Err refusal) = Err refusal

abbrev pub plan_from : Problem → Result (Option (List Rel)) Status → Result (Option (List Rel)) Status → Result ListingPlan Status
plan_from p (Ok start) end = plan_to p start end
plan_from p (Err refusal) end = Err refusal

-- by what comes of a problem's text, and by the two tokens
abbrev pub plan_by : Result Problem Status → Option (List ℕ) → Option (List ℕ) → Result ListingPlan Status
plan_by (Ok p) resume until = plan_from p (given_in p resume) (given_in p until)
plan_by (Err refusal) resume until = Err refusal

-- what a part comes to that is asked for: a plan, or how the run ends that is refused, where its names hold what the store tells
pub record ComesTo (args : PartArgs) (held : Contents) (outcome : Result ListingPlan Status) : Type 0 where
  pub bytes : List ℕ → List ℕ
  pub told : AreHeld bytes held
  pub is : plan_by (problem_in args.switches (bytes args.input)) (option_map bytes args.resume) (option_map bytes args.until) ≡ outcome

-- all worlds of a plan are what is put, and what is written is their certificate, under a name that told its bytes; it ends at the
-- least node that is not below the plan's end
pub record IsListed (plan : ListingPlan) (cert : List ℕ) (held : Contents) (status : Status) (text : List ℕ) (files : List File) : Type 0 where
  pub worlds : List (List Rel)
  pub exactly : IsListing plan.problem plan.start plan.end worlds
  pub put : text ≡ part_text worlds
  pub ended : status ≡ Done
  pub node : Option (List Rel)
  pub node_is : IsNodeAtEnd plan.problem plan.start plan.end node
  pub bytes : Option (List ℕ)
  pub certified : IfSome (held cert) (λ _. IfSome bytes (IsListingCert plan.problem plan.start node worlds))
  pub written : files ≡ record { name = cert; bytes = bytes } ∷ []

-- what comes of a plan: its listing; and of a refusal: its last line alone
abbrev pub IsPlanAnswer : Result ListingPlan Status → List ℕ → Contents → Status → List ℕ → List File → Type 0
IsPlanAnswer (Ok plan) cert held status text files = IsListed plan cert held status text files
IsPlanAnswer (Err refusal) cert held status text files = IsEndAlone refusal status text files

-- the answers to a part that is asked for
pub record IsPartAnswer (args : PartArgs) (held : Contents) (status : Status) (text : List ℕ) (files : List File) : Type 0 where
  pub outcome : Result ListingPlan Status
  pub comes : ComesTo args held outcome
  pub answer : IsPlanAnswer outcome args.cert held status text files

-- the names that it reads and writes
abbrev pub part_names : PartArgs → Names
part_names args = names_of (Part args)
