-- What a listing answers.
use Rattle.std.specs.Prelude.{◌≡◌, ℕ, List, [], ◌∷◌, ◌++◌, flat_map, Option, Some, None, IfSome, option_map, Result, Ok, Err, codes, decimal}
use Rattle.std.specs.Option.{option_to_list}
use Rattle.outer_store.specs.Contents.{Contents}
use Rattle.rcc5_core.specs.declared.Rel.{Rel}
use Rattle.world_model.specs.Problem.{Problem}
use Rattle.world_model.specs.Listing.{IsListing}
use Rattle.world_model.specs.Node.{IsCut}
use Rattle.cleantax_text.specs.declared.TextKind.{TextKind}
use Rattle.cleantax_text.specs.Reading.{text_result}
use Rattle.run_ends.specs.declared.token.TokenKind.{TokenKind}
use Rattle.run_ends.specs.Token.Token.{token_text, token_result}
use Rattle.world_model.specs.Saturated.{count_of}
use Rattle.run_ends.specs.declared.Status.{Status}
use Rattle.run_ends.specs.declared.Status.TheVariants.{Done, RefusedText, Cut, NoWorld, RefusedToken}
use Rattle.run_ends.specs.Ends.{line_of, world_line, complete_line}
use Rattle.run_ends.specs.Reads.{AreHeld}
use Rattle.run_ends.specs.Runs.{File, file_under, IsEndAlone}
use Rattle.command_line.specs.declared.request.AlignArgs.{AlignArgs}
use Rattle.command_line.specs.declared.request.Request.TheVariants.{Align}
use Rattle.command_line.specs.Requests.{Names, names_of}
use Rattle.listing_run.specs.declared.plan.ListingPlan.{ListingPlan}
use Rattle.cert_rules.specs.Parts.Certs.{IsListingCert}

-- the last line of a listing of so many worlds that stopped before its end
abbrev pub cut_line : ℕ → List ℕ
cut_line count = line_of (codes "cut " ++ decimal count)

-- the last line of a listing, by where it stopped
abbrev pub last_line : Option (List Rel) → ℕ → List ℕ
last_line None count = complete_line count
last_line (Some cut) count = cut_line count

-- the text of a listing: a line for each world, and how many they are
abbrev pub listing_text : Option (List Rel) → List (List Rel) → List ℕ
listing_text cut worlds = flat_map world_line worlds ++ last_line cut (count_of worlds)

-- a good end: where the listing was cut; NoWorld where it began at the empty position and there is no world
abbrev pub listing_end : List Rel → Option (List Rel) → List (List Rel) → Status
listing_end start (Some cut) worlds = Cut cut
listing_end [] None [] = NoWorld
listing_end [] None (world ∷ worlds) = Done
listing_end (rel ∷ rels) None worlds = Done

-- the token of a cut under its name, told where the name tells its bytes
abbrev pub token_under : Problem → Option (List ℕ) → Option (List Rel) → Contents → List File
token_under p None cut held = []
token_under p (Some name) None held = []
token_under p (Some name) (Some cut) held = record { name = name; bytes = option_map (λ _. token_text p cut) (held name) } ∷ []

-- the listing up to the cut is what is put; the token of the cut is what is written, and its certificate, under a name that told its bytes
pub record IsListed (plan : ListingPlan) (cert token : Option (List ℕ)) (held : Contents) (status : Status) (text : List ℕ) (files : List File) : Type 0 where
  pub cut : Option (List Rel)
  pub cut_is : IsCut plan.problem plan.start plan.nodes plan.worlds cut
  pub worlds : List (List Rel)
  pub exactly : IsListing plan.problem plan.start cut worlds
  pub put : text ≡ listing_text cut worlds
  pub ended : status ≡ listing_end plan.start cut worlds
  pub bytes : Option (List ℕ)
  pub certified : IfSome cert (λ name. IfSome (held name) (λ _. IfSome bytes (IsListingCert plan.problem plan.start cut worlds)))
  pub written : files ≡ file_under cert bytes ++ token_under plan.problem token cut held

-- the start of a listing: the position of the token, if one is given, and else the empty one
abbrev pub start_of : Problem → Option (List ℕ) → Result (List Rel) TokenKind
start_of p None = Ok []
start_of p (Some token) = token_result p token

-- what is to be listed of a problem from a start on, or how a run ends whose token is refused
abbrev pub plan_from : Problem → Option ℕ → Option ℕ → Result (List Rel) TokenKind → Result ListingPlan Status
plan_from p nodes worlds (Ok start) = Ok (record { problem = p; start = start; end = None; nodes = nodes; worlds = worlds })
plan_from p nodes worlds (Err kind) = Err (RefusedToken kind)

-- what is to be listed by a text and a token, or how a run ends whose text is refused
abbrev pub plan_by : Result Problem (ℕ × TextKind) → Option ℕ → Option ℕ → Option (List ℕ) → Result ListingPlan Status
plan_by (Ok p) nodes worlds token = plan_from p nodes worlds (start_of p token)
plan_by (Err fault) nodes worlds token = Err (RefusedText fault.0 fault.1)

-- what comes of a plan: its listing; and of a refusal: its last line
abbrev pub IsPlanAnswer : Result ListingPlan Status → Option (List ℕ) → Option (List ℕ) → Contents → Status → List ℕ → List File → Type 0
IsPlanAnswer (Ok plan) cert token held status text files = IsListed plan cert token held status text files
IsPlanAnswer (Err refusal) cert token held status text files = IsEndAlone refusal status text files

-- what a listing comes to that is asked for: a plan, or how the run ends that is refused, where its names hold what the store tells
pub record ComesTo (args : AlignArgs) (held : Contents) (outcome : Result ListingPlan Status) : Type 0 where
  pub bytes : List ℕ → List ℕ
  pub told : AreHeld bytes held
  pub is : plan_by (text_result (bytes args.input) args.switches) args.nodes args.worlds (option_map bytes args.resume) ≡ outcome

-- the answers to it
pub record IsListingAnswer (args : AlignArgs) (held : Contents) (status : Status) (text : List ℕ) (files : List File) : Type 0 where
  pub outcome : Result ListingPlan Status
  pub comes : ComesTo args held outcome
  pub answer : IsPlanAnswer outcome args.cert args.token held status text files

-- the names that a listing writes, and those that it reads besides
abbrev pub written_names : Option (List ℕ) → Option (List ℕ) → List (List ℕ)
written_names cert token = option_to_list cert ++ option_to_list token

abbrev pub listing_names : AlignArgs → Names
listing_names args = names_of (Align args)
