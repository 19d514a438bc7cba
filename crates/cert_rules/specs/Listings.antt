-- Listing certificates, line by line.
use Rattle.std.specs.Prelude.{ℕ, ◌+◌, nat_lt, Bool, not, ◌&&◌, if◌then◌else◌, List, [], ◌∷◌, ◌++◌, length, Option, Some, None}
use Rattle.std.specs.Option.{option_map}
use Rattle.rcc5_core.specs.declared.Rel.{Rel}
use Rattle.lits_core.specs.declared.Line.{Line}
use Rattle.lits_core.specs.declared.LineFault.{LineFault}
use Rattle.lits_core.specs.declared.LineFault.TheVariants.{UnknownHint, HintNotUnit, NoConflict, IdUsed, NoMemory}
use Rattle.lits_core.specs.Derivation.{State, first_state, line_fault, next_state}
use Rattle.world_model.specs.declared.Switches.{Switches}
use Rattle.world_model.specs.Problem.{Problem, pairs, pair_count}
use Rattle.world_model.specs.Alive.{same_bool}
use Rattle.point_encode.specs.Model.Clauses.{given_clauses}
use Rattle.cert_text.specs.declared.line.CertLine.{CertLine}
use Rattle.cert_text.specs.declared.line.CertLine.TheVariants.{Proof, World, End}
use Rattle.cert_rules.specs.declared.RejectKind.{RejectKind}
use Rattle.cert_rules.specs.declared.RejectKind.TheVariants.{UnknownHint as HintIsUnknown, HintNotUnit as HintIsNotUnit, NoConflict as HasNoConflict, IdUsed as IdIsUsed, WrongHeader}
use Rattle.cert_rules.specs.Order.{onward}
use Rattle.cert_rules.specs.Trees.{Branching, sets_of, tree_fault, tree_next, end_fault}

-- how far the lines of a certificate lead: some were read and more are to come; the last one was read; or one was rejected
pub data Status (S R : Type 0) : Type 0 where
  Going : ℕ → S → Status S R
  Ended : R → Status S R
  Rejected : ℕ → RejectKind → Status S R

-- a line, by its number, is rejected if it has a fault
abbrev pub unless : {S R : Type 0} → Option RejectKind → ℕ → Status S R → Status S R
unless None number next = next
unless (Some kind) number next = Rejected number kind

-- a fault of a derivation line
abbrev pub as_kind : LineFault → RejectKind
as_kind UnknownHint = HintIsUnknown
as_kind HintNotUnit = HintIsNotUnit
as_kind NoConflict = HasNoConflict
as_kind IdUsed = IdIsUsed
as_kind NoMemory = HintIsUnknown

-- what is wrong with a derivation line
abbrev pub proof_fault : State → Line → Option RejectKind
proof_fault proof line = option_map as_kind (line_fault proof line)

-- where a listing stands: the derivation, the expected node, if any is, and the worlds so far
pub record Stand : Type 0 where
  pub proof : State
  pub at : Option (List Rel)
  pub worlds : List (List Rel)

-- what a listing lists: up to where, and its worlds
pub record Listed : Type 0 where
  pub to : Option (List Rel)
  pub worlds : List (List Rel)

-- what a line is for: the derivation, the end, or else the tree
pub data Role : Type 0 where
  ForProof : Line → Role
  ForEnd : Option (List Rel) → Role
  ForTree : Role

abbrev pub role_of : CertLine → Role
role_of (Proof line) = ForProof line
role_of (End to) = ForEnd to
role_of line = ForTree

-- the worlds with the one, if any, that a line at a node shows
abbrev pub with_world : List (List Rel) → Option (List Rel) → CertLine → List (List Rel)
with_world worlds (Some m) (World depth last family) = worlds ++ m ∷ []
with_world worlds at line = worlds

-- the stand after a line of the derivation, and after one of the tree
abbrev pub after_proof : Stand → Line → Stand
after_proof s line = record s { proof = next_state s.proof line }

abbrev pub after_node : Branching → Stand → CertLine → Stand
after_node tree s line = record s { at = tree_next tree s.at line; worlds = with_world s.worlds s.at line }

-- a line of a listing, by what it is for
abbrev pub take_by : Branching → ℕ → Stand → CertLine → Role → Status Stand Listed
take_by tree n s line (ForProof proof) = unless (proof_fault s.proof proof) (n + 1) (Going (n + 1) (after_proof s proof))
take_by tree n s line (ForEnd to) = unless (end_fault s.at to) (n + 1) (Ended (record { to = to; worlds = s.worlds }))
take_by tree n s line ForTree = unless (tree_fault tree s.proof s.at line) (n + 1) (Going (n + 1) (after_node tree s line))

-- one line further
abbrev pub step : Branching → Status Stand Listed → CertLine → Status Stand Listed
step tree (Going n s) line = take_by tree n s line (role_of line)
step tree (Ended listed) line = Ended listed
step tree (Rejected number kind) line = Rejected number kind

abbrev pub steps : Branching → Status Stand Listed → List CertLine → Status Stand Listed
steps tree status [] = status
steps tree status (line ∷ lines) = steps tree (step tree status line) lines

-- the tree of a listing, which branches on every pair
abbrev pub listing_tree : Problem → List Rel → Branching
listing_tree p from = record { subject = p; levels = pairs p; from = from }

-- the position that comes next in a listing
abbrev pub listing_next : Problem → List Rel → Bool → List Rel → Option (List Rel)
listing_next p from branches m = onward (sets_of (listing_tree p from)) from branches m

-- a listing begins with the root expected
abbrev pub start : Problem → Stand
start p = record { proof = first_state (given_clauses p); at = Some []; worlds = [] }

-- whether two settings of the switches are one
abbrev pub same_switches : Switches → Switches → Bool
same_switches a b = same_bool a.nonempty b.nonempty && same_bool a.sibling b.sibling && same_bool a.coverage b.coverage

-- what is wrong with the first line of a listing: the switches must be those of the problem, and the start no longer than a table
abbrev pub header_fault : Problem → Switches → List Rel → Option RejectKind
header_fault p switches from =
    if same_switches p.switches switches && not (nat_lt (pair_count p) (length from)) then None else Some WrongHeader

-- what the lines of a listing come to: those after its first line
abbrev pub listing_status : Problem → Switches → List Rel → List CertLine → Status Stand Listed
listing_status p switches from lines = unless (header_fault p switches from) 1 (steps (listing_tree p from) (Going 1 (start p)) lines)
