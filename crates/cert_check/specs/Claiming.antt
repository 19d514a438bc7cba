-- How the lines of a list of claims are taken.
use Rattle.std.specs.Prelude.{◌≡◌, ℕ, ◌+◌, Bool, true, false, Option, Some, option_map, Result, Ok, Err, IfSome, ⊤, List, Contains, IsTrue, ◌⊎◌}
use Rattle.lits_core.specs.Derivation.{State}
use Rattle.world_model.specs.Problem.{Problem}
use Rattle.world_model.specs.Family.{Family, meets}
use Rattle.cert_text.specs.declared.line.CertLine.{CertLine}
use Rattle.cert_text.specs.declared.line.CertLine.TheVariants.{Branch, NoPoint, NoRelation}
use Rattle.cert_rules.specs.Listings.{Going, Ended, Rejected}
use Rattle.cert_rules.specs.ClaimLists.{ClaimStand, Block, claim_step, subject_problem, subject_tree}
use Rattle.cert_check.specs.declared.fault.Stop.{Stop}
use Rattle.cert_check.specs.declared.fault.Stop.TheVariants as stop
use Rattle.cert_check.specs.declared.listing.Turn.{Turn}
use Rattle.cert_check.specs.declared.listing.Turn.TheVariants as turn
use Rattle.cert_check.specs.declared.open_tree.OpenTree.{OpenTree}
use Rattle.cert_check.specs.declared.claims.Claims.{Claims}
use Rattle.cert_tree.specs.Levels.{bare_tree}
use Rattle.cert_tree.specs.Walks.{at_of, IsWalk}

-- an open tree as the rules have it
abbrev pub block_of : OpenTree → Block
block_of tree = record { subject = tree.subject; at = at_of tree.walk }

-- where a list of claims stands, with its derivation and what is open, and with another tree open
abbrev pub claim_stand : State → Claims → ClaimStand
claim_stand proof claims = record { proof = proof; block = option_map block_of claims.block; claims = claims.claims.items }

abbrev pub with_block : State → Claims → OpenTree → ClaimStand
with_block proof claims tree = record { proof = proof; block = Some (block_of tree); claims = claims.claims.items }

-- an open tree is that of its subject, or branches on no pair yet, and then no path in it leads below the root
pub record IsBlock (p : Problem) (block : OpenTree) : Type 0 where
  pub walk : IsWalk block.walk
  pub tree : (block.walk.tree ≡ subject_tree p block.subject) ⊎ (block.walk.tree ≡ bare_tree (subject_problem p block.subject))

abbrev pub IsOpen : Problem → Option OpenTree → Type 0
IsOpen p block = IfSome block (IsBlock p)

-- whether a line is about a node of an open tree
abbrev pub is_node : CertLine → Bool
is_node (Branch depth last) = true
is_node (NoPoint depth last need clause) = true
is_node (NoRelation depth last pair) = true
is_node line = false

-- families meet the problem
abbrev pub AreMet : Problem → List Family → Type 0
AreMet p known = (f : Family) → Contains known f → IsTrue (meets p f)

-- the open tree, if there is one, is that of its subject, and the families that are kept meet the problem
pub record AreClaims (c : Claims) : Type 0 where
  pub block : IsOpen c.problem c.block
  pub known : AreMet c.problem c.known

-- a line was taken as the rules take it, whatever its number: they go on, or end there, or reject it
abbrev pub IsClaimStep : Problem → ClaimStand → CertLine → ClaimStand → Result Turn Stop → Type 0
IsClaimStep p s line new (Ok turn.Further) = (n : ℕ) → claim_step p (Going n s) line ≡ Going (n + 1) new
IsClaimStep p s line new (Ok (turn.Ended to)) = (n : ℕ) → claim_step p (Going n s) line ≡ Ended new.claims
IsClaimStep p s line new (Err (stop.Rejected kind)) = (n : ℕ) → claim_step p (Going n s) line ≡ Rejected (n + 1) kind
IsClaimStep p s line new (Err stop.NoMemory) = ⊤
