-- How a checker takes a line.
use Rattle.std.specs.Prelude.{◌≡◌, ℕ, ◌+◌, Bool, true, false, Result, Ok, Err, ⊤}
use Rattle.cert_text.specs.declared.line.CertLine.{CertLine}
use Rattle.cert_text.specs.declared.line.CertLine.TheVariants.{Proof}
use Rattle.cert_rules.specs.Trees.{Branching}
use Rattle.lits_core.specs.Derivation.{State}
use Rattle.lits_core.specs.declared.LineFault.{LineFault}
use Rattle.lits_core.specs.declared.LineFault.TheVariants as fault
use Rattle.cert_rules.specs.Listings.{as_kind, Stand, Going, Ended, Rejected, step}
use Rattle.cert_check.specs.declared.fault.Stop.{Stop}
use Rattle.cert_check.specs.declared.fault.Stop.TheVariants as stop
use Rattle.cert_check.specs.declared.listing.Listing.{Listing}
use Rattle.cert_check.specs.declared.listing.Turn.{Turn}
use Rattle.cert_check.specs.declared.listing.Turn.TheVariants as turn
use Rattle.cert_tree.specs.Walks.{at_of}

-- why a line of the derivation is not taken
abbrev pub stop_of : LineFault → Stop
stop_of fault.UnknownHint = stop.Rejected (as_kind fault.UnknownHint)
stop_of fault.HintNotUnit = stop.Rejected (as_kind fault.HintNotUnit)
stop_of fault.NoConflict = stop.Rejected (as_kind fault.NoConflict)
stop_of fault.IdUsed = stop.Rejected (as_kind fault.IdUsed)
stop_of fault.NoMemory = stop.NoMemory

-- whether a line is one of the derivation
abbrev pub is_proof : CertLine → Bool
is_proof (Proof line) = true
is_proof line = false

-- where a listing stands, with its derivation
abbrev pub stand_of : State → Listing → Stand
stand_of proof listing = record { proof = proof; at = at_of listing.walk; worlds = listing.worlds.items }

-- a line was taken as the rules take it, whatever its number: they go on, or end there, or reject it
abbrev pub IsStep : Branching → Stand → CertLine → Stand → Result Turn Stop → Type 0
IsStep tree s line new (Ok turn.Further) = (n : ℕ) → step tree (Going n s) line ≡ Going (n + 1) new
IsStep tree s line new (Ok (turn.Ended to)) = (n : ℕ) → step tree (Going n s) line ≡ Ended (record { to = to; worlds = new.worlds })
IsStep tree s line new (Err (stop.Rejected kind)) = (n : ℕ) → step tree (Going n s) line ≡ Rejected (n + 1) kind
IsStep tree s line new (Err stop.NoMemory) = ⊤
