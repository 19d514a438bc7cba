-- What is read of files that are to be certificates of parts.
use Rattle.std.specs.Prelude.{◌≡◌, ℕ, List, Result, Ok, Err, ⊤}
use Rattle.world_model.specs.Problem.{Problem}
use Rattle.cert_reader.specs.declared.fault.CertTextKind.TheVariants.{BadLine}
use Rattle.cert_check.specs.declared.accepted.Accepted.{Accepted}
use Rattle.cert_check.specs.declared.accepted.Accepted.TheVariants.{Listing, Claims}
use Rattle.cert_check.specs.declared.fault.CheckFault.{CheckFault}
use Rattle.cert_check.specs.declared.fault.CheckFault.TheVariants as check
use Rattle.cert_rules.specs.declared.parts.PartKind.TheVariants.{Text, Rejected}
use Rattle.part_join.specs.Parts.{Part}
use Rattle.part_join.specs.Joining.{part_in, IsFirstRefused}
use Rattle.part_join.specs.declared.fault.JoinFault.{JoinFault}
use Rattle.part_join.specs.declared.fault.JoinFault.TheVariants.{PartRefused, Gap, ReadFault, NoMemory}

-- why the file of a number is no part, by why a check did not accept it
abbrev pub fault_of : ℕ → CheckFault → JoinFault
fault_of number (check.Text line kind) = PartRefused number line (Text kind)
fault_of number (check.Rejected line kind) = PartRefused number line (Rejected kind)
fault_of number check.ReadFault = ReadFault
fault_of number check.NoMemory = NoMemory

-- the part that a check accepted, or why there is none
abbrev pub as_part : ℕ → Result Accepted CheckFault → Result Part JoinFault
as_part number (Ok (Listing from to worlds)) = Ok (record { from = from; to = to; worlds = worlds })
as_part number (Ok (Claims claims)) = Err (PartRefused number 1 (Text BadLine))
as_part number (Err fault) = Err (fault_of number fault)

-- what is read of the file of a number: its part, or by which line and kind it is refused; or a read failed, or memory ran out
abbrev pub IsPartOf : Problem → ℕ → List ℕ → Result Part JoinFault → Type 0
IsPartOf p number bytes (Ok q) = part_in p bytes ≡ Ok q
IsPartOf p number bytes (Err (PartRefused n line kind)) = (n ≡ number) × (part_in p bytes ≡ Err (line, kind))
IsPartOf p number bytes (Err (Gap from to)) = ⊥
IsPartOf p number bytes (Err ReadFault) = ⊤
IsPartOf p number bytes (Err NoMemory) = ⊤

-- why not all files are read: the first that is refused; or a read failed, or memory ran out
abbrev pub IsUnread : Problem → List (List ℕ) → JoinFault → Type 0
IsUnread p files (PartRefused number line kind) = IsFirstRefused p files number line kind
IsUnread p files (Gap from to) = ⊥
IsUnread p files ReadFault = ⊤
IsUnread p files NoMemory = ⊤

-- what is read of all files: a good result, or why there is none
abbrev pub IsReadOf : {T : Type 0} → Problem → List (List ℕ) → (T → Type 0) → Result T JoinFault → Type 0
IsReadOf p files good (Ok value) = good value
IsReadOf p files good (Err fault) = IsUnread p files fault
