-- What comes of files that are to be certificates of parts: the whole listing, or what is missing.
use Rattle.std.specs.Prelude.{◌≡◌, ℕ, ◌+◌, List, [], ◌∷◌, ◌++◌, map, length, Option, None, Result, Ok, Err, Contains, ⊤}
use Rattle.std.specs.List.{AllZip}
use Rattle.rcc5_core.specs.declared.Rel.{Rel}
use Rattle.outer_store.specs.Contents.{Contents}
use Rattle.outer_store.specs.Faults.{Counts, Rose}
use Rattle.world_model.specs.Problem.{Problem}
use Rattle.world_model.specs.Listing.{IsListing}
use Rattle.cert_reader.specs.Bytes.{MayHold, ForSome}
use Rattle.cert_reader.specs.declared.fault.CertTextKind.{CertTextKind}
use Rattle.cert_reader.specs.declared.fault.CertTextKind.TheVariants.{BadLine}
use Rattle.cert_rules.specs.Files.{Answer, Accepts, Rejects, HasFault, Listing, ClaimList}
use Rattle.cert_rules.specs.Parts.Certs.{cert_answer}
use Rattle.cert_rules.specs.declared.parts.PartKind.{PartKind}
use Rattle.cert_rules.specs.declared.parts.PartKind.TheVariants.{Text, Rejected}
use Rattle.part_join.specs.Parts.{Part, IsReach, IsFirstGap}
use Rattle.part_join.specs.declared.fault.JoinFault.{JoinFault}
use Rattle.part_join.specs.declared.fault.JoinFault.TheVariants.{PartRefused, Gap, ReadFault, NoMemory}

-- the part that an accepted listing is, or the line and the kind by which it is refused: claims are no part
abbrev pub part_by : Answer CertTextKind → Result Part (ℕ × PartKind)
part_by (Accepts (Listing from to worlds)) = Ok (record { from = from; to = to; worlds = worlds })
part_by (Accepts (ClaimList claims)) = Err (1, Text BadLine)
part_by (Rejects line kind) = Err (line, Rejected kind)
part_by (HasFault line kind) = Err (line, Text kind)

-- the part that bytes are a certificate of
abbrev pub part_in : Problem → List ℕ → Result Part (ℕ × PartKind)
part_in p bytes = part_by (cert_answer p bytes)

-- files are certificates of parts, one each
abbrev pub AreParts : Problem → List (List ℕ) → List Part → Type 0
AreParts p files parts = map (part_in p) files ≡ map (λ q. Ok q) parts

-- the first file that is no certificate of a part, by its number, counted from 1
pub record IsFirstRefused (p : Problem) (files : List (List ℕ)) (number line : ℕ) (kind : PartKind) : Type 0 where
  pub earlier : List (List ℕ)
  pub file : List ℕ
  pub later : List (List ℕ)
  pub split : files ≡ earlier ++ file ∷ later
  pub numbered : number ≡ length earlier + 1
  pub parts : List Part
  pub good : AreParts p earlier parts
  pub refused : part_in p file ≡ Err (line, kind)

-- the parts reach the end of all, and these are all possible worlds
pub record IsWhole (p : Problem) (files : List (List ℕ)) (worlds : List (List Rel)) : Type 0 where
  pub parts : List Part
  pub are : AreParts p files parts
  pub reach : IsReach parts None
  pub listing : IsListing p [] None worlds

-- the parts have this first gap
pub record HasGap (p : Problem) (files : List (List ℕ)) (from : List Rel) (to : Option (List Rel)) : Type 0 where
  pub parts : List Part
  pub are : AreParts p files parts
  pub gap : IsFirstGap parts from to

-- the answer of files: all worlds, the first that is refused or the first gap; or a read failed, or memory ran out
abbrev pub IsJoin : Problem → List (List ℕ) → Result (List (List Rel)) JoinFault → Type 0
IsJoin p files (Ok worlds) = IsWhole p files worlds
IsJoin p files (Err (PartRefused number line kind)) = IsFirstRefused p files number line kind
IsJoin p files (Err (Gap from to)) = HasGap p files from to
IsJoin p files (Err ReadFault) = ⊤
IsJoin p files (Err NoMemory) = ⊤

-- files that names may hold, one each: just what is told of each, and any bytes where none are
abbrev pub MayHoldAll : Contents → List (List ℕ) → List (List ℕ) → Type 0
MayHoldAll held names files = AllZip (λ name file. MayHold (held name) file) names files

-- the count of one of some names rose
abbrev pub SomeRose : List (List ℕ) → Counts → Counts → Type 0
SomeRose names before now = ForSome (Contains names) (λ name. Rose (before name) (now name))

-- one fact where a read failed, and another at every other fault
abbrev pub IfReadFailed : JoinFault → Type 0 → Type 0 → Type 0
IfReadFailed (PartRefused number line kind) failed other = other
IfReadFailed (Gap from to) failed other = other
IfReadFailed ReadFault failed other = failed
IfReadFailed NoMemory failed other = other

-- the same of an answer
abbrev pub IfReadFault : {T : Type 0} → Result T JoinFault → Type 0 → Type 0 → Type 0
IfReadFault (Ok value) failed other = other
IfReadFault (Err fault) failed other = IfReadFailed fault failed other
