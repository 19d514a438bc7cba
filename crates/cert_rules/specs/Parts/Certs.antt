-- The answer to the bytes of a certificate, and what the certificate of a listing is.
use Rattle.std.specs.Prelude.{◌≡◌, ◌≤◌, ℕ, ◌^◌, List, ◌∷◌, length, Option}
use Rattle.rcc5_core.specs.declared.Rel.{Rel}
use Rattle.world_model.specs.Problem.{Problem}
use Rattle.constraint_set.specs.Facts.{IsBuilt}
use Rattle.cert_text.specs.declared.line.CertLine.{CertLine}
use Rattle.cert_text.specs.declared.line.CertLine.TheVariants.{Certificate}
use Rattle.cert_reader.specs.declared.fault.CertTextKind.{CertTextKind}
use Rattle.cert_reader.specs.Reading.{reading}
use Rattle.cert_rules.specs.Listings.{Going, listing_tree, start}
use Rattle.cert_rules.specs.ShownNodes.{AllBranchesAlive, visited, IsShownList}
use Rattle.cert_rules.specs.Files.{Answer, Accepts, Listing, answer_of}

-- the answer to a certificate's bytes
abbrev pub cert_answer : Problem → List ℕ → Answer CertTextKind
cert_answer p bytes = answer_of p (reading bytes).lines (reading bytes).ends

-- bytes are accepted as the listing of just these worlds, and each branch among the lines that are read from them stands at an alive node
pub record IsPrunedCert (p : Problem) (from : List Rel) (to : Option (List Rel)) (worlds : List (List Rel)) (bytes : List ℕ) : Type 0 where
  pub accepted : cert_answer p bytes ≡ Accepts (Listing from to worlds)
  pub lines : List CertLine
  pub read : (reading bytes).lines ≡ Certificate p.switches from ∷ lines
  pub alive : AllBranchesAlive (listing_tree p from) (Going 1 (start p)) lines

-- bytes that are a certificate of a listing: so it is of them where they are no more than are checked
abbrev pub IsListingCert : Problem → List Rel → Option (List Rel) → List (List Rel) → List ℕ → Type 0
IsListingCert p from to worlds bytes = length bytes ≤ 2 ^ 36 → IsPrunedCert p from to worlds bytes

-- the lines of the tree of such a certificate stand, one each, at exactly the shown nodes below its end, ascending
abbrev pub CertLinesAreNodes : Type 0
CertLinesAreNodes = (p : Problem) → IsBuilt p → (from : List Rel) (to : Option (List Rel)) (worlds : List (List Rel)) (bytes : List ℕ) →
    (cert : IsPrunedCert p from to worlds bytes) → IsShownList p from to (visited (listing_tree p from) (Going 1 (start p)) cert.lines)
