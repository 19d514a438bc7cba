-- Whole certificates: the lines that can be read, and how the reading ends.
use Rattle.std.specs.Prelude.{ℕ, List, [], ◌∷◌, Option}
use Rattle.rcc5_core.specs.declared.Rel.{Rel}
use Rattle.world_model.specs.Problem.{Problem}
use Rattle.cert_text.specs.declared.line.CertLine.{CertLine}
use Rattle.cert_text.specs.declared.line.CertLine.TheVariants.{Certificate, Claims}
use Rattle.cert_text.specs.Ends.{TextEnd, Whole, Faulty}
use Rattle.cert_rules.specs.declared.RejectKind.{RejectKind}
use Rattle.cert_rules.specs.declared.RejectKind.TheVariants.{WrongHeader, MissingBranch}
use Rattle.cert_rules.specs.Listings.{Status, Going, Ended, Rejected, Listed, listing_status}
use Rattle.cert_rules.specs.ClaimLists.{Claim, claims_status}

-- what an accepted certificate says: the worlds from one position on and below another, or some claims
pub data Verdict : Type 0 where
  Listing : List Rel → Option (List Rel) → List (List Rel) → Verdict
  ClaimList : List Claim → Verdict

-- a certificate is accepted, or the first line that has a fault of the text or is rejected is answered
pub data Answer (K : Type 0) : Type 0 where
  Accepts : Verdict → Answer K
  Rejects : ℕ → RejectKind → Answer K
  HasFault : ℕ → K → Answer K

-- a listing from a position on
abbrev pub as_listing : List Rel → Listed → Verdict
as_listing from listed = Listing from listed.to listed.worlds

-- a line that was rejected stands before the one at which the reading ends. A text whose last line was read is past its end
abbrev pub settle : {S R K : Type 0} → (R → Verdict) → Status S R → TextEnd K → Answer K
settle verdict (Rejected number kind) end = Rejects number kind
settle verdict (Going n s) (Faulty number kind) = HasFault number kind
settle verdict (Ended r) (Faulty number kind) = HasFault number kind
settle verdict (Ended r) Whole = Accepts (verdict r)
settle verdict (Going n s) Whole = Rejects n MissingBranch

-- a text without a line that can be read has just its fault
abbrev pub bare : {K : Type 0} → TextEnd K → Answer K
bare Whole = Rejects 1 WrongHeader
bare (Faulty number kind) = HasFault number kind

-- a certificate is a listing or a list of claims by its first line
abbrev pub answer_of : {K : Type 0} → Problem → List CertLine → TextEnd K → Answer K
answer_of p [] end = bare end
answer_of p (Certificate switches from ∷ lines) end = settle (as_listing from) (listing_status p switches from lines) end
answer_of p (Claims switches ∷ lines) end = settle ClaimList (claims_status p switches lines) end
answer_of p (line ∷ lines) end = Rejects 1 WrongHeader
