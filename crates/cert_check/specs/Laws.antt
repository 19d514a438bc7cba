-- What accepted bytes show, and what the checker accepts of what is written.
use Rattle.std.specs.Prelude.{◌≡◌, ℕ, ◌^◌, ◌≤◌, List, [], ◌∷◌, ◌++◌, length, Option, Some, None}
use Rattle.rcc5_core.specs.declared.Rel.{Rel}
use Rattle.lits_core.specs.Derivation.{State}
use Rattle.world_model.specs.Problem.{Problem, pair_count}
use Rattle.world_model.specs.Listing.{IsListing}
use Rattle.constraint_set.specs.Facts.{IsBuilt}
use Rattle.cert_text.specs.declared.line.CertLine.{CertLine}
use Rattle.cert_text.specs.declared.line.CertLine.TheVariants.{Claims, End, Done}
use Rattle.cert_text.specs.Logs.{lines_in}
use Rattle.cert_reader.specs.Reading.{reading}
use Rattle.cert_rules.specs.ClaimLists.{Claim}
use Rattle.cert_rules.specs.ClaimWriting.{ClaimsKeepUp}
use Rattle.cert_rules.specs.Files.{Listing, ClaimList, Accepts, answer_of}
use Rattle.cert_rules.specs.Showing.{ShowsAll}
use Rattle.cert_rules.specs.Writing.{BeginsAndKeepsUp}

-- lines that keep up with a listing, and an end where the writer stands, are accepted as the listing up to there, by bytes that
-- spell them and are no longer than a certificate may be
pub record WrittenIsAccepted : Type 0 where
  pub accepted : (p : Problem) (from : List Rel) (told : List CertLine) (state : State) (at : Option (List Rel)) (bytes : List ℕ) → IsBuilt p → length from ≤ pair_count p →
      BeginsAndKeepsUp p from [] state at told → lines_in bytes ≡ Some (told ++ End at ∷ []) → length bytes ≤ 2 ^ 36 →
      (worlds : List (List Rel)) × IsListing p from at worlds × (answer_of p (reading bytes).lines (reading bytes).ends ≡ Accepts (Listing from at worlds))

-- lines that keep up with a list of claims, with no tree open, and `done` are accepted with just these claims, by bytes that spell them
-- and are no longer than a certificate may be
abbrev pub WrittenClaimsAreAccepted : Type 0
WrittenClaimsAreAccepted = (p : Problem) (lines : List CertLine) (state : State) (claims : List Claim) (bytes : List ℕ) →
    ClaimsKeepUp p lines [] state None claims → lines_in bytes ≡ Some (Claims p.switches ∷ (lines ++ Done ∷ [])) → length bytes ≤ 2 ^ 36 →
    answer_of p (reading bytes).lines (reading bytes).ends ≡ Accepts (ClaimList claims)

-- bytes that are accepted as a listing give each world its family, and each other table between start and stop, unless one pair
-- excludes it, its refutation
abbrev pub AcceptedBytesShowAll : Type 0
AcceptedBytesShowAll = (p : Problem) → IsBuilt p → (bytes : List ℕ) (from : List Rel) (to : Option (List Rel)) (worlds : List (List Rel)) →
    answer_of p (reading bytes).lines (reading bytes).ends ≡ Accepts (Listing from to worlds) → ShowsAll p from to worlds (reading bytes).lines
