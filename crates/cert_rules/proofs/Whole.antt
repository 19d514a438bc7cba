-- What accepted certificates say is so: listings, lists of claims, and whole certificates.
use Rattle.std.proofs.Common.{◌≡◌, ℕ, List, [], ◌∷◌, Option, Some, None, refl, subst}
use Rattle.world_model.specs.Problem.{Problem}
use Rattle.world_model.proofs.Members.{none_in, in_from_contains}
use Rattle.world_model.proofs.OrderListings.{listing}
use Rattle.constraint_set.specs.Facts.{IsBuilt}
use Rattle.lits_core.proofs.DerivationLemmas.{DerivedFollow-first}
use Rattle.point_encode.specs.Model.Clauses.{given_clauses}
use Rattle.cert_text.specs.declared.line.CertLine.{CertLine}
use Rattle.cert_text.specs.declared.line.CertLine.TheVariants.{Certificate, Claims}
use Rattle.cert_rules.specs.declared.RejectKind.{RejectKind}
use Rattle.cert_rules.specs.Listings.{Status, Going, Ended, Rejected, unless, header_fault, listing_tree, start, steps, listing_status}
use Rattle.cert_rules.specs.ClaimLists.{Claim, ClaimStand, claims_fault, claim_start, claim_steps, claims_status}
use Rattle.cert_text.specs.Ends.{TextEnd, Whole, Faulty}
use Rattle.cert_rules.specs.Files.{Verdict, ClaimList, Accepts, as_listing, settle, bare, answer_of}
use Rattle.cert_rules.specs.Laws.{AcceptedIsTheListing, AcceptedClaimsAreSo, VerdictIsSo}
use Rattle.cert_rules.proofs.Sound.{IsSoundStatus, steps_sound}
use Rattle.cert_rules.proofs.SoundClaims.{IsSoundEnd, claims_sound}
use Rattle.cert_rules.proofs.Headers.{no_fault, room, first_is_sound}

pub listing_law : AcceptedIsTheListing
listing_law p built switches from lines listed e =
    let parts = no_fault (header_fault p switches from) 1 (steps (listing_tree p from) (Going 1 (start p)) lines) listed e in
    let sound = steps_sound (listing_tree p from) (Going 1 (start p)) lines (first_is_sound p from built (room p switches from parts.0)) in
    listing p from listed.to listed.worlds (subst (IsSoundStatus (listing_tree p from)) parts.1 sound)

pub goes_on : (fault : Option RejectKind) (number : ℕ) (next : Status ClaimStand (List Claim)) (claims : List Claim) → unless fault number next ≡ Ended claims → next ≡ Ended claims
goes_on None number next claims e = e
goes_on (Some kind) number next claims e = cc

pub claims_law : AcceptedClaimsAreSo
claims_law p built switches lines claims e claim there_is =
    let ended = goes_on (claims_fault p switches) 1 (claim_steps p (Going 1 (claim_start p)) lines) claims e in
    let first : IsSoundEnd p (Going 1 (claim_start p)) = record { built = built; given = refl; follow = DerivedFollow-first (given_clauses p); settled = λ c i. absurd (none_in i); block_is = tt } in
    subst (IsSoundEnd p) ended (claims_sound p (Going 1 (claim_start p)) lines first) claim (in_from_contains claims there_is)

-- what is accepted has ended
pub record HasEnded {S R : Type 0} (said : R → Verdict) (status : Status S R) (verdict : Verdict) : Type 0 where
  pub end : R
  pub ended : status ≡ Ended end
  pub is : said end ≡ verdict

pub settled : {S R K : Type 0} (said : R → Verdict) (status : Status S R) (end : TextEnd K) (verdict : Verdict) → settle said status end ≡ Accepts verdict → HasEnded said status verdict
settled said (Going n s) Whole verdict e = cc
settled said (Going n s) (Faulty number kind) verdict e = cc
settled said (Ended r) Whole verdict e = let same : said r ≡ verdict = cc in record { end = r; ended = refl; is = same }
settled said (Ended r) (Faulty number kind) verdict e = cc
settled said (Rejected number kind) end verdict e = cc

pub bare_fails : {K : Type 0} (end : TextEnd K) (verdict : Verdict) → bare end ≡ Accepts verdict → ⊥
bare_fails Whole verdict e = cc
bare_fails (Faulty number kind) verdict e = cc

pub verdict_law : {K : Type 0} (p : Problem) → IsBuilt p → (lines : List CertLine) (end : TextEnd K) (verdict : Verdict) → answer_of p lines end ≡ Accepts verdict → VerdictIsSo p verdict
verdict_law p built [] end verdict e = absurd (bare_fails end verdict e)
verdict_law p built (Certificate switches from ∷ lines) end verdict e =
    let h = settled (as_listing from) (listing_status p switches from lines) end verdict e in
    subst (VerdictIsSo p) h.is (listing_law p built switches from lines h.end h.ended)
verdict_law p built (Claims switches ∷ lines) end verdict e =
    let h = settled ClaimList (claims_status p switches lines) end verdict e in
    subst (VerdictIsSo p) h.is (claims_law p built switches lines h.end h.ended)
verdict_law p built (line ∷ lines) end verdict e = cc
