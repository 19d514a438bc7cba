-- Whole claims, from what is told while a tree is open.
use Rattle.std.proofs.Common.{◌≡◌, ◌<◌, ◌^◌, List, [], ◌++◌, length, Option, Some, None, Result, Ok, Err, refl, sym, subst, arith, IsTrue}
use Rattle.std.specs.Prelude.{◌==◌, nat_lt}
use Rattle.std.specs.List.{list_all}
use Rattle.std.proofs.lemmas.Bool.{and_parts, eqb-true}
use Rattle.rcc5_core.specs.declared.Rel.{Rel}
use Rattle.world_model.specs.Problem.{Problem, concept_count}
use Rattle.world_model.specs.Family.{Family, meets}
use Rattle.world_model.proofs.PointRules.{met_parts}
use Rattle.constraint_set.specs.Facts.{IsBuilt}
use Rattle.point_query.specs.Asking.{AskerState}
use Rattle.cert_text.specs.declared.line.Subject.{Subject}
use Rattle.cert_text.specs.Logs.{Told}
use Rattle.cert_rules.specs.ClaimLists.{Claim}
use Rattle.cert_rules.specs.ClaimWriting.{ShowsSubject, open_at}
use Rattle.search_log.specs.declared.fault.StepFault.{StepFault}
use Rattle.search_log.specs.Logging.{AddsLines}
use Rattle.split_search.specs.declared.choice.Choice.{Choice}
use Rattle.split_search.specs.declared.choice.Choice.TheVariants.{Met, Refuted}
use Rattle.set_family.specs.Meeting.{IsMetBy}
use Rattle.split_search.specs.Claiming.{ToldClaims, KeepsOpen, KeepsSomewhere, KeepsWithin}
use Rattle.pick_search.specs.Blocks.Blocks.{IsProblemOf, AreClaimsTold, AreClaimsMade, FromClaims, KeepsClaims}
use Rattle.pick_search.specs.Blocks.Steps.{ClaimsLeadTo, LeadsSomewhere, LeadsIf, MayEndAt}
use Rattle.pick_search.proofs.blocks.Steps.{leads_join, leads_behind}

-- claims are made after Ok, and told after a fault
pub made_from : (p : Problem) (IsMade : List Claim → Type 0) (made : List Claim) (old new : Told) (one other : AskerState) → IsMade made →
    ((claims : List Claim) → ClaimsLeadTo p old new one other None claims None (claims ++ made)) → FromClaims p old one (λ claims. AreClaimsMade p IsMade claims new other)
made_from p IsMade made old new one other is_made leads lines claims is k = record { more = made; made = is_made; told_claims = leads claims lines is k }

pub told_from : (p : Problem) (old new : Told) (one other : AskerState) → ((claims : List Claim) → LeadsSomewhere p old new one other None claims) →
    FromClaims p old one (λ claims. AreClaimsTold p new other)
told_from p old new one other leads lines claims is k = leads claims lines is k

pub keeps_from : {T : Type 0} (r : Result T StepFault) (p : Problem) (IsMade : T → List Claim → Type 0) (made : List Claim) (old new : Told) (one other : AskerState) → ((value : T) → IsMade value made) →
    ((claims : List Claim) → LeadsIf p r old new one other None claims None (claims ++ made)) → KeepsClaims p r IsMade old new one other
keeps_from (Ok value) p IsMade made old new one other is_made leads = made_from p (IsMade value) made old new one other (is_made value) leads
keeps_from (Err fault) p IsMade made old new one other is_made leads = told_from p old new one other leads

-- and back, with the claims that there were
pub leads_from : {T : Type 0} (r : Result T StepFault) (p : Problem) (made claims : List Claim) (old new : Told) (one other : AskerState) → KeepsClaims p r (λ _ more. more ≡ made) old new one other →
    LeadsIf p r old new one other None claims None (claims ++ made)
leads_from (Ok value) p made claims old new one other keeps = λ lines is k.
    let now = keeps lines claims is k in subst (λ more. ToldClaims p new other.solver.waiting other.solver.state None (claims ++ more)) now.made now.told_claims
leads_from (Err fault) p made claims old new one other keeps = λ lines is k. keeps lines claims is k

-- a tree that was opened and then searched is open somewhere
pub somewhere : (p : Problem) (subject : Subject) (claims : List Claim) (a b c : Told) (one two three : AskerState) → AddsLines a b →
    ClaimsLeadTo p a b one two None claims (open_at subject (Some [])) claims → KeepsSomewhere p subject claims b c two three →
    (at : Option (List Rel)) × ClaimsLeadTo p a c one three None claims (open_at subject at) claims
somewhere p subject claims a b c one two three adds first second =
    (second.0, leads_join p a b c one two three None (open_at subject (Some [])) (open_at subject second.0) claims claims claims adds first second.1)

-- a family that meets the problem of a subject, and how many sets it has
pub shown : (p : Problem) (subject : Subject) (q : Problem) (f : Family) → IsProblemOf p subject q → IsMetBy q f → ShowsSubject p subject f
shown p subject q f is met = record {
  subject_is = is.named;
  sets = met.sets;
  met = subst (λ q. IsTrue (meets q f)) (sym is.problem) met.met;
}

pub few_sets : (q : Problem) (f : Family) → IsBuilt q → IsMetBy q f → length f.sets < 2 ^ 32
few_sets q f built met =
    let fits = (met_parts q f met.met).fits in
    let full = eqb-true (length f.sets) (concept_count q) (and_parts (length f.sets == concept_count q) (list_all (list_all (λ x. nat_lt x f.universe)) f.sets) fits).0 in
    let few = built.concepts in
    omega (arith, full, few)

-- where a search that ended well leaves its tree
pub searched : (choice : Choice) (p : Problem) (subject : Subject) (claims : List Claim) (old new : Told) (one other : AskerState) → KeepsWithin p subject claims (Ok choice) old new one other →
    (at : Option (List Rel)) × MayEndAt choice at × KeepsOpen p subject claims old new one other (Some []) at
searched (Met f) p subject claims old new one other k = (k.0, tt, k.1)
searched Refuted p subject claims old new one other k = (None, refl, k)

-- a tree that was opened, searched up to some node or its end, and then ended or left
pub finished : {T : Type 0} (r : Result T StepFault) (p : Problem) (subject : Subject) (made claims : List Claim) (at : Option (List Rel)) (a b c d : Told) (one two three four : AskerState) → AddsLines a b → AddsLines b c →
    ClaimsLeadTo p a b one two None claims (open_at subject (Some [])) claims → KeepsOpen p subject claims b c two three (Some []) at →
    LeadsIf p r c d three four (open_at subject at) claims None (claims ++ made) → LeadsIf p r a d one four None claims None (claims ++ made)
finished r p subject made claims at a b c d one two three four adds more first second third =
    leads_behind r p a b d one two four None (open_at subject (Some [])) None claims claims (claims ++ made) adds first
    (leads_behind r p b c d two three four (open_at subject (Some [])) (open_at subject at) None claims claims (claims ++ made) more second third)
