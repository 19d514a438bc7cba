-- What is told of whole claims, so that what a log tells stays a valid list of claims.
use Rattle.std.specs.Prelude.{◌≡◌, ℕ, Bool, true, false, List, [], ◌∷◌, ◌++◌, Option, Some, None, Result, Ok, Err}
use Rattle.lits_core.specs.Derivation.{State}
use Rattle.world_model.specs.Problem.{Problem}
use Rattle.point_query.specs.Asking.{AskerState}
use Rattle.cert_text.specs.declared.line.Subject.{Subject}
use Rattle.cert_text.specs.declared.line.CertLine.{CertLine}
use Rattle.cert_text.specs.Logs.{Told}
use Rattle.cert_rules.specs.ClaimLists.{subject_problem, subject_fault, Claim, Block}
use Rattle.cert_rules.specs.Writing.{IsClosedNeed}
use Rattle.search_log.specs.declared.fault.StepFault.{StepFault}
use Rattle.split_search.specs.declared.choice.Choice.{Choice}
use Rattle.split_search.specs.declared.choice.Choice.TheVariants.{Met, Refuted}
use Rattle.split_search.specs.Claiming.{ClaimsBegin, ToldClaims}

-- a problem is that of a subject
pub record IsProblemOf (p : Problem) (subject : Subject) (q : Problem) : Type 0 where
  pub named : subject_fault p subject ≡ None
  pub problem : subject_problem p subject ≡ q

-- the clause with an id is live, and leaves the need with a number, which the problem of a subject forces, no point
pub record IsClosedSubject (p : Problem) (subject : Subject) (state : State) (need clause : ℕ) : Type 0 where
  pub named : subject_fault p subject ≡ None
  pub closed : IsClosedNeed (subject_problem p subject) state [] need clause

-- a claim is made, with no tree open
abbrev pub claimed : Subject → Bool → List Claim
claimed subject holds = record { subject = subject; holds = holds } ∷ []

-- the claim that an answer makes
abbrev pub settled : Subject → Choice → List Claim
settled subject (Met f) = claimed subject true
settled subject Refuted = claimed subject false

-- a list of claims is told that keeps up with an asker, with some tree open or none, and with some claims
pub record AreClaimsTold (p : Problem) (told : Told) (asker : AskerState) : Type 0 where
  pub block : Option Block
  pub claims : List Claim
  pub told_claims : ToldClaims p told asker.solver.waiting asker.solver.state block claims

-- and more claims are made, with no tree open
pub record AreClaimsMade (p : Problem) (IsMade : List Claim → Type 0) (claims : List Claim) (told : Told) (asker : AskerState) : Type 0 where
  pub more : List Claim
  pub made : IsMade more
  pub told_claims : ToldClaims p told asker.solver.waiting asker.solver.state None (claims ++ more)

-- told lines that are a list of claims and keep up with an asker, with no tree open, have some fact later
abbrev pub FromClaims : Problem → Told → AskerState → (List Claim → Type 0) → Type 0
FromClaims p old one Later =
    (lines : List CertLine) (claims : List Claim) → old ≡ Some lines → ClaimsBegin p one.solver.waiting one.solver.state None claims lines → Later claims

-- they are such a list later too: after Ok with more claims, such as the value makes, and no tree open
abbrev pub KeepsClaims : {T : Type 0} → Problem → Result T StepFault → (T → List Claim → Type 0) → Told → Told → AskerState → AskerState → Type 0
KeepsClaims p (Ok value) IsMade old new one other = FromClaims p old one (λ claims. AreClaimsMade p (IsMade value) claims new other)
KeepsClaims p (Err fault) IsMade old new one other = FromClaims p old one (λ claims. AreClaimsTold p new other)
