-- What the claims of an answer leave in a log and in the file of a certificate.
use Rattle.std.specs.Prelude.{◌≡◌, ℕ, List, [], ◌∷◌, ◌++◌, Option, Some, None, IfSome, IfOk, Result, ⊤}
use Rattle.std.specs.Option.{option_to_list}
use Rattle.outer_store.specs.Contents.{Contents}
use Rattle.outer_store.specs.Faults.{IfFailed}
use Rattle.outer_store.specs.declared.fault.StoreFault.{StoreFault}
use Rattle.lits_core.specs.Derivation.{State}
use Rattle.world_model.specs.Problem.{Problem}
use Rattle.cert_text.specs.declared.line.CertLine.{CertLine}
use Rattle.cert_text.specs.declared.line.CertLine.TheVariants.{Done}
use Rattle.cert_text.specs.Logs.{Told}
use Rattle.cert_rules.specs.ClaimLists.{Claim}
use Rattle.split_search.specs.Claiming.{ClaimsBegin}
use Rattle.outer_store.specs.States.{StoreState, IsQuiet}
use Rattle.run_ends.specs.Runs.{HasFailed, AreKeptBut}
use Rattle.claims_run.specs.declared.question.Question.{Question}
use Rattle.claims_run.specs.declared.question.Answer.{Answer}
use Rattle.claims_run.specs.Answering.{IsRight, IsClaimed, IsClaimsCert}

-- a whole list of claims is told, of which some fact is so
pub record AreAllTold (p : Problem) (IsMade : List Claim → Type 0) (told : Told) : Type 0 where
  pub lines : List CertLine
  pub state : State
  pub claims : List Claim
  pub made : IsMade claims
  pub are : told ≡ Some (lines ++ Done ∷ [])
  pub begins : ClaimsBegin p [] state None claims lines

-- it is told where no line was told before
abbrev pub IsToldWhole : Problem → (List Claim → Type 0) → Told → Told → Type 0
IsToldWhole p IsMade first now = first ≡ Some [] → AreAllTold p IsMade now

-- a name that told its bytes tells a certificate of claims
abbrev pub IsCertLeft : Problem → (List Claim → Type 0) → Option (List ℕ) → Contents → Contents → Type 0
IsCertLeft p IsMade None held held' = ⊤
IsCertLeft p IsMade (Some name) held held' = IfSome (held name) (λ _. (bytes : List ℕ) × (held' name ≡ Some bytes) × IsClaimsCert p IsMade bytes)

-- a right answer, and what it leaves in a store, with the name of its certificate, if there is one
pub record IsSettledWith (p : Problem) (asked : Question) (cert : Option (List ℕ)) (result : Result Answer StoreFault) (store store' : StoreState) : Type 0 where
  pub right : IfOk result (IsRight p asked)
  pub left : IfOk result (λ answer. IsCertLeft p (IsClaimed p answer) cert store.held store'.held)
  pub kept : AreKeptBut (option_to_list cert) store.held store'.held
  pub cause : IfFailed result (HasFailed (option_to_list cert) store.writes store'.writes) (IsQuiet store store')
