-- What is told, where an error follows.
use Rattle.std.proofs.Common.{List, Result, Ok, Err}
use Rattle.std.specs.Result.{IsErrAnd}
use Rattle.world_model.specs.Problem.{Problem}
use Rattle.point_query.specs.Asking.{AskerState}
use Rattle.cert_text.specs.Logs.{Told}
use Rattle.cert_rules.specs.ClaimLists.{Claim}
use Rattle.search_log.specs.declared.fault.StepFault.{StepFault}
use Rattle.search_log.specs.Logging.{AddsLines}
use Rattle.search_log.proofs.Logs.{asker_stays}
use Rattle.pick_search.specs.Blocks.Blocks.{KeepsClaims}
use Rattle.pick_search.proofs.blocks.Joins.{keeps_err, keeps_join, made_told, nothing_told}

-- before anything is told
pub err_first : {T : Type 0} (Q : StepFault → Type 0) (r : Result T StepFault) (p : Problem) (IsMade : T → List Claim → Type 0) (told : Told) (one : AskerState) → IsErrAnd r Q → KeepsClaims p r IsMade told told one one
err_first Q r p IsMade told one h = keeps_err Q r p IsMade told told one one h (nothing_told p told one one (asker_stays one))

-- after calls that ended well
pub err_after : {S T : Type 0} (Q : StepFault → Type 0) (r : Result T StepFault) (v : S) (p : Problem) (IsMade : S → List Claim → Type 0) (IsOther : T → List Claim → Type 0) (old new : Told)
    (one other : AskerState) → IsErrAnd r Q → KeepsClaims p (Ok v) IsMade old new one other → KeepsClaims p r IsOther old new one other
err_after Q r v p IsMade IsOther old new one other h keeps = keeps_err Q r p IsOther old new one other h (made_told p (IsMade v) old new one other keeps)

-- in a call after these
pub err_later : {R S T : Type 0} (Q : StepFault → Type 0) (r : Result T StepFault) (v : R) (fault : StepFault) (p : Problem) (IsMade : R → List Claim → Type 0) (IsTwo : S → List Claim → Type 0)
    (IsOther : T → List Claim → Type 0) (a b c : Told) (one two three : AskerState) → IsErrAnd r Q → AddsLines a b → KeepsClaims p (Ok v) IsMade a b one two →
    KeepsClaims {T = S} p (Err fault) IsTwo b c two three → KeepsClaims p r IsOther a c one three
err_later {R} {S} {T} Q r v fault p IsMade IsTwo IsOther a b c one two three h adds first second =
    keeps_err Q r p IsOther a c one three h (keeps_join {T = S} (Err fault) p (IsMade v) IsTwo (λ _ _. Unit {0}) a b c one two three adds (λ _ _ _ _ _. tt) first second)
