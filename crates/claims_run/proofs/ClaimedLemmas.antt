-- What is claimed of an answer, and that it is told whole.
use Rattle.std.proofs.Common.{◌≡◌, Bool, List, [], ◌∷◌, ◌++◌, map, Some, None, Result, Ok, Err, refl, sym, ap₂, subst}
use Rattle.std.specs.Prelude.{IfOk}
use Rattle.std.specs.Result.{IsErrAnd}
use Rattle.world_model.specs.Problem.{Problem}
use Rattle.point_query.specs.Asking.{AskerState, IsNewAsker}
use Rattle.cert_text.specs.declared.line.CertLine.{CertLine}
use Rattle.cert_text.specs.declared.line.CertLine.TheVariants.{Claims, Proof, Done}
use Rattle.cert_text.specs.Logs.{Told, IsToldWith}
use Rattle.cert_rules.specs.ClaimLists.{Claim}
use Rattle.cert_rules.proofs.ClaimWriting.{claims_put_keep_up_law}
use Rattle.search_log.specs.declared.fault.StepFault.{StepFault}
use Rattle.search_log.specs.Logging.{AddsLines, AreToldWith, IsFlushed, IsSameButLines}
use Rattle.split_search.specs.Claiming.{ClaimsBegin, ToldClaims}
use Rattle.pick_search.specs.Blocks.Blocks.{AreClaimsTold, AreClaimsMade, FromClaims, KeepsClaims}
use Rattle.pick_search.proofs.blocks.Joins.{told_then, keeps_join, keeps_err}
use Rattle.pick_search.proofs.blocks.Steps.{leads_flushed}
use Rattle.mir_report.specs.declared.possible.MirSets.{MirSets}
use Rattle.mir_report.specs.Possible.{claims_from, whole_claim}
use Rattle.claims_run.specs.declared.question.Answer.{Answer}
use Rattle.claims_run.specs.declared.question.Answer.TheVariants.{Possible}
use Rattle.claims_run.specs.Answering.{IsClaimed}
use Rattle.claims_run.specs.Certifying.{AreAllTold, IsToldWhole}

-- the relations, and then whether there is a world: after both, and where the second step fails
pub possible_made : (p : Problem) (mir : MirSets) (some : Bool) (a b c : Told) (one two three : AskerState) → AddsLines a b →
    FromClaims p a one (λ claims. AreClaimsMade p (λ claims. claims ≡ claims_from p 0 mir.sets.items) claims b two) →
    FromClaims p b two (λ claims. AreClaimsMade p (λ claims. claims ≡ whole_claim p mir.sets.items some) claims c three) → KeepsClaims p (Ok (Possible mir some)) (IsClaimed p) a c one three
possible_made p mir some a b c one two three adds first second =
    keeps_join (Ok some) p (λ claims. claims ≡ claims_from p 0 mir.sets.items) (λ some claims. claims ≡ whole_claim p mir.sets.items some) (λ some. IsClaimed p (Possible mir some)) a b c one two three adds
    (λ some first second is rest. ap₂ (λ (xs ys : List Claim). xs ++ ys) is rest) first second

pub possible_failed : (e : StepFault) (r : Result Answer StepFault) (p : Problem) (mir : MirSets) (a b c : Told) (one two three : AskerState) → IsErrAnd r (λ f. f ≡ e) → AddsLines a b →
    FromClaims p a one (λ claims. AreClaimsMade p (λ claims. claims ≡ claims_from p 0 mir.sets.items) claims b two) →
    FromClaims p b two (λ claims. AreClaimsTold p c three) → KeepsClaims p r (IsClaimed p) a c one three
possible_failed e r p mir a b c one two three is adds first second =
    keeps_err (λ f. f ≡ e) r p (IsClaimed p) a c one three is
    (keeps_join {T = Bool} (Err e) p (λ claims. claims ≡ claims_from p 0 mir.sets.items) (λ some claims. claims ≡ whole_claim p mir.sets.items some) (λ some. IsClaimed p (Possible mir some)) a b c one two three adds
    (λ some first second is rest. ap₂ (λ (xs ys : List Claim). xs ++ ys) is rest) first second)

-- the first line begins a list of claims with a new asker
begun : (p : Problem) (asker : AskerState) → IsNewAsker p asker → ClaimsBegin p asker.solver.waiting asker.solver.state None [] (Claims p.switches ∷ [])
begun p asker new = subst (λ waiting. ClaimsBegin p waiting asker.solver.state None [] (Claims p.switches ∷ [])) (sym new.none_waits)
    (record { lines = []; begins = refl; keeps_up = claims_put_keep_up_law.begins p asker.solver.state new.first; alive = tt })

-- the lines that wait and `done`, behind claims that were made
ended : {T : Type 0} (v : T) (p : Problem) (IsMade : List Claim → Type 0) (three four five : Told) (other last : AskerState) (lines : List CertLine) (claims : List Claim) → IsMade claims → three ≡ Some lines →
    ClaimsBegin p other.solver.waiting other.solver.state None claims lines → IsSameButLines other last → IsFlushed (Ok v) three four other last → IsToldWith four Done five →
    AreAllTold p IsMade five
ended v p IsMade three four five other last lines claims made at k same flushed done =
    let all = lines ++ map Proof other.solver.waiting in
    let told : four ≡ Some all = subst (λ old. AreToldWith old (map Proof other.solver.waiting) four) at flushed.ok.told in
    let begins : ClaimsBegin p last.solver.waiting last.solver.state None claims all =
    subst (λ told. ToldClaims p told last.solver.waiting last.solver.state None claims) told (leads_flushed (Ok v) p three four other last None claims same flushed lines at k) in
    record {
      lines = all;
      state = last.solver.state;
      claims = claims;
      made = made;
      are = subst (λ told. IsToldWith told Done five) told done;
      begins = subst (λ waiting. ClaimsBegin p waiting last.solver.state None claims all) flushed.ok.none_waits begins;
    }

-- behind the first line, an answer's claims, the lines that wait and `done` are a whole list of claims
pub told_rest : {T : Type 0} (v : T) (p : Problem) (IsMade : List Claim → Type 0) (two three four five : Told) (one other last : AskerState) → IsNewAsker p one →
    AddsLines two three → FromClaims p two one (λ claims. AreClaimsMade p IsMade claims three other) → IsSameButLines other last → IsFlushed (Ok v) three four other last →
    IsToldWith four Done five → two ≡ Some (Claims p.switches ∷ []) → AreAllTold p IsMade five
told_rest v p IsMade two three four five one other last new adds answered same flushed done headed =
    let made = answered (Claims p.switches ∷ []) [] headed (begun p one new) in
    told_then (ClaimsBegin p other.solver.waiting other.solver.state None made.more) (AreAllTold p IsMade five) two three (Claims p.switches ∷ []) headed adds made.told_claims
    (λ lines at k. ended v p IsMade three four five other last lines made.more made.made at k same flushed done)

-- and so they are where the first line is put and no line was told before
pub told_whole : (r : Result Answer StepFault) (p : Problem) (first two three : Told) → IsToldWith first (Claims p.switches) two →
    IfOk r (λ answer. two ≡ Some (Claims p.switches ∷ []) → AreAllTold p (IsClaimed p answer) three) → IfOk r (λ answer. IsToldWhole p (IsClaimed p answer) first three)
told_whole (Ok answer) p first two three begin rest = λ empty. rest (subst (λ told. IsToldWith told (Claims p.switches) two) empty begin)
told_whole (Err fault) p first two three begin rest = tt

-- nothing is owed of an answer at a fault
pub none_at_fault : (r : Result Answer StepFault) (e : StepFault) (P : Answer → Type 0) → IsErrAnd r (λ f. f ≡ e) → IfOk r P
none_at_fault (Ok answer) e P is = absurd is
none_at_fault (Err fault) e P is = tt
