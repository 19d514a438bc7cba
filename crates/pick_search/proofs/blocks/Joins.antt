-- What is told of whole claims, over one step and over two.
use Rattle.std.proofs.Common.{◌≡◌, List, [], ◌++◌, Option, Some, None, Result, Ok, Err, sym, ◌∙◌, subst, append_assoc, refl, append-nil}
use Rattle.std.specs.Prelude.{IfOk, IfSome}
use Rattle.std.specs.Result.{IsErrAnd}
use Rattle.world_model.specs.Problem.{Problem}
use Rattle.point_query.specs.Asking.{AskerState, AskerGoes}
use Rattle.cert_text.specs.declared.line.CertLine.{CertLine}
use Rattle.cert_text.specs.Logs.{Told}
use Rattle.cert_rules.specs.ClaimLists.{Claim, Block}
use Rattle.cert_rules.proofs.ClaimWriting.{claims_put_keep_up_law}
use Rattle.search_log.specs.declared.fault.StepFault.{StepFault}
use Rattle.search_log.specs.Logging.{AddsLines}
use Rattle.split_search.specs.Claiming.{ClaimsBegin, ToldClaims}
use Rattle.pick_search.specs.Blocks.Blocks.{AreClaimsTold, AreClaimsMade, FromClaims, KeepsClaims}

-- what is so of told lines is so of them after a call that adds lines, and leads to what is so after another
pub told_then : (P : List CertLine → Type 0) (C : Type 0) (a b : Told) (lines : List CertLine) → a ≡ Some lines → AddsLines a b → IfSome b P →
    ((lines : List CertLine) → b ≡ Some lines → P lines → C) → C
told_then P C a b lines is adds first second =
    let added : AddsLines (Some lines) b = subst (λ a. AddsLines a b) is adds in
    second (lines ++ added.0) added.1 (subst (λ told. IfSome told P) added.1 first)

-- more claims behind those of a first step
made_behind : (p : Problem) (IsOne IsTwo IsBoth : List Claim → Type 0) (claims first : List Claim) (told : Told) (asker : AskerState) → IsOne first →
    ((first second : List Claim) → IsOne first → IsTwo second → IsBoth (first ++ second)) → AreClaimsMade p IsTwo (claims ++ first) told asker → AreClaimsMade p IsBoth claims told asker
made_behind p IsOne IsTwo IsBoth claims first told asker one both two = record {
  more = first ++ two.more;
  made = both first two.more one two.made;
  told_claims = subst (ToldClaims p told asker.solver.waiting asker.solver.state None) (append_assoc claims first two.more) two.told_claims;
}

-- a step that ended well, and then another: what both made is made
pub keeps_join : {T : Type 0} (r : Result T StepFault) (p : Problem) (IsOne : List Claim → Type 0) (IsTwo IsBoth : T → List Claim → Type 0) (a b c : Told) (one two three : AskerState) → AddsLines a b →
    ((value : T) (first second : List Claim) → IsOne first → IsTwo value second → IsBoth value (first ++ second)) → FromClaims p a one (λ claims. AreClaimsMade p IsOne claims b two) →
    KeepsClaims p r IsTwo b c two three → KeepsClaims p r IsBoth a c one three
keeps_join (Ok value) p IsOne IsTwo IsBoth a b c one two three adds both first second = λ lines claims is k.
    let made = first lines claims is k in
    told_then (ClaimsBegin p two.solver.waiting two.solver.state None (claims ++ made.more)) (AreClaimsMade p (IsBoth value) claims c three) a b lines is adds made.told_claims
    (λ later at begins. made_behind p IsOne (IsTwo value) (IsBoth value) claims made.more c three made.made (both value) (second later (claims ++ made.more) at begins))
keeps_join (Err fault) p IsOne IsTwo IsBoth a b c one two three adds both first second = λ lines claims is k.
    let made = first lines claims is k in
    told_then (ClaimsBegin p two.solver.waiting two.solver.state None (claims ++ made.more)) (AreClaimsTold p c three) a b lines is adds made.told_claims
    (λ later at begins. second later (claims ++ made.more) at begins)

-- what a value makes is made by a wider word
pub keeps_made : {T : Type 0} (r : Result T StepFault) (p : Problem) (IsMade IsOther : T → List Claim → Type 0) (old new : Told) (one other : AskerState) →
    ((value : T) (more : List Claim) → IsMade value more → IsOther value more) → KeepsClaims p r IsMade old new one other → KeepsClaims p r IsOther old new one other
keeps_made (Ok value) p IsMade IsOther old new one other wider first = λ lines claims is k.
    let made = first lines claims is k in record { more = made.more; made = wider value made.more made.made; told_claims = made.told_claims }
keeps_made (Err fault) p IsMade IsOther old new one other wider first = first

-- a fault, as an answer of another type
pub keeps_err : {T : Type 0} (Q : StepFault → Type 0) (r : Result T StepFault) (p : Problem) (IsMade : T → List Claim → Type 0) (old new : Told) (one other : AskerState) → IsErrAnd r Q →
    FromClaims p old one (λ claims. AreClaimsTold p new other) → KeepsClaims p r IsMade old new one other
keeps_err Q (Ok value) p IsMade old new one other h first = absurd h
keeps_err Q (Err fault) p IsMade old new one other h first = first

-- claims that are made are told, where a fault comes after them
pub made_told : (p : Problem) (IsMade : List Claim → Type 0) (old new : Told) (one other : AskerState) → FromClaims p old one (λ claims. AreClaimsMade p IsMade claims new other) →
    FromClaims p old one (λ claims. AreClaimsTold p new other)
made_told p IsMade old new one other first lines claims is k =
    let made = first lines claims is k in record { block = None; claims = claims ++ made.more; told_claims = made.told_claims }

-- the beginning of a list of claims, with further lines that wait
begins_goes : (p : Problem) (one other : AskerState) (block : Option Block) (claims : List Claim) (told : List CertLine) → AskerGoes one other →
    ClaimsBegin p one.solver.waiting one.solver.state block claims told → ClaimsBegin p other.solver.waiting other.solver.state block claims told
begins_goes p one other block claims told goes k =
    subst (λ waiting. ClaimsBegin p waiting other.solver.state block claims told) (sym goes.solver.waits)
    (record {
      lines = k.lines;
      begins = k.begins;
      keeps_up = claims_put_keep_up_law.goes p k.lines one.solver.waiting goes.solver.added one.solver.state other.solver.state block claims k.keeps_up goes.solver.leads.valid goes.solver.leads.after;
      alive = k.alive;
    })

-- claims that are told still, where none was made, after Ok and after a fault
stays_made : (p : Problem) (IsMade : List Claim → Type 0) (claims : List Claim) (told : Told) (asker : AskerState) → IsMade [] →
    ToldClaims p told asker.solver.waiting asker.solver.state None claims → AreClaimsMade p IsMade claims told asker
stays_made p IsMade claims told asker none still = record {
  more = [];
  made = none;
  told_claims = subst (ToldClaims p told asker.solver.waiting asker.solver.state None) (sym (append-nil claims)) still;
}

stays_told : (p : Problem) (claims : List Claim) (told : Told) (asker : AskerState) → ToldClaims p told asker.solver.waiting asker.solver.state None claims → AreClaimsTold p told asker
stays_told p claims told asker still = record { block = None; claims = claims; told_claims = still }

still_claims : (p : Problem) (old new : Told) (one : AskerState) (lines : List CertLine) (claims : List Claim) → new ≡ old → old ≡ Some lines →
    ClaimsBegin p one.solver.waiting one.solver.state None claims lines → ToldClaims p new one.solver.waiting one.solver.state None claims
still_claims p old new one lines claims same is k = subst (λ told. ToldClaims p told one.solver.waiting one.solver.state None claims) (sym (same ∙ is)) k

-- nothing was told, and no line waits that did not
pub keeps_nothing : {T : Type 0} (r : Result T StepFault) (p : Problem) (IsMade : T → List Claim → Type 0) (old new : Told) (one : AskerState) → IfOk r (λ value. IsMade value []) → new ≡ old →
    KeepsClaims p r IsMade old new one one
keeps_nothing (Ok value) p IsMade old new one none same = λ lines claims is k. stays_made p (IsMade value) claims new one none (still_claims p old new one lines claims same is k)
keeps_nothing (Err fault) p IsMade old new one none same = λ lines claims is k. stays_told p claims new one (still_claims p old new one lines claims same is k)

-- nothing was told, by an asker that went on
pub keeps_step : {T : Type 0} (r : Result T StepFault) (p : Problem) (IsMade : T → List Claim → Type 0) (told : Told) (one other : AskerState) → IfOk r (λ value. IsMade value []) → AskerGoes one other →
    KeepsClaims p r IsMade told told one other
keeps_step (Ok value) p IsMade told one other none goes = λ lines claims is k.
    stays_made p (IsMade value) claims told other none (still_claims p told told other lines claims refl is (begins_goes p one other None claims lines goes k))
keeps_step (Err fault) p IsMade told one other none goes = λ lines claims is k.
    stays_told p claims told other (still_claims p told told other lines claims refl is (begins_goes p one other None claims lines goes k))

-- where no line is told and the asker goes on, the claims are told still
pub nothing_told : (p : Problem) (told : Told) (one other : AskerState) → AskerGoes one other → FromClaims p told one (λ claims. AreClaimsTold p told other)
nothing_told p told one other goes lines claims is k =
    stays_told p claims told other (still_claims p told told other lines claims refl is (begins_goes p one other None claims lines goes k))

-- an asker that went on, and then a step
pub keeps_after : {T : Type 0} (r : Result T StepFault) (p : Problem) (IsMade : T → List Claim → Type 0) (old new : Told) (one two three : AskerState) → AskerGoes one two →
    KeepsClaims p r IsMade old new two three → KeepsClaims p r IsMade old new one three
keeps_after (Ok value) p IsMade old new one two three goes step = λ lines claims is k. step lines claims is (begins_goes p one two None claims lines goes k)
keeps_after (Err fault) p IsMade old new one two three goes step = λ lines claims is k. step lines claims is (begins_goes p one two None claims lines goes k)

-- where nothing was told before
pub keeps_untold : {T : Type 0} (r : Result T StepFault) (p : Problem) (IsMade : T → List Claim → Type 0) (old new : Told) (one other : AskerState) → old ≡ None → KeepsClaims p r IsMade old new one other
keeps_untold (Ok value) p IsMade old new one other none = λ lines claims is k. let no : None ≡ Some lines = sym none ∙ is in absurd (cc)
keeps_untold (Err fault) p IsMade old new one other none = λ lines claims is k. let no : None ≡ Some lines = sym none ∙ is in absurd (cc)
