-- What is claimed over the steps of a pass.
use Rattle.std.proofs.Common.{◌≡◌, ℕ, ◌+◌, ◌<◌, Bool, true, false, List, [], ◌∷◌, ◌++◌, inl, inr, map, length, take, get_or, set, Option, Some, None, Result, Ok, Err, Contains, All, sym, ap, ◌∙◌, subst, arith, eq-eqb, refl}
use Rattle.std.specs.Prelude.{if◌then◌else◌}
use Rattle.std.specs.Result.{IsErrAnd}
use Rattle.std.proofs.lemmas.List.{map_more}
use Rattle.std.proofs.lemmas.List.Elements.{All-cons, All-weaker, All-contains_itself, Contains-append_left, Contains-append_right}
use Rattle.world_model.specs.Problem.{Problem, restricted}
use Rattle.world_model.specs.Questions.{HasFlags}
use Rattle.point_query.specs.Asking.{AskerState}
use Rattle.cert_text.specs.declared.line.Subject.TheVariants.{Kept}
use Rattle.cert_text.specs.Logs.{Told}
use Rattle.cert_rules.specs.declared.RejectKind.{RejectKind}
use Rattle.cert_rules.specs.declared.RejectKind.TheVariants.{WrongSubject}
use Rattle.cert_rules.specs.ClaimLists.{Claim}
use Rattle.search_log.specs.declared.fault.StepFault.{StepFault}
use Rattle.search_log.specs.declared.fault.StepFault.TheVariants.{NoMemory}
use Rattle.search_log.specs.Logging.{AddsLines}
use Rattle.search_log.proofs.Logs.{asker_stays}
use Rattle.split_search.specs.declared.choice.Choice.{Choice}
use Rattle.split_search.specs.declared.choice.Choice.TheVariants.{Refuted}
use Rattle.pick_search.specs.Blocks.Blocks.{IsProblemOf, claimed, settled, AreClaimsTold, AreClaimsMade, FromClaims, KeepsClaims}
use Rattle.pick_search.proofs.blocks.Joins.{keeps_join, keeps_made, keeps_err, nothing_told}
use Rattle.conflict_min.specs.Conflicts.{loss_claims, conflict_claims}
use Rattle.conflict_min.specs.Shrinking.{IsDropped}

-- a flag for each articulation makes a subject, with the problem where just these are kept
pub kept_subject : (p q : Problem) (flags kept : List Bool) → HasFlags p kept → flags ≡ kept → q ≡ restricted p kept → IsProblemOf p (Kept flags) q
kept_subject p q flags kept has same is = record {
  named = ap {B = Option RejectKind} (λ as_many. if as_many then None else Some WrongSubject) (eq-eqb (length flags) (length p.articulations) (ap length same ∙ has));
  problem = ap (restricted p) same ∙ sym is;
}

-- claims are told still at a fault before anything was done
pub untouched : {T : Type 0} (Q : StepFault → Type 0) (r : Result T StepFault) (p : Problem) (IsMade : T → List Claim → Type 0) (told : Told) (one : AskerState) → IsErrAnd r Q →
    KeepsClaims p r IsMade told told one one
untouched Q r p IsMade told one fault = keeps_err Q r p IsMade told told one one fault (nothing_told p told one one (asker_stays one))

-- claims that were made are so by a wider word
pub made_wider : (p : Problem) (IsOne IsTwo : List Claim → Type 0) (old new : Told) (one other : AskerState) → ((more : List Claim) → IsOne more → IsTwo more) →
    FromClaims p old one (λ claims. AreClaimsMade p IsOne claims new other) → FromClaims p old one (λ claims. AreClaimsMade p IsTwo claims new other)
made_wider p IsOne IsTwo old new one other wider first = keeps_made {T = Unit {0}} (Ok tt) p (λ _. IsOne) (λ _. IsTwo) old new one other (λ _. wider) first

-- they are told, whatever comes of the next step
pub made_told : (p : Problem) (IsMade : List Claim → Type 0) (old new : Told) (one other : AskerState) → FromClaims p old one (λ claims. AreClaimsMade p IsMade claims new other) →
    FromClaims p old one (λ claims. AreClaimsTold p new other)
made_told p IsMade old new one other first = λ lines claims is k.
    let made = first lines claims is k in record { block = None; claims = claims ++ made.more; told_claims = made.told_claims }

-- and they are so over two steps, also where the second fails
pub made_joins : (p : Problem) (IsOne IsTwo IsBoth : List Claim → Type 0) (a b c : Told) (one two three : AskerState) → AddsLines a b →
    ((first second : List Claim) → IsOne first → IsTwo second → IsBoth (first ++ second)) → FromClaims p a one (λ claims. AreClaimsMade p IsOne claims b two) →
    FromClaims p b two (λ claims. AreClaimsMade p IsTwo claims c three) → FromClaims p a one (λ claims. AreClaimsMade p IsBoth claims c three)
made_joins p IsOne IsTwo IsBoth a b c one two three adds both first second =
    keeps_join {T = Unit {0}} (Ok tt) p IsOne (λ _. IsTwo) (λ _. IsBoth) a b c one two three adds (λ _. both) first second

pub told_joins : (p : Problem) (IsOne : List Claim → Type 0) (a b c : Told) (one two three : AskerState) → AddsLines a b →
    FromClaims p a one (λ claims. AreClaimsMade p IsOne claims b two) → FromClaims p b two (λ claims. AreClaimsTold p c three) → FromClaims p a one (λ claims. AreClaimsTold p c three)
told_joins p IsOne a b c one two three adds first second =
    keeps_join {T = Unit {0}} (Err NoMemory) p IsOne (λ _ more. more ≡ more) (λ _ more. more ≡ more) a b c one two three adds (λ _ first second _ _. refl) first second

-- that the articulations with these flags don't hold together
abbrev pub fails : List Bool → Claim
fails kept = record { subject = Kept kept; holds = false }

-- what comes of trying without an articulation
pub refuted_dropped : (p : Problem) (old tried kept : List Bool) (choice : Choice) (a b : Told) (one two : AskerState) → tried ≡ kept → choice ≡ Refuted →
    FromClaims p a one (λ claims. AreClaimsMade p (λ more. more ≡ settled (Kept tried) choice) claims b two) → FromClaims p a one (λ claims. AreClaimsMade p (IsDropped old kept) claims b two)
refuted_dropped p old tried kept choice a b one two same is first =
    made_wider p (λ more. more ≡ settled (Kept tried) choice) (IsDropped old kept) a b one two
    (λ more made. inr (subst (λ claims. Contains claims (fails kept)) (sym (made ∙ ap (settled (Kept tried)) is ∙ ap (λ flags. claimed (Kept flags) false) same)) (fails_claimed kept))) first
  where
    fails_claimed : (kept : List Bool) → Contains (claimed (Kept kept) false) (fails kept)
    fails_claimed kept = All-contains_itself (claimed (Kept kept) false) 0 (fails kept) (omega arith)

pub kept_undropped : (p : Problem) (old kept : List Bool) (IsMade : List Claim → Type 0) (a b : Told) (one two : AskerState) → kept ≡ old →
    FromClaims p a one (λ claims. AreClaimsMade p IsMade claims b two) → FromClaims p a one (λ claims. AreClaimsMade p (IsDropped old kept) claims b two)
kept_undropped p old kept IsMade a b one two same first = made_wider p IsMade (IsDropped old kept) a b one two (λ more made. inl same) first

-- two articulations dropped one after the other
pub dropped_joins : (a b c : List Bool) (one two : List Claim) → IsDropped a b one → IsDropped b c two → IsDropped a c (one ++ two)
dropped_joins a b c one two (inl first) (inl second) = inl (second ∙ first)
dropped_joins a b c one two (inr first) (inl second) = inr (Contains-append_left one two (fails c) (subst (λ flags. Contains one (fails flags)) (sym second) first))
dropped_joins a b c one two first (inr second) = inr (Contains-append_right one two (fails c) second)

-- all were claimed to fail, and then some were dropped
dropped_claimed : (all kept : List Bool) (one two : List Claim) → one ≡ claimed (Kept all) false → IsDropped all kept two → Contains (one ++ two) (fails kept)
dropped_claimed all kept one two is (inl same) =
    Contains-append_left one two (fails kept)
    (subst (λ claims. Contains claims (fails kept)) (sym is) (subst (λ flags. Contains (claimed (Kept all) false) (fails flags)) (sym same) (All-contains_itself (claimed (Kept all) false) 0 (fails all) (omega arith))))
dropped_claimed all kept one two is (inr claim) = Contains-append_right one two (fails kept) claim

pub shrunk_claimed : (p : Problem) (all flags kept : List Bool) (choice : Choice) (a b c : Told) (one two three : AskerState) → AddsLines a b → flags ≡ all → choice ≡ Refuted →
    FromClaims p a one (λ claims. AreClaimsMade p (λ more. more ≡ settled (Kept flags) choice) claims b two) → FromClaims p b two (λ claims. AreClaimsMade p (IsDropped all kept) claims c three) →
    FromClaims p a one (λ claims. AreClaimsMade p (λ more. Contains more (fails kept)) claims c three)
shrunk_claimed p all flags kept choice a b c one two three adds same is first second =
    made_joins p (λ more. more ≡ settled (Kept flags) choice) (IsDropped all kept) (λ more. Contains more (fails kept)) a b c one two three adds
    (λ first second made. dropped_claimed all kept first second (made ∙ ap (settled (Kept flags)) is ∙ ap (λ flags. claimed (Kept flags) false) same)) first second

-- and then the losses were claimed
pub conflict_claimed : (kept : List Bool) (one two : List Claim) → Contains one (fails kept) → two ≡ loss_claims kept → All (Contains (one ++ two)) (conflict_claims kept)
conflict_claimed kept one two claim is =
    All-cons (Contains (one ++ two)) (fails kept) (loss_claims kept) (Contains-append_left one two (fails kept) claim)
    (subst (All (Contains (one ++ two))) is (All-weaker (Contains two) (Contains (one ++ two)) (λ claim. Contains-append_right one two claim) two (All-contains_itself two)))

-- just these are claimed
pub conflict_told : (kept : List Bool) (one two : List Claim) → one ≡ claimed (Kept kept) false → two ≡ loss_claims kept → All (Contains (one ++ two)) (conflict_claims kept)
conflict_told kept one two first second =
    subst (λ claims. All (Contains claims) (conflict_claims kept)) (sym (ap (λ claims. claims ++ two) first ∙ ap (λ claims. claimed (Kept kept) false ++ claims) second))
    (All-contains_itself (conflict_claims kept))

-- that they hold together without the one at a place
abbrev pub loss : List Bool → ℕ → Claim
loss kept place = record { subject = Kept (set kept place false); holds = true }

-- one more loss
pub losses_more : (kept : List Bool) (places : List ℕ) (nth place : ℕ) (one two : List Claim) → nth < length places → place ≡ get_or places nth place →
    one ≡ map (loss kept) (take nth places) → two ≡ claimed (Kept (set kept place false)) true → one ++ two ≡ map (loss kept) (take (nth + 1) places)
losses_more kept places nth place one two low is first second =
    ap (λ claims. claims ++ two) first
    ∙ ap (λ claims. map (loss kept) (take nth places) ++ claims) (second ∙ ap (λ place. loss kept place ∷ []) is)
    ∙ sym (map_more (loss kept) places nth place low)
