-- The root of a tree, passed as a dead node.
use Rattle.std.proofs.Common.{◌≡◌, ℕ, false, List, [], ◌∷◌, ◌++◌, Some, None, refl, sym, subst}
use Rattle.rcc5_core.specs.declared.RelSet.{RelSet}
use Rattle.lits_core.specs.Derivation.{State}
use Rattle.world_model.specs.Problem.{Problem}
use Rattle.point_query.specs.Asking.{AskerState}
use Rattle.cert_text.specs.declared.line.Subject.{Subject}
use Rattle.cert_text.specs.declared.line.CertLine.TheVariants.{NoPoint}
use Rattle.cert_rules.specs.Order.{onward}
use Rattle.cert_rules.specs.Trees.{sets_of}
use Rattle.cert_rules.specs.Writing.{IsClosedNeed}
use Rattle.cert_rules.specs.ClaimLists.{subject_tree, Claim}
use Rattle.cert_rules.specs.ClaimWriting.{ClaimsKeepUp, TellsWithin, open_at}
use Rattle.cert_rules.proofs.NodeProblems.{children_narrow_law}
use Rattle.cert_rules.proofs.ClaimWriting.{claims_put_keep_up_law}
use Rattle.search_log.specs.Logging.{IsSameButLines}
use Rattle.pick_search.specs.Blocks.Blocks.{IsClosedSubject}
use Rattle.pick_search.specs.Blocks.Steps.{LineLeads}

-- no node comes behind the root
none_behind : (sets : List RelSet) → onward sets [] false [] ≡ None
none_behind [] = refl
none_behind (set ∷ sets) = refl

-- the line of the root, by a need of the subject's problem that has no point
pub root_passed : (p : Problem) (state : State) (subject : Subject) (claims : List Claim) (need clause : ℕ) → IsClosedSubject p subject state need clause →
    LineLeads p state (NoPoint 0 None need clause) (open_at subject (Some [])) claims (open_at subject None) claims
root_passed p state subject claims need clause closed lines k =
    let tree = subject_tree p subject in
    let tells : TellsWithin tree state [] (NoPoint 0 None need clause) = (refl, subst (λ q. IsClosedNeed q state [] need clause) (sym (children_narrow_law.root tree)) closed.closed) in
    subst (λ at. ClaimsKeepUp p (lines ++ NoPoint 0 None need clause ∷ []) [] state (open_at subject at) claims) (none_behind (sets_of tree))
    (claims_put_keep_up_law.node p lines state claims subject [] (NoPoint 0 None need clause) k tells)

-- it has none by an asker with the same clauses
pub closed_alike : (p : Problem) (subject : Subject) (one other : AskerState) (need clause : ℕ) → IsSameButLines one other → IsClosedSubject p subject one.solver.state need clause →
    IsClosedSubject p subject other.solver.state need clause
closed_alike p subject one other need clause same closed = subst (λ state. IsClosedSubject p subject state need clause) (sym same.state) closed
