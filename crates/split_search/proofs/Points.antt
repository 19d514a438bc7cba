-- Points that serve a full node, as a family.
use Rattle.std.proofs.Common.{◌≡◌, ◌^◌, ◌<◌, ◌≤◌, Bool, List, [], length, sym, ap, ◌∙◌, subst}
use Rattle.rcc5_core.specs.declared.Rel.{Rel}
use Rattle.world_model.specs.Problem.{Problem, concepts, concept_count}
use Rattle.world_model.specs.Family.{Family}
use Rattle.world_model.specs.Laws.{WholeSetsAreDecided}
use Rattle.world_model.specs.Alive.{problem_at, family_of}
use Rattle.world_model.proofs.FewPoints.{few_points}
use Rattle.world_model.proofs.PointOnce.{at_empty}
use Rattle.constraint_set.specs.Facts.{IsBuilt}
use Rattle.set_family.proofs.SetLists.{all_places_are_sets}
use Rattle.point_query.specs.Answers.{IsServedByFew}
use Rattle.cert_rules.specs.Trees.{node_problem}
use Rattle.cert_rules.specs.ClaimLists.{split_pairs}
use Rattle.set_family.specs.Meeting.{IsMetBy}
use Rattle.split_search.specs.Walking.{split_tree}
use Rattle.split_search.proofs.Whole.{whole_at_full, met_above}

-- the points of the root of a problem
served_here : (q : Problem) (prefix : List Rel) (points : List (List Bool)) → prefix ≡ [] → IsServedByFew (problem_at q prefix) points → IsServedByFew q points
served_here q prefix points empty served = subst (λ q. IsServedByFew q points) (ap (problem_at q) empty ∙ at_empty q) served

pub few_here : (q : Problem) (prefix : List Rel) (points : List (List Bool)) → concept_count q ≤ 1024 → prefix ≡ [] → IsServedByFew (problem_at q prefix) points → length points < 2 ^ 32
few_here q prefix points small empty served = few_points q points small (served_here q prefix points empty served).few

-- those of a full node are a family that meets the problem
pub family_meets : WholeSetsAreDecided → (q : Problem) (m : List Rel) (node : Problem) (prefix : List Rel) (points : List (List Bool)) (f : Family) → length m ≡ length (split_pairs q) →
    node ≡ node_problem (split_tree q) m → IsBuilt node → prefix ≡ [] → IsServedByFew (problem_at node prefix) points → f ≡ family_of node points → IsMetBy q f
family_meets law q m node prefix points f full is built empty served of =
    let here = served_here node prefix points empty served in
    let there : IsServedByFew (node_problem (split_tree q) m) points = subst (λ node. IsServedByFew node points) is here in
    let valid : IsBuilt (node_problem (split_tree q) m) = subst IsBuilt is built in
    let whole = whole_at_full q m full there.allow in
    subst (IsMetBy q) (sym of) (subst (λ node. IsMetBy q (family_of node points)) (sym is) (record {
      sets = all_places_are_sets points (concepts q);
      met = met_above q m (family_of (node_problem (split_tree q) m) points) (law.served (node_problem (split_tree q) m) valid.valid whole points there.allow there.serve);
    }))
