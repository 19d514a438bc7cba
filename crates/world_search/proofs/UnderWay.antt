-- What keeps a walk under way: at the same place, as the same walk, and from the first node on.
use Rattle.std.proofs.Common.{◌≡◌, List, ◌++◌, sym, ◌∙◌, subst}
use Rattle.std.specs.Prelude.{Option}
use Rattle.std.proofs.lemmas.Bool.{true≢false, not-true}
use Rattle.rcc5_core.specs.declared.Rel.{Rel}
use Rattle.world_model.specs.Problem.{Problem}
use Rattle.world_model.specs.Listing.{is_below}
use Rattle.world_model.specs.Node.{IsNode}
use Rattle.world_search.specs.declared.guide.Guide.{Guide}
use Rattle.world_search.specs.declared.walk.Stage.{Stage}
use Rattle.world_search.specs.declared.walk.Stage.TheVariants.{Start, Standing, Past}
use Rattle.world_search.specs.declared.walk.Walk.{Walk}
use Rattle.world_search.specs.Walking.{place, LeadsBy, IsOnWay, IsStanding, IsPlacedBy, IsPlaced, IsFrom, AreKnown, Knows}
use Rattle.world_search.specs.Guiding.{IsGuideOf, IsUnderWay}
use Rattle.world_search.proofs.Guiding.{guide_further}
use Rattle.world_search.proofs.OpenChildren.{known_longer}
use Rattle.world_search.proofs.Stepping.{standing_at}

-- the node at which a walk stands, where its path is all of its place
pub node_here : (p : Problem) (from : List Rel) (to : Option (List Rel)) (old new : Walk) → old.stage ≡ Standing → new.path ≡ place old → IsPlaced p from to old →
    IsNode p new.path
node_here p from to old new standing settled placed = subst (IsNode p) (sym settled) (standing_at p from to old standing placed).node.0

-- what a walk knows is known with more of its place on the path
pub knows_settled : (p : Problem) (old new : Walk) → new.opens ≡ old.opens → ((rest : List Rel) × (new.path ≡ old.path ++ rest)) → Knows p old → Knows p new
knows_settled p old new same longer knows =
    subst (AreKnown p new.path) (sym same) (known_longer p old.path new.path longer.0 old.opens longer.1 knows)

-- at the same place, with more of it on the path
pub way_settled : (p : Problem) (from : List Rel) (to : Option (List Rel)) (old new : Walk) (g : Guide) → old.stage ≡ Standing → new.stage ≡ old.stage →
    place new ≡ place old → new.opens ≡ old.opens → ((rest : List Rel) × (new.path ≡ old.path ++ rest)) → IsUnderWay p from to old g → IsUnderWay p from to new g
way_settled p from to old new g standing stage same known longer way = record {
  placed = subst (IsPlacedBy p from to new) (sym (stage ∙ standing)) (subst (IsStanding p from to) (sym same) (standing_at p from to old standing way.placed));
  knows = knows_settled p old new known longer way.knows;
  guide = guide_further p old.path new.path longer.0 g longer.1 way.guide;
}

-- a walk stays under way by another guide
pub way_same : (p : Problem) (from : List Rel) (to : Option (List Rel)) (old new : Walk) (one other : Guide) → new ≡ old → IsUnderWay p from to old one →
    IsGuideOf p new.path other → IsUnderWay p from to new other
way_same p from to old new one other same way guide = record {
  placed = subst (IsPlaced p from to) (sym same) way.placed;
  knows = subst (Knows p) (sym same) way.knows;
  guide = guide;
}

-- on the way to the first node, and at it
pub placed_on_way : (p : Problem) (from : List Rel) (to : Option (List Rel)) (w : Walk) → IsOnWay p from w → IsPlaced p from to w
placed_on_way p from to w way = subst (IsPlacedBy p from to w) (sym way.begun) way

pub placed_first : (p : Problem) (from : List Rel) (to : Option (List Rel)) (w : Walk) (stage : Stage) → LeadsBy p (IsFrom from) (place w) stage → IsPlacedBy p from to w stage
placed_first p from to w Start leads = absurd leads
placed_first p from to w Standing leads = record {
  node = (leads.node, leads.kind);
  earlier = λ x node less. absurd (true≢false (sym less ∙ not-true (is_below x (place w)) (leads.least x node.0 node.1)));
}
placed_first p from to w Past leads = λ x node. absurd (leads x node.0 node.1)
