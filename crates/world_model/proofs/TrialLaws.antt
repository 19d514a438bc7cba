-- Trial is right, and so whether some family meets a problem is decided.
use Rattle.std.proofs.Common.{◌≡◌, false, ◌⊎◌, inl, inr, List, [], ◌∷◌, refl, IsTrue}
use Rattle.std.specs.Prelude.{Option, None}
use Rattle.rcc5_core.specs.declared.Rel.{Rel}
use Rattle.world_model.specs.Problem.{Problem, is_problem}
use Rattle.world_model.specs.Family.{table_of, IsPossibleWorld}
use Rattle.world_model.specs.Listing.{is_below}
use Rattle.world_model.specs.Questions.{IsMet}
use Rattle.world_model.specs.Trial.{nodes_between, worlds_between}
use Rattle.world_model.specs.Laws.{TrialIsRight, OneLeastConflict}
use Rattle.world_model.proofs.Members.{here, none_in}
use Rattle.world_model.proofs.OrderLists.{IsExactly, Between, between_from}
use Rattle.world_model.proofs.OrderListings.{listing, node_list}
use Rattle.world_model.proofs.OrderConflict.{one_least, tight_conflict}
use Rattle.world_model.proofs.TrialPoints.{points-iff, alive_by_trial-iff}
use Rattle.world_model.proofs.TrialNodes.{nodes_between_exactly}
use Rattle.world_model.proofs.TrialWorlds.{worlds_exactly, walk}

-- no position is below the empty one
above_empty : (t : List Rel) → is_below t [] ≡ false
above_empty [] = refl
above_empty (r ∷ t) = refl

worlds_right : (p : Problem) → IsTrue (is_problem p) → (from : List Rel) (to : Option (List Rel)) →
    IsExactly (Between (IsPossibleWorld p) from to) (worlds_between p from to)
worlds_right p h from to = worlds_exactly p h from to (nodes_between p from to) (nodes_between_exactly p from to)

pub trial_is_right_law : TrialIsRight
trial_is_right_law = record {
  points = points-iff;
  alive = alive_by_trial-iff;
  nodes = λ p from to. node_list p from to (nodes_between p from to) (nodes_between_exactly p from to);
  worlds = λ p h from to. listing p from to (worlds_between p from to) (worlds_right p h from to);
  cut = λ p h from nodes worlds.
      walk p h from nodes worlds [] (nodes_between p from None) 0 0 refl refl (nodes_between_exactly p from None) (λ other i. elim i [ ]);
}

-- whether some family meets a problem is decided by whether it has a world
pub met_by : (p : Problem) (worlds : List (List Rel)) → IsExactly (Between (IsPossibleWorld p) [] None) worlds → IsMet p ⊎ (IsMet p → ⊥)
met_by p [] all = inr (λ m. none_in (all.complete (table_of p m.0) ((m.0, m.1, refl), between_from [] None (table_of p m.0) (above_empty (table_of p m.0)) refl)))
met_by p (t ∷ worlds) all = let w = (all.sound t (here refl)).0 in inl (w.0, w.1)

pub one_least_conflict_law : OneLeastConflict
one_least_conflict_law = record {
  one = one_least;
  tight = tight_conflict (λ p h. met_by p (worlds_between p [] None) (worlds_right p h [] None));
}
