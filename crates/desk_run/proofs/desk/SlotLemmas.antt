-- What a step of its walk leaves of a slot.
use Rattle.std.proofs.Common.{List}
use Rattle.std.specs.Prelude.{Option, Some, None, IfSome}
use Rattle.rcc5_core.specs.declared.Rel.{Rel}
use Rattle.world_model.specs.Problem.{Problem}
use Rattle.world_model.specs.Family.{IsPossibleWorld}
use Rattle.world_walk.specs.declared.walk.Walk.{Walk}
use Rattle.world_walk.specs.ToCome.{IsFirstToCome, NoneToCome}
use Rattle.world_walk.specs.Walks.{IsWalk, IsNext}
use Rattle.world_walk.proofs.WalkLemmas.{steps_behind, stays_behind}
use Rattle.desk_run.specs.Desk.Keeping.{IsWalkBehind, IsKept}

module _ (p : Problem) (last : Option (List Rel)) (old new : Walk) (behind : IsWalkBehind p last old) (walk : IsWalk p new) where
  pub steps_kept : (t : List Rel) → IsNext p old new (Some t) → IsKept p (Some t) (Some new)
  steps_kept t next =
      let both = steps_behind p last old new t behind.behind next in
      record { world = both.0.comes.world; walk_is = record { walk_is = walk; behind = both.1 } }

  pub steps_shown : (t : List Rel) → IsNext p old new (Some t) → IsFirstToCome p last t
  steps_shown t next = (steps_behind p last old new t behind.behind next).0

  pub stays_kept : IsNext p old new None → IfSome last (IsPossibleWorld p) → IsKept p last (Some new)
  stays_kept next world = record { world = world; walk_is = record { walk_is = walk; behind = (stays_behind p last old new behind.behind next).1 } }

  pub none_shown : IsNext p old new None → NoneToCome p last
  none_shown next = (stays_behind p last old new behind.behind next).0
