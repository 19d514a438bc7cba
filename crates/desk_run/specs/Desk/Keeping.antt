-- What the desk keeps beside what is seen of it.
use Rattle.std.specs.Prelude.{◌≡◌, ℕ, List, Option, None, Some, IfSome, length, slice_index_or}
use Rattle.rcc5_core.specs.declared.Rel.{Rel}
use Rattle.world_model.specs.Problem.{Problem}
use Rattle.world_model.specs.Family.{IsPossibleWorld}
use Rattle.constraint_set.specs.Shape.{SameShape}
use Rattle.world_walk.specs.declared.walk.Walk.{Walk}
use Rattle.world_walk.specs.ToCome.{IsFirstToCome, NoneToCome}
use Rattle.world_walk.specs.Walks.{IsWalk, StandsBehind}
use Rattle.desk_run.specs.Desk.Slots.{OpenSlot, Slot}

-- a walk for a problem that stands behind the last world
pub record IsWalkBehind (p : Problem) (last : Option (List Rel)) (walk : Walk) : Type 0 where
  pub walk_is : IsWalk p walk
  pub behind : StandsBehind p last walk

-- the last world is one, and the walk, if there is one, stands behind it
pub record IsKept (p : Problem) (last : Option (List Rel)) (walk : Option Walk) : Type 0 where
  pub world : IfSome last (IsPossibleWorld p)
  pub walk_is : IfSome walk (IsWalkBehind p last)

-- a slot is closed, or its problem is of the shape of another
abbrev pub HasShape : Problem → Slot → Type 0
HasShape p None = Unit {0}
HasShape p (Some s) = SameShape s.problem p

-- a number for none and for each of sixteen slots, whose problems are of one shape
pub record IsDesk (p : Problem) (slots : List Slot) : Type 0 where
  pub counted : length slots ≡ 17
  pub shapes : (k : ℕ) → HasShape p (slice_index_or slots k None)

-- the next world came, and is the last one now; or none is to come, and the slot stays
abbrev pub IsShown : OpenSlot → OpenSlot → Option (List Rel) → Type 0
IsShown old new None = NoneToCome old.problem old.last × (new ≡ old)
IsShown old new (Some t) = IsFirstToCome old.problem old.last t × (new ≡ record old { last = Some t })
