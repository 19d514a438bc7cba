-- What may be asked of a slot.
use Rattle.std.specs.Prelude.{◌≡◌, ◌<◌, ◌≤◌, length}
use Rattle.world_model.specs.Problem.{Problem, pair_count}
use Rattle.desk_run.specs.declared.script.requests.Act.{Act}
use Rattle.desk_run.specs.declared.script.requests.Act.TheVariants.{Open, Keep, Narrow, Next, Close}
use Rattle.desk_run.specs.declared.script.requests.DeskRequest.{DeskRequest}

-- there is a flag for each articulation, and the pair is one of the problem
abbrev pub IsAct : Problem → Act → Type 0
IsAct p Open = Unit {0}
IsAct p (Keep flags) = length flags ≡ length p.articulations
IsAct p (Narrow pair set) = pair < pair_count p
IsAct p Next = Unit {0}
IsAct p Close = Unit {0}

-- a request to one of the sixteen slots, whose act fits the problem
pub record IsRequest (p : Problem) (request : DeskRequest) : Type 0 where
  pub first : 1 ≤ request.slot
  pub last : request.slot ≤ 16
  pub act : IsAct p request.act
