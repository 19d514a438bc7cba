-- How a talk leaves the slots of a desk apart.
use Rattle.std.specs.Prelude.{◌≡◌, ℕ, None, [], ◌∷◌, ◌++◌}
use Rattle.world_model.specs.Problem.{Problem}
use Rattle.desk_run.specs.declared.script.requests.DeskRequest.{DeskRequest}
use Rattle.desk_run.specs.declared.desk.reply.Reply.{Reply}
use Rattle.desk_run.specs.Desk.Talks.{Talk, of_slot, IsAlone}
use Rattle.desk_run.specs.Desk.Desks.{DeskState, slot_at, all_closed, IsExchange}

-- after a talk, each slot of a desk is where its own requests lead it, taken alone
pub record IsAfter (p : Problem) (talk : Talk) (desk : DeskState) : Type 0 where
  pub problem : desk.problem ≡ p
  pub apart : (k : ℕ) → IsAlone p None (of_slot k talk) (slot_at desk k)

-- so it is of a new desk, after no talk, and after one more request
pub record SlotsStayApart : Type 0 where
  pub at_first : (p : Problem) → IsAfter p [] (all_closed p)
  pub one_more : (p : Problem) (talk : Talk) (old new : DeskState) (request : DeskRequest) (reply : Reply) → IsAfter p talk old → IsExchange old request reply new →
      IsAfter p (talk ++ record { request = request; reply = reply } ∷ []) new
