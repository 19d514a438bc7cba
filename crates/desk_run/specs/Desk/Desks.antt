-- What the desk is, and what a request does to it.
use Rattle.std.specs.Prelude.{◌≡◌, ◌≢◌, ℕ, List, None, replicate, slice_index_or}
use Rattle.world_model.specs.Problem.{Problem}
use Rattle.desk_run.specs.declared.script.requests.Act.{Act}
use Rattle.desk_run.specs.declared.script.requests.DeskRequest.{DeskRequest}
use Rattle.desk_run.specs.declared.desk.reply.Reply.{Reply}
use Rattle.desk_run.specs.declared.desk.reply.Reply.TheVariants.{NoMemory}
use Rattle.desk_run.specs.Desk.Slots.{Slot, IsStep}

-- the problem that was read, and the slots by number; 0 is no slot's number
pub record DeskState : Type 0 where
  pub problem : Problem
  pub slots : List Slot

-- the slot with a number
abbrev pub slot_at : DeskState → ℕ → Slot
slot_at desk k = slice_index_or desk.slots k None

-- a desk whose slots are closed
abbrev pub all_closed : Problem → DeskState
all_closed p = record { problem = p; slots = replicate 17 None }

-- an answer: a step, or after want of memory the slot as before
pub record IsAnswer (p : Problem) (old : Slot) (act : Act) (reply : Reply) (new : Slot) : Type 0 where
  pub step : reply ≢ NoMemory → IsStep p old act reply new
  pub starved : reply ≡ NoMemory → new ≡ old

-- a request and its reply: a step of the slot that is named, and of no other; after want of memory all is as before
pub record IsExchange (old : DeskState) (request : DeskRequest) (reply : Reply) (new : DeskState) : Type 0 where
  pub problem : new.problem ≡ old.problem
  pub step : reply ≢ NoMemory → IsStep old.problem (slot_at old request.slot) request.act reply (slot_at new request.slot)
  pub others : (k : ℕ) → k ≢ request.slot → slot_at new k ≡ slot_at old k
  pub starved : reply ≡ NoMemory → new ≡ old
