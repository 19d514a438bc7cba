-- What a slot of the desk is, and what a request does to it.
use Rattle.std.specs.Prelude.{◌≡◌, List, Option, Some, None}
use Rattle.rcc5_core.specs.declared.Rel.{Rel}
use Rattle.world_model.specs.Problem.{Problem, restricted, narrowed}
use Rattle.world_model.specs.Node.{pair_at}
use Rattle.world_walk.specs.ToCome.{IsFirstToCome, NoneToCome}
use Rattle.desk_run.specs.declared.script.requests.Act.{Act}
use Rattle.desk_run.specs.declared.script.requests.Act.TheVariants.{Open, Keep, Narrow, Next, Close}
use Rattle.desk_run.specs.declared.desk.reply.Reply.{Reply}
use Rattle.desk_run.specs.declared.desk.reply.Reply.TheVariants.{Opened, Kept, Narrowed, World, NoneLeft, Closed, SlotOpen, SlotClosed}

-- an open slot: its problem, and the last world that it showed
pub record OpenSlot : Type 0 where
  pub problem : Problem
  pub last : Option (List Rel)

-- a slot is open, or closed (none)
abbrev pub Slot : Type 0
Slot = Option OpenSlot

-- a slot that has shown no world yet
abbrev pub fresh : Problem → Slot
fresh p = Some (record { problem = p; last = None })

-- the next world: the first one above the last, which is the last one then; or none is left, and the slot stays
abbrev pub IsNextReply : OpenSlot → Reply → Slot → Type 0
IsNextReply s (World t) new = IsFirstToCome s.problem s.last t × (new ≡ Some (record s { last = Some t }))
IsNextReply s NoneLeft new = NoneToCome s.problem s.last × (new ≡ Some s)
IsNextReply s reply new = ⊥

-- what an act does to a slot, and what is replied; p is the problem that was read
abbrev pub IsStep : Problem → Slot → Act → Reply → Slot → Type 0
IsStep p None Open reply new = (reply ≡ Opened) × (new ≡ fresh p)
IsStep p None act reply new = (reply ≡ SlotClosed) × (new ≡ None)
IsStep p (Some s) Open reply new = (reply ≡ SlotOpen) × (new ≡ Some s)
IsStep p (Some s) (Keep flags) reply new = (reply ≡ Kept) × (new ≡ fresh (restricted s.problem flags))
IsStep p (Some s) (Narrow k set) reply new = (reply ≡ Narrowed) × (new ≡ fresh (narrowed s.problem (pair_at s.problem k) set))
IsStep p (Some s) Next reply new = IsNextReply s reply new
IsStep p (Some s) Close reply new = (reply ≡ Closed) × (new ≡ None)
