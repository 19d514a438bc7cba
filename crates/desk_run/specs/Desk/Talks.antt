-- Requests with their replies, and what they say of one slot.
use Rattle.std.specs.Prelude.{◌≡◌, ◌==◌, ◌&&◌, ℕ, Bool, true, false, not, List, [], ◌∷◌, map, filter}
use Rattle.world_model.specs.Problem.{Problem}
use Rattle.desk_run.specs.declared.script.requests.Act.{Act}
use Rattle.desk_run.specs.declared.script.requests.DeskRequest.{DeskRequest}
use Rattle.desk_run.specs.declared.desk.reply.Reply.{Reply}
use Rattle.desk_run.specs.declared.desk.reply.Reply.TheVariants.{NoMemory}
use Rattle.desk_run.specs.Desk.Slots.{Slot, IsStep}

-- a request and its reply
pub record Exchange : Type 0 where
  pub request : DeskRequest
  pub reply : Reply

-- requests with their replies, in order
abbrev pub Talk : Type 0
Talk = List Exchange

-- whether memory was wanting
abbrev pub is_starved : Reply → Bool
is_starved NoMemory = true
is_starved reply = false

-- what was talked with one slot, without the requests for which memory was wanting
abbrev pub of_slot : ℕ → Talk → Talk
of_slot k talk = filter (λ e. (e.request.slot == k) && not (is_starved e.reply)) talk

-- what was asked of a slot, and what it replied
abbrev pub acts : Talk → List Act
acts talk = map (λ e. e.request.act) talk

abbrev pub replies : Talk → List Reply
replies talk = map (λ e. e.reply) talk

-- a slot alone, step by step, from the one state to the other
abbrev pub IsAlone : Problem → Slot → Talk → Slot → Type 0
IsAlone p old [] new = new ≡ old
IsAlone p old (e ∷ es) new = (mid : Slot) × IsStep p old e.request.act e.reply mid × IsAlone p mid es new

-- of a slot that starts alike, equal acts get equal replies, and it ends alike
pub record SlotsAnswerAlone : Type 0 where
  pub same_replies : (p : Problem) (start one other : Slot) (a b : Talk) → IsAlone p start a one → IsAlone p start b other → acts a ≡ acts b → replies a ≡ replies b
  pub same_ends : (p : Problem) (start one other : Slot) (a b : Talk) → IsAlone p start a one → IsAlone p start b other → acts a ≡ acts b → one ≡ other
