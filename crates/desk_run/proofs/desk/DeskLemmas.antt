-- What a step leaves of the desk.
use Rattle.std.proofs.Common.{◌≡◌, ◌≢◌, ℕ, ◌<◌, length, get_or, set, List, ◌⊎◌, inl, inr, refl, sym, ap, ◌∙◌, subst}
use Rattle.std.specs.Prelude.{Option, Some, None}
use Rattle.std.proofs.lemmas.List.{get_or-set_same, get_or-set_other, set-get_or, length-set}
use Rattle.std.proofs.lemmas.Bool.{cases_eq}
use Rattle.world_model.specs.Problem.{Problem, pair_count}
use Rattle.constraint_set.specs.Shape.{SameShape}
use Rattle.desk_run.specs.declared.script.requests.Act.{Act}
use Rattle.desk_run.specs.declared.script.requests.Act.TheVariants.{Open, Keep, Narrow, Next, Close}
use Rattle.desk_run.specs.declared.desk.reply.Reply.{Reply}
use Rattle.desk_run.specs.declared.desk.reply.Reply.TheVariants.{Opened, Kept, Narrowed, World, NoneLeft, Closed, SlotOpen, SlotClosed, NoMemory}
use Rattle.desk_run.specs.Desk.Slots.{Slot, IsStep}
use Rattle.desk_run.specs.Desk.Desks.{IsAnswer, IsExchange}
use Rattle.desk_run.specs.Desk.Keeping.{HasShape, IsDesk}
use Rattle.desk_run.proofs.desk.AloneLemmas.{by_reply}

-- problems of one shape have as many pairs
pub same_pairs : (q p : Problem) → SameShape q p → pair_count q ≡ pair_count p
same_pairs q p same = ap pair_count same

starved_cases : (reply : Reply) → (reply ≡ NoMemory) ⊎ (reply ≢ NoMemory)
starved_cases NoMemory = inl refl
starved_cases Opened = inr (λ e. cc)
starved_cases Kept = inr (λ e. cc)
starved_cases Narrowed = inr (λ e. cc)
starved_cases (World t) = inr (λ e. cc)
starved_cases NoneLeft = inr (λ e. cc)
starved_cases Closed = inr (λ e. cc)
starved_cases SlotOpen = inr (λ e. cc)
starved_cases SlotClosed = inr (λ e. cc)

-- a step leaves a slot of the shape
step_shape : (p : Problem) (old : Slot) (act : Act) (reply : Reply) (new : Slot) → HasShape p old → IsStep p old act reply new → HasShape p new
step_shape p None Open reply new has step = subst (HasShape p) (sym step.1) refl
step_shape p None (Keep flags) reply new has step = subst (HasShape p) (sym step.1) tt
step_shape p None (Narrow k set) reply new has step = subst (HasShape p) (sym step.1) tt
step_shape p None Next reply new has step = subst (HasShape p) (sym step.1) tt
step_shape p None Close reply new has step = subst (HasShape p) (sym step.1) tt
step_shape p (Some s) Open reply new has step = subst (HasShape p) (sym step.1) has
step_shape p (Some s) (Keep flags) reply new has step = subst (HasShape p) (sym step.1) has
step_shape p (Some s) (Narrow k set) reply new has step = subst (HasShape p) (sym step.1) has
step_shape p (Some s) Next reply new has step = elim (by_reply s reply new step) [
  | inl w ↦ subst (HasShape p) (sym w.moved) has
  | inr w ↦ subst (HasShape p) (sym w.kept) has
]
step_shape p (Some s) Close reply new has step = subst (HasShape p) (sym step.1) tt

-- and so does an answer
answer_shape : (p : Problem) (old : Slot) (act : Act) (reply : Reply) (new : Slot) → HasShape p old → IsAnswer p old act reply new → HasShape p new
answer_shape p old act reply new has answer = elim (starved_cases reply) [
  | inl starved ↦ subst (HasShape p) (sym (answer.starved starved)) has
  | inr other ↦ step_shape p old act reply new has (answer.step other)
]

-- an answer of a slot is a request of the desk, and all is kept
module _ (p : Problem) (slots : List Slot) (k : ℕ) (act : Act) (reply : Reply) (new : Slot) (answer : IsAnswer p (get_or slots k None) act reply new) where
  pub exchanged : k < length slots → IsExchange (record { problem = p; slots = slots }) (record { slot = k; act = act }) reply (record { problem = p; slots = set slots k new })
  exchanged within = record {
    problem = refl;
    step = λ other. subst (IsStep p (get_or slots k None) act reply) (sym (get_or-set_same slots k new None within)) (answer.step other);
    others = λ i other. get_or-set_other slots k i new None other;
    starved = λ starved. ap (λ (ss : List Slot). record { problem = p; slots = ss }) (ap (set slots k) (answer.starved starved) ∙ set-get_or slots k None);
  }

  pub still_desk : IsDesk p slots → k < length slots → IsDesk p (set slots k new)
  still_desk desk within = record {
    counted = length-set slots k new ∙ desk.counted;
    shapes = λ i. by i (cases_eq i k);
  }
    where
      by : (i : ℕ) → (i ≡ k) ⊎ (i ≢ k) → HasShape p (get_or (set slots k new) i None)
      by i (inl same) =
          subst (HasShape p) (sym (get_or-set_same slots k new None within) ∙ ap (λ j. get_or (set slots k new) j None) (sym same))
          (answer_shape p (get_or slots k None) act reply new (desk.shapes k) answer)
      by i (inr away) = subst (HasShape p) (sym (get_or-set_other slots k i new None away)) (desk.shapes i)
