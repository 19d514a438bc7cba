-- One request more keeps the slots apart.
use Rattle.std.proofs.Common.{◌≡◌, ℕ, Bool, true, false, cond, [], ◌∷◌, ◌++◌, replicate, get_or, inl, inr, refl, sym, ap, ◌∙◌, subst, true≢false, eqb-true, eq-eqb, arith}
use Rattle.std.specs.Prelude.{◌==◌, ◌&&◌, not, None}
use Rattle.std.proofs.lemmas.Bool.{cases_lt}
use Rattle.std.proofs.lemmas.List.{get_or-replicate, get_or_past, length-replicate}
use Rattle.std.proofs.lemmas.List.Elements.{filter-append}
use Rattle.world_model.specs.Problem.{Problem}
use Rattle.desk_run.specs.declared.script.requests.DeskRequest.{DeskRequest}
use Rattle.desk_run.specs.declared.desk.reply.Reply.{Reply}
use Rattle.desk_run.specs.declared.desk.reply.Reply.TheVariants.{Opened, Kept, Narrowed, World, NoneLeft, Closed, SlotOpen, SlotClosed, NoMemory}
use Rattle.desk_run.specs.Desk.Slots.{Slot, IsStep}
use Rattle.desk_run.specs.Desk.Talks.{Exchange, Talk, is_starved, of_slot, IsAlone}
use Rattle.desk_run.specs.Desk.Desks.{DeskState, slot_at, IsExchange}
use Rattle.desk_run.specs.Desk.Apart.{IsAfter, SlotsStayApart}

starved_is : (reply : Reply) → is_starved reply ≡ true → reply ≡ NoMemory
starved_is NoMemory e = refl
starved_is Opened e = absurd (true≢false (sym e))
starved_is Kept e = absurd (true≢false (sym e))
starved_is Narrowed e = absurd (true≢false (sym e))
starved_is (World t) e = absurd (true≢false (sym e))
starved_is NoneLeft e = absurd (true≢false (sym e))
starved_is Closed e = absurd (true≢false (sym e))
starved_is SlotOpen e = absurd (true≢false (sym e))
starved_is SlotClosed e = absurd (true≢false (sym e))

-- one talk after another
joined : (p : Problem) (old mid new : Slot) (a b : Talk) → IsAlone p old a mid → IsAlone p mid b new → IsAlone p old (a ++ b) new
joined p old mid new [] b x y = subst (λ s. IsAlone p s b new) x y
joined p old mid new (e ∷ a) b x y = (x.0, x.1, joined p x.0 mid new a b x.2 y)

-- what a request is to any slot: a step, or nothing
module _ (old new : DeskState) (request : DeskRequest) (reply : Reply) (exchange : IsExchange old request reply new) (k : ℕ) where
  last_step : (named starved : Bool) → (request.slot == k) ≡ named → is_starved reply ≡ starved →
      IsAlone old.problem (slot_at old k) (cond (named && not starved) (record { request = request; reply = reply } ∷ []) []) (slot_at new k)
  last_step true false named starved =
      let same = eqb-true request.slot k named in
      (slot_at new k, subst (λ i. IsStep old.problem (slot_at old i) request.act reply (slot_at new i)) same (exchange.step (λ e. true≢false (sym (ap is_starved e) ∙ starved))), refl)
  last_step true true named starved = ap (λ d. slot_at d k) (exchange.starved (starved_is reply starved))
  last_step false starves named starved = exchange.others k (λ e. true≢false (sym (eq-eqb request.slot k (sym e)) ∙ named))

  one_more_at : (p : Problem) (talk : Talk) → IsAfter p talk old → IsAlone p None (of_slot k (talk ++ record { request = request; reply = reply } ∷ [])) (slot_at new k)
  one_more_at p talk after =
      subst (λ es. IsAlone p None es (slot_at new k)) (sym (filter-append (λ (e : Exchange). (e.request.slot == k) && not (is_starved e.reply)) talk (record { request = request; reply = reply } ∷ [])))
      (joined p None (slot_at old k) (slot_at new k) (of_slot k talk) (of_slot k (record { request = request; reply = reply } ∷ [])) (after.apart k)
      (subst (λ q. IsAlone q (slot_at old k) (of_slot k (record { request = request; reply = reply } ∷ [])) (slot_at new k)) after.problem
      (last_step (request.slot == k) (is_starved reply) refl refl)))

all_one : {X : Type 0} (x : X) (n k : ℕ) → get_or (replicate n x) k x ≡ x
all_one x n k = elim (cases_lt k n) [
  | inl less ↦ get_or-replicate n k x x less
  | inr more ↦ get_or_past (replicate n x) k x (omega (arith, length-replicate n x, more))
]

pub apart_law : SlotsStayApart
apart_law = record {
  at_first = λ p. record { problem = refl; apart = λ k. all_one None 17 k };
  one_more = λ p talk old new request reply after exchange. record {
    problem = exchange.problem ∙ after.problem;
    apart = λ k. one_more_at old new request reply exchange k p talk after;
  };
}
