use Rattle.std.proofs.Common.{◌≡◌, ◌<◌, ◌∙◌, length, get_or, set, ap, sym, subst, arith, List}
use Rattle.std.specs.Prelude.{None}
use Rattle.std.proofs.lemmas.List.{set-set}
use Rattle.desk_run.specs.Desk.Slots.{Slot}
use Rattle.desk_run.specs.Desk.Desks.{DeskState, IsAnswer, IsExchange}
use Rattle.desk_run.specs.Desk.Keeping.{IsDesk}
use Rattle.desk_run.proofs.desk.DeskLemmas.{exchanged, still_desk}
use Rattle.desk_run.proofs.desk.desk.Desk.handle.Goals as goal

pub invariant_of-self : goal.invariant_of-self
invariant_of-self c =
    let p = c.self.inside.problem in
    let slots = c.self.inside.slots.items in
    let k = c.args.request.now.slot in
    let new = c.act_on-reply.result.slot in
    let put : c.exchange.new.slots.items ≡ set slots k new = c.exchange.ensures.now ∙ ap (λ ss. set ss k new) c.exchange-slot.ensures.now ∙ set-set slots k None new in
    let answer : IsAnswer p (get_or slots k None) c.args.request.now.act c.act_on-reply.result.reply new =
    subst (λ s. IsAnswer p s c.args.request.now.act c.act_on-reply.result.reply new) c.exchange-slot.ensures.was c.act_on-reply.ensures in
    let within : k < length slots = omega (arith, c.requires.last, c.self.invariant.counted) in
    subst (IsDesk p) (sym put)
    (still_desk p slots k c.args.request.now.act c.act_on-reply.result.reply new answer c.self.invariant within)

pub returns : goal.returns
returns c =
    let p = c.self.inside.problem in
    let slots = c.self.inside.slots.items in
    let request = c.args.request.now in
    let reply = c.act_on-reply.result.reply in
    let new = c.act_on-reply.result.slot in
    let put : c.exchange.new.slots.items ≡ set slots request.slot new =
    c.exchange.ensures.now ∙ ap (λ ss. set ss request.slot new) c.exchange-slot.ensures.now ∙ set-set slots request.slot None new in
    let answer : IsAnswer p (get_or slots request.slot None) request.act reply new = subst (λ s. IsAnswer p s request.act reply new) c.exchange-slot.ensures.was c.act_on-reply.ensures in
    let within : request.slot < length slots = omega (arith, c.requires.last, c.self.invariant.counted) in
    subst (λ (d : DeskState). IsExchange d request reply (record { problem = p; slots = c.exchange.new.slots.items })) c.self.view_is
    (subst (λ (ss : List Slot). IsExchange (record { problem = p; slots = slots }) request reply (record { problem = p; slots = ss })) (sym put)
    (exchanged p slots request.slot request.act reply new answer within))
