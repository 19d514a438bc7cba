use Rattle.std.proofs.Common.{◌≡◌, ◌∙◌, ap, sym, subst}
use Rattle.std.specs.Prelude.{Some}
use Rattle.world_walk.specs.ToCome.{IsFirstToCome}
use Rattle.world_walk.specs.Walks.{IsNext}
use Rattle.world_walk.proofs.WalkLemmas.{steps_behind}
use Rattle.desk_run.specs.Desk.Slots.{OpenSlot}
use Rattle.desk_run.specs.Desk.Keeping.{IsWalkBehind, IsKept}
use Rattle.desk_run.proofs.desk.SlotLemmas.{steps_kept}
use Rattle.desk_run.proofs.desk.slot.OpenSlot.next.Goals as goal

pub invariant_of-self : goal.invariant_of-self
invariant_of-self c =
    let p = c.self.inside.problem in
    let last = c.self.inside.last in
    let walk = c.in_ok-walk.walk in
    let new = c.next.new.self in
    let behind : IsWalkBehind p last walk = subst (λ (s : OpenSlot). IsWalkBehind s.problem s.last walk) (sym (c.self.view_is ∙ c.take_walk.ensures.same)) c.in_ok-walk.ensures.walk in
    let next : IsNext p walk new (Some c.in-Some.table) = subst (IsNext p walk new) c.in-Some.is c.in_ok-table.ensures.next in
    subst (λ t. IsKept p (Some t) (Some new)) (sym c.in_ok-last-in-Some.ensures) (steps_kept p last walk new behind c.next.ensures.walk c.in-Some.table next)

pub returns-in_ok-last-in-Some-clause-shown : goal.returns-in_ok-last-in-Some-clause-shown
returns-in_ok-last-in-Some-clause-shown c =
    let p = c.self.inside.problem in
    let last = c.self.inside.last in
    let walk = c.in_ok-walk.walk in
    let new = c.next.new.self in
    let table = c.in-Some.table in
    let same : record { problem = p; last = last } ≡ c.args.self.now = c.self.view_is ∙ c.take_walk.ensures.same in
    let behind : IsWalkBehind p last walk = subst (λ (s : OpenSlot). IsWalkBehind s.problem s.last walk) (sym same) c.in_ok-walk.ensures.walk in
    let next : IsNext p walk new (Some table) = subst (IsNext p walk new) c.in-Some.is c.in_ok-table.ensures.next in (
      subst (λ (s : OpenSlot). IsFirstToCome s.problem s.last table) same (steps_behind p last walk new table behind.behind next).0,
      ap (λ t. record { problem = p; last = Some t }) c.in_ok-last-in-Some.ensures ∙ ap (λ (s : OpenSlot). record s { last = Some table }) same,
    )
