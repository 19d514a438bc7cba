use Rattle.std.proofs.Common.{◌≡◌, ◌∙◌, [], ◌∷◌, sym, ap, subst}
use Rattle.std.specs.Prelude.{IfSome}
use Rattle.world_walk.specs.Tables.{IsAtWorld}
use Rattle.world_walk.proofs.WalkLemmas.{table_next}
use Rattle.world_walk.proofs.walk.Walk.next.Goals as goal

pub returns-in_ok-table-in-Some-clause-next : goal.returns-in_ok-table-in-Some-clause-next
returns-in_ok-table-in-Some-clause-next c =
    let new = c.next.new.self in
    let at : IsAtWorld new = subst (λ o. IfSome o (λ _. IsAtWorld new)) c.in-Some.is c.in_ok-next.ensures.world in
    let told : new.told ≡ c.in_ok-table-in-Some.table ∷ [] = c.table.ensures ∙ ap (λ t. t ∷ []) (sym c.in_ok-table-in-Some.ensures) in
    table_next c.args.problem.now c.args.self.now.tables new c.in_ok-table-in-Some.table c.requires c.in_ok-next.ensures.passed at told
