use Rattle.std.proofs.Common.{◌≡◌, [], ◌∷◌, ◌++◌, sym, ap, ◌∙◌, subst}
use Rattle.std.specs.Prelude.{IfOk, IsTrue, ◌↔◌}
use Rattle.rcc5_core.specs.RelationSet.{has}
use Rattle.rcc5_core.specs.declared.Rel.{Rel}
use Rattle.rcc5_core.specs.declared.RelSet.{RelSet}
use Rattle.world_model.specs.Alive.{IsAlive, problem_at}
use Rattle.point_ladder.specs.Ladders.{LadderState}
use Rattle.world_walk.specs.Asked.{state_of}
use Rattle.world_walk.proofs.path.AlivePath.leads_on.Goals as goal

-- these relations lead on
abbrev LeadOn : LadderState → RelSet → Type 0
LeadOn s set = (rel : Rel) → IsTrue (has set rel) ↔ IsAlive (problem_at s.problem (s.path ++ rel ∷ []))

pub returns-in-Tabled-clause-next : goal.returns-in-Tabled-clause-next
returns-in-Tabled-clause-next c =
    let same : c.args.self.now ≡ c.in-Tabled.ladder = sym c.self.view_is ∙ ap state_of c.in-Tabled.is in
    subst (λ s. LeadOn s c.leads_on.result) (sym same) c.leads_on.ensures

pub returns-in-Asked-clause-next : goal.returns-in-Asked-clause-next
returns-in-Asked-clause-next c =
    let same : c.args.self.now ≡ c.in-Asked.asked = sym c.self.view_is ∙ ap state_of c.in-Asked.is in
    subst (λ s. IfOk c.leads_on-in-Asked.result (LeadOn s)) (sym same) c.leads_on-in-Asked.ensures.next
