use Rattle.std.proofs.Common.{◌≡◌, true, take, sym, ap, ◌∙◌, subst}
use Rattle.std.specs.Prelude.{IfOk}
use Rattle.point_ladder.specs.Ladders.{BeginsNone, LadderState}
use Rattle.world_walk.specs.Asked.{state_of}
use Rattle.world_walk.proofs.path.AlivePath.is_barren.Goals as goal

pub returns-in-Tabled-clause-none : goal.returns-in-Tabled-clause-none
returns-in-Tabled-clause-none c =
    let same : c.args.self.now ≡ c.in-Tabled.ladder = sym c.self.view_is ∙ ap state_of c.in-Tabled.is in
    subst (λ (s : LadderState). IfOk c.is_barren.result (λ none. none ≡ true → BeginsNone s.problem (take c.args.len s.path))) (sym same) c.is_barren.ensures.none

pub returns-in-Asked-clause-none : goal.returns-in-Asked-clause-none
returns-in-Asked-clause-none c =
    let same : c.args.self.now ≡ c.in-Asked.asked = sym c.self.view_is ∙ ap state_of c.in-Asked.is in
    subst (λ (s : LadderState). IfOk c.is_barren-in-Asked.result (λ none. none ≡ true → BeginsNone s.problem (take c.args.len s.path))) (sym same) c.is_barren-in-Asked.ensures.none
