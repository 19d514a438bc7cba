use Rattle.std.proofs.Common.{◌≡◌, false, map, sym, ◌∙◌, subst}
use Rattle.std.specs.Prelude.{IfOk}
use Rattle.std.proofs.lemmas.Simd.{splat_is_map}
use Rattle.world_model.specs.Problem.{restricted}
use Rattle.family_solver.proofs.kept.ground.bare.Goals as goal

pub returns : goal.returns
returns c =
    let p = c.args.problem.now in
    let none : c.deref.result.now ≡ map (λ _. false) p.articulations = c.deref.ensures.value ∙ c.in_ok-none.ensures.items_if_clones_equal (λ copy is. cc) ∙ splat_is_map p.articulations c.articulation_count.result false (sym c.articulation_count.ensures) in
    subst (λ flags. IfOk c.restricted.result (λ base. base ≡ restricted p flags)) none c.restricted.ensures.value
