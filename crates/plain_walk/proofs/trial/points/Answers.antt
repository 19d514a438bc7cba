use Rattle.std.proofs.Common.{rules, ap, ◌∙◌}
use Rattle.std.specs.Prelude.{filter}
use Rattle.std.proofs.lemmas.Fn.{filter_same}
use Rattle.world_model.specs.Alive.{obeys}
use Rattle.world_model.specs.Trial.{bit_lists}
use Rattle.plain_walk.proofs.trial.points.Goals as goal

pub returns : goal.returns
returns c =
    let test = obeys c.args.problem.now c.args.forced.now in
    filter_same _ test _ (λ x b f' k. search rules) _ _ c.retain.ensures.filtered ∙ ap (filter test) (c.in_ok-points.ensures ∙ ap bit_lists c.concept_count.ensures)
