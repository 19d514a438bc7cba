use Rattle.std.proofs.Common.{rules, ap, ◌∙◌}
use Rattle.std.specs.Prelude.{filter}
use Rattle.std.proofs.lemmas.Fn.{filter_same}
use Rattle.point_query.specs.Remembered.{is_live}
use Rattle.point_query.proofs.closings.Ids.keep_live.Goals as goal

pub returns : goal.returns
returns c =
    let test = is_live c.args.solver.now.state in
    filter_same _ test _ (λ x b f' k. search rules) _ _ c.retain.ensures.filtered ∙ ap (filter test) c.self.view_is
