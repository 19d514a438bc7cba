use Rattle.std.proofs.Common.{rules, ap, ◌∙◌}
use Rattle.std.specs.Prelude.{filter}
use Rattle.std.specs.Option.{option_copied}
use Rattle.std.proofs.lemmas.Fn.{filter_same}
use Rattle.world_model.specs.Listing.{is_between}
use Rattle.plain_walk.proofs.walk.nodes_between.Goals as goal

pub returns-clause-by_trial : goal.returns-clause-by_trial
returns-clause-by_trial c =
    let test = is_between c.args.from.now (option_copied c.args.to) in
    filter_same _ test _ (λ x b f' k. search rules) _ _ c.retain.ensures.filtered ∙ ap (filter test) c.in_ok-nodes.ensures

pub returns-clause-exactly : goal.returns-clause-exactly
returns-clause-exactly c =
    rw (returns-clause-by_trial c) (c.trial_is_right.ensures.nodes c.args.problem.now c.args.from.now (option_copied c.args.to))
