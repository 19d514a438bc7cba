use Rattle.std.proofs.Common.{◌≡◌, IsTrue, ap, ◌∙◌}
use Rattle.std.specs.Prelude.{filter}
use Rattle.std.specs.Option.{option_copied}
use Rattle.std.proofs.lemmas.Result.{IfOk-weaker}
use Rattle.world_model.specs.Problem.{is_problem}
use Rattle.world_model.specs.Listing.{IsListing}
use Rattle.world_model.specs.Trial.{is_world_by_trial}
use Rattle.plain_walk.proofs.walk.worlds_between.Goals as goal

pub returns-clause-exactly : goal.returns-clause-exactly
returns-clause-exactly c =
    let p = c.args.problem.now in
    let is : IsTrue (is_problem p) = c.facts.ensures.built.valid in
    let all = ap (filter (is_world_by_trial p)) (c.deref.ensures.value ∙ c.in_ok-nodes.ensures.by_trial) in
    IfOk-weaker c.worlds_of.result
    (λ worlds. worlds.items ≡ filter (is_world_by_trial p) c.deref.result.now)
    (λ worlds. IsListing p c.args.from.now (option_copied c.args.to) worlds.items)
    (λ worlds same. rw (same ∙ all) (c.trial_is_right.ensures.worlds p is c.args.from.now (option_copied c.args.to)))
    c.worlds_of.ensures
