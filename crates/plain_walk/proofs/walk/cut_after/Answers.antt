use Rattle.std.proofs.Common.{◌≡◌, IsTrue, ap, ◌∙◌}
use Rattle.std.proofs.lemmas.Result.{IfOk-weaker}
use Rattle.world_model.specs.Problem.{is_problem}
use Rattle.world_model.specs.Node.{IsCut}
use Rattle.world_model.specs.Trial.{first_spent}
use Rattle.plain_walk.proofs.walk.cut_after.Goals as goal

pub returns-clause-exactly : goal.returns-clause-exactly
returns-clause-exactly c =
    let p = c.args.problem.now in
    let is : IsTrue (is_problem p) = c.facts.ensures.built.valid in
    let all = ap (first_spent p c.args.nodes c.args.worlds 0 0) (c.deref.ensures.value ∙ c.in_ok-list.ensures.by_trial) in
    IfOk-weaker c.first_spent.result
    (λ cut. cut ≡ first_spent p c.args.nodes c.args.worlds 0 0 c.deref.result.now)
    (λ cut. IsCut p c.args.from.now c.args.nodes c.args.worlds cut)
    (λ cut same. rw (same ∙ all) (c.trial_is_right.ensures.cut p is c.args.from.now c.args.nodes c.args.worlds))
    c.first_spent.ensures
