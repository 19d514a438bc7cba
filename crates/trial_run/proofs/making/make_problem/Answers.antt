use Rattle.std.proofs.Common.{◌≡◌, List, IfOk, length, sym, ap, subst, ◌∙◌, arith}
use Rattle.world_model.specs.Problem.{Problem}
use Rattle.trial_run.specs.declared.blocks.Block.{Block}
use Rattle.trial_run.specs.Draws.{blocks_of}
use Rattle.trial_run.specs.Made.{problem_from, block_count, single_count, made}
use Rattle.trial_run.specs.Plans.{IsPlan}
use Rattle.trial_run.proofs.Drawn.{plan-blocks_of, length-blocks_of}
use Rattle.trial_run.proofs.making.make_problem.Goals as goal

pub problem_from-requires-clause-plan : goal.problem_from-requires-clause-plan
problem_from-requires-clause-plan c =
    subst IsPlan (sym (c.deref.ensures.value ∙ c.in_ok-blocks.ensures)) (plan-blocks_of c.args.seed (block_count c.args.size))

pub problem_from-requires-clause-small : goal.problem_from-requires-clause-small
problem_from-requires-clause-small c =
    let count : length c.deref.result.now ≡ block_count c.args.size = ap length (c.deref.ensures.value ∙ c.in_ok-blocks.ensures) ∙ length-blocks_of c.args.seed (block_count c.args.size) in
    omega arith

pub returns-clause-made : goal.returns-clause-made
unfolding made
returns-clause-made c =
    let blocks : c.deref.result.now ≡ blocks_of c.args.seed (block_count c.args.size) = c.deref.ensures.value ∙ c.in_ok-blocks.ensures in
    let same = ap (λ (blocks : List Block). problem_from blocks (single_count c.args.size)) blocks in
    subst (λ (q : Problem). IfOk c.problem_from.result (λ p. p ≡ q)) same c.problem_from.ensures
