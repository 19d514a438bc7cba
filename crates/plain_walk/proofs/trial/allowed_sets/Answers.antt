use Rattle.std.proofs.Common.{map, ap, ◌∙◌, arith}
use Rattle.std.proofs.lemmas.List.{take_all}
use Rattle.world_model.specs.Problem.{pairs}
use Rattle.world_model.specs.Alive.{allowed, problem_at}
use Rattle.plain_walk.proofs.PlainPairs.{sets_more}
use Rattle.plain_walk.proofs.trial.allowed_sets.Goals as goal

pub loop-number-preserved : goal.loop-number-preserved
loop-number-preserved c =
    sets_more c.args.problem.now (problem_at c.args.problem.now c.args.prefix.now) c.loop-number.number _ _ _ _ (omega arith)
    c.pair_at.ensures.value c.allowed_at.ensures c.loop-number.invariant c.in_ok-push.ensures.items

pub returns : goal.returns
returns c =
    c.loop-number.invariant ∙ ap (map (λ pair. (pair, allowed (problem_at c.args.problem.now c.args.prefix.now) pair))) (take_all c.loop-number.number (pairs c.args.problem.now) (omega arith))
