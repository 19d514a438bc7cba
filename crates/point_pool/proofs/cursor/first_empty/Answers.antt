use Rattle.std.proofs.Common.{not, arith, sym, ap, ◌∙◌, below_more}
use Rattle.rcc5_core.specs.RelationSet.{is_empty_set}
use Rattle.world_model.specs.Problem.{pairs}
use Rattle.world_model.specs.Alive.{allowed}
use Rattle.point_pool.proofs.Serving.{all_from_places}
use Rattle.point_pool.proofs.cursor.first_empty.Goals as goal

pub returns-then-is_empty : goal.returns-then-is_empty
returns-then-is_empty c = record {
  within = omega arith;
  empty = ap is_empty_set (sym c.allowed.ensures) ∙ sym c.is_empty.ensures ∙ c.if-is_empty.true;
  first = c.loop-pair.invariant;
}

pub loop-pair-preserved : goal.loop-pair-preserved
loop-pair-preserved c =
    below_more _ _ c.loop-pair.invariant (ap not (ap is_empty_set (sym c.allowed.ensures) ∙ sym c.is_empty.ensures ∙ c.if-is_empty.false))

pub returns : goal.returns
returns c =
    all_from_places (λ pair. not (is_empty_set (allowed c.args.problem.now pair))) (pairs c.args.problem.now) (0, 0)
    (λ k h. c.loop-pair.invariant k (omega arith))
