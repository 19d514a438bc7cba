use Rattle.std.proofs.Common.{ap, refl, arith}
use Rattle.world_model.specs.Alive.{problem_at}
use Rattle.world_model.specs.Problem.{concept_count}
use Rattle.point_pool.proofs.Drafted.{pairs_more}
use Rattle.point_pool.proofs.cursor.Cursor.avoids_pairs_of.Goals as goal

pub loop-other-preserved : goal.loop-other-preserved
loop-other-preserved c =
    pairs_more (problem_at c.args.self.now.problem c.args.self.now.path) c.args.bits.now c.args.concept c.loop-other.other c.loop-other.invariant (c.if-not-avoids_pair.ensures refl)

pub returns : goal.returns
returns c = λ _ y small. c.loop-other.invariant y (omega (arith, small, c.loop-other-test.false, c.concept_count-other-end.ensures, ap concept_count c.problem.ensures))
