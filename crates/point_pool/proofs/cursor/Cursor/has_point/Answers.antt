use Rattle.std.proofs.Common.{◌∙◌, ap, sym, refl, arith}
use Rattle.world_model.specs.Alive.{meets_structure, problem_at}
use Rattle.world_model.specs.Problem.{concept_count}
use Rattle.point_pool.proofs.Drafted.{concepts_more, drafted_point}
use Rattle.point_pool.proofs.cursor.Cursor.has_point.Goals as goal

pub loop-concept-preserved : goal.loop-concept-preserved
loop-concept-preserved c =
    concepts_more (problem_at c.args.self.now.problem c.args.self.now.path) c.args.bits.now c.loop-concept.concept c.loop-concept.invariant (c.if-not-avoids_if_there.ensures refl)

pub returns : goal.returns
returns c = λ _.
    let bits = c.args.bits.now in
    drafted_point (problem_at c.args.self.now.problem c.args.self.now.path) bits (ap (λ p. meets_structure p bits) (sym c.problem.ensures) ∙ sym c.if-not-meets_structure.ensures)
    (λ x small. c.loop-concept.invariant x (omega (arith, small, c.loop-concept-test.false, c.concept_count-concept-end.ensures, ap concept_count c.problem-2.ensures)))
