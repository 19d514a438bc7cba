use Rattle.std.proofs.Common.{◌<◌, sym, subst, ℕ, Bool}
use Rattle.std.specs.List.{list_all}
use Rattle.world_model.specs.Problem.{children_of, concept_count}
use Rattle.world_model.specs.Family.{implies}
use Rattle.world_model.specs.Alive.{bit_of}
use Rattle.point_table.proofs.PointTests.{range_all_more, range_all_not}
use Rattle.point_table.proofs.points.is_within.Goals as goal

pub returns-then-not-is_within_at : goal.returns-then-not-is_within_at
returns-then-not-is_within_at c =
    let test : ℕ → Bool = λ q. list_all (λ child. implies (bit_of c.args.bits.now child) (bit_of c.args.bits.now q)) (children_of c.args.problem.now q) in
    sym (range_all_not test (concept_count c.args.problem.now) c.loop-concept.concept (subst (λ n. c.loop-concept.concept < n) c.concept_count-concept-end.ensures c.loop-concept-test.true) (sym c.if-not-is_within_at.ensures))

pub loop-concept-preserved : goal.loop-concept-preserved
loop-concept-preserved c =
    let test : ℕ → Bool = λ q. list_all (λ child. implies (bit_of c.args.bits.now child) (bit_of c.args.bits.now q)) (children_of c.args.problem.now q) in
    range_all_more test c.loop-concept.concept c.loop-concept.invariant (sym c.if-not-is_within_at.ensures)
