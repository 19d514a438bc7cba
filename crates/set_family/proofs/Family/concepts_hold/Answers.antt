use Rattle.std.proofs.Common.{◌<◌, ◌≤◌, arith, sym, ◌∙◌}
use Rattle.world_model.specs.Problem.{concept_count}
use Rattle.set_family.specs.Rules.{rules_at}
use Rattle.set_family.proofs.Holding.{range_got, range_done}
use Rattle.set_family.proofs.Family.concepts_hold.Goals as goal

pub returns-then-not-concept_holds : goal.returns-then-not-concept_holds
returns-then-not-concept_holds c =
    let within : c.loop-concept.concept < concept_count c.args.problem.now = omega arith in
    sym (range_got (rules_at c.args.problem.now c.args.self.now) c.loop-concept.concept (concept_count c.args.problem.now) _ within c.if-not-concept_holds.ensures) ∙ c.loop-concept.invariant

pub loop-concept-preserved : goal.loop-concept-preserved
loop-concept-preserved c =
    let within : c.loop-concept.concept < concept_count c.args.problem.now = omega arith in
    sym (range_got (rules_at c.args.problem.now c.args.self.now) c.loop-concept.concept (concept_count c.args.problem.now) _ within c.if-not-concept_holds.ensures) ∙ c.loop-concept.invariant

pub returns : goal.returns
returns c =
    let done : concept_count c.args.problem.now ≤ c.loop-concept.concept = omega arith in
    sym (range_done (rules_at c.args.problem.now c.args.self.now) c.loop-concept.concept (concept_count c.args.problem.now) done) ∙ c.loop-concept.invariant
