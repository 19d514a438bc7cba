use Rattle.std.proofs.Common.{subst, sym}
use Rattle.std.proofs.lemmas.List.Elements.{All-push}
use Rattle.std.specs.Prelude.{IsTrue}
use Rattle.world_model.specs.Alive.{is_point, problem_at}
use Rattle.point_encode.specs.Needs.{need_seen}
use Rattle.point_query.specs.Answers.{IsFound}
use Rattle.point_query.specs.Queries.{ArePoints, asker_with}
use Rattle.point_query.proofs.Querying.{keeps_still}
use Rattle.search_checks.proofs.asker.each_need.place_of.Goals as goal

pub returns-in-Some-clause-solver : goal.returns-in-Some-clause-solver
returns-in-Some-clause-solver c = keeps_still _ _ c.requires.solver

pub returns-in_ok-push-in-Point-clause-points : goal.returns-in_ok-push-in-Point-clause-points
returns-in_ok-push-in-Point-clause-points c =
    let p = c.args.problem.now in
    let q = problem_at p c.args.prefix.now in
    let found = subst (λ f. IsFound (asker_with p c.query.new.solver) p c.args.prefix.now (need_seen p c.args.need) f) c.in-Point.is c.in_ok-bits.ensures.found in
    subst (λ ps. ArePoints q ps) (sym c.in_ok-push-in-Point.ensures.items)
    (All-push (λ bits. IsTrue (is_point q bits)) c.args.found.now.items c.in-Point.bits c.requires.points found.0)
