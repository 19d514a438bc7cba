use Rattle.std.proofs.Common.{subst, ap, ◌∙◌}
use Rattle.std.specs.Prelude.{IsTrue}
use Rattle.world_model.specs.Alive.{all_allow, problem_at}
use Rattle.search_checks.specs.Asker.Seeking.{chosen, IsSoughtAt}
use Rattle.point_query.proofs.Querying.{asker_goes_nowhere}
use Rattle.search_checks.proofs.asker.Seeking.{answer_points, answer_closed}
use Rattle.search_checks.proofs.asker.plain.PlainAsker.alive.Goals as goal
use Rattle.search_checks.proofs.asker.plain.PlainAsker.alive.Goals.{in-Points+in_ok-points-in-Points, in-Closed}

pub returns-in-Some-clause-kept : goal.returns-in-Some-clause-kept
returns-in-Some-clause-kept c = asker_goes_nowhere c.args.self.now

pub returns-clause-answer : goal.returns-clause-answer
returns-clause-answer c =
    let p = c.args.problem.now in
    let m = c.args.prefix.now in
    let allow : IsTrue (all_allow (problem_at p m)) = c.in_default.ensures.none in
    elim c.match-branch-2.branch [
      | in-Points+in_ok-points-in-Points w ↦
          let sought = subst (λ s. IsSoughtAt c.points_for_all.new.self p m s) w.in-Points.is c.in_ok-found.ensures.sought in
          let points = w.in_ok-points-in-Points.ensures ∙ ap (λ ps. chosen ps w.deref-in-Points.result.now) w.deref.ensures.value ∙ ap (chosen w.in-Points.found.items) w.deref-in-Points.ensures.value in
          rw w.result-is (answer_points c.points_for_all.new.self p m w.in-Points.found w.in-Points.places w.in_ok-points-in-Points.points allow sought points)
      | in-Closed w ↦
          let sought = subst (λ s. IsSoughtAt c.points_for_all.new.self p m s) w.in-Closed.is c.in_ok-found.ensures.sought in
          rw w.result-is (answer_closed c.points_for_all.new.self p m w.in-Closed.need w.in-Closed.id allow sought)
    ]
