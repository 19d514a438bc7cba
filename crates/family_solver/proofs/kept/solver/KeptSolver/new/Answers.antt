use Rattle.std.proofs.Common.{◌+◌, ap, ◌∙◌, subst}
use Rattle.family_solver.specs.Showing.{IsBegun, variable_count}
use Rattle.family_solver.proofs.kept.Telling.{begun_kept}
use Rattle.family_solver.proofs.kept.solver.KeptSolver.new.Goals as goal

pub give_articulations-requires-clause-begun : goal.give_articulations-requires-clause-begun
give_articulations-requires-clause-begun c =
    let g = c.in-Some.ground in
    let s = c.give_spoken.new.solver in
    begun_kept c.args.problem.now g s (subst (λ q. IsBegun q g s) c.in_ok-base.ensures c.in_ok-give_spoken.ensures.begun) (c.in_ok-give_spoken.ensures.exact ∙ c.in_ok-solver.ensures.exact ∙ ap (λ n. variable_count g + n) c.articulation_count-more.ensures)
