use Rattle.std.proofs.Common.{subst}
use Rattle.constraint_set.specs.Facts.{IsBuilt}
use Rattle.learn_solver.specs.Solving.{IsSolver}
use Rattle.point_encode.specs.Model.Forced.{need_at}
use Rattle.point_query.proofs.Querying.{known_is_closed}
use Rattle.point_pool.proofs.Settling.{need_named}
use Rattle.point_query.proofs.closer.Closer.shows.Goals as goal

pub returns : goal.returns
returns c =
    let p = c.args.cursor.now.problem in
    let m = c.args.cursor.now.path in
    let named = need_named p c.args.number c.requires.within in
    let built : IsBuilt p = subst (λ q. IsBuilt q) c.problem.ensures c.facts.ensures.built in
    let solver : IsSolver c.args.self.now = subst (λ s. IsSolver s) c.self.view_is c.facts-2.ensures in
    known_is_closed c.clauses_are_points.ensures c.needs_are_literals.ensures c.law_literals_are_sets.ensures p m (need_at p c.args.number) c.args.self.now c.args.id built c.requires.solver named solver c.requires.closes
