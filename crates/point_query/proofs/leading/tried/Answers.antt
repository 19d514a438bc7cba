use Rattle.std.proofs.Common.{ℕ, sym, ap, subst}
use Rattle.std.specs.Prelude.{IfSome}
use Rattle.world_model.specs.Alive.{IsAlive, problem_at}
use Rattle.point_query.specs.Closing.{IsFirstStuck}
use Rattle.point_query.proofs.Deciding.{lost_is_dead}
use Rattle.point_query.proofs.Querying.{keeps_chain}
use Rattle.point_query.proofs.leading.tried.Goals as goal

pub returns-in-Some-clause-alive : goal.returns-in-Some-clause-alive
returns-in-Some-clause-alive c =
    let w = c.settle.new.pool in
    let stuck = subst (λ o. IfSome o (λ (x : ℕ × ℕ). IsFirstStuck w c.settle.new.solver x.0 x.1)) c.in-Some.is c.in_ok-settle.ensures.closed in
    absurd (lost_is_dead w.cursor.problem w.cursor.path _ stuck.within stuck.needed stuck.closed.no_point (subst (λ s. IsAlive (problem_at s.problem s.path)) (sym c.in_ok-settle.ensures.cursor) c.requires.alive))

pub returns-in-None-clause-solver : goal.returns-in-None-clause-solver
returns-in-None-clause-solver c =
    keeps_chain c.law_literals_are_sets.ensures c.args.pool.now.cursor.problem c.settle.new.pool.cursor.problem c.args.solver.now c.settle.new.solver c.bears.new.solver
    (ap (λ s. s.problem) c.in_ok-settle.ensures.cursor) c.settle.ensures.solver c.bears.ensures.solver
