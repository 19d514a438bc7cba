use Rattle.std.proofs.Common.{refl, ap, ◌∙◌}
use Rattle.point_query.proofs.Querying.{keeps_chain, keeps_still}
use Rattle.point_query.proofs.leading.lacks_point.Goals as goal

pub loop-part-init : goal.loop-part-init
loop-part-init c = record { pool = c.requires.pool; cursor = refl; solver = keeps_still _ _ c.requires.solver }

pub returns-in_err-bare-clause-solver : goal.returns-in_err-bare-clause-solver
returns-in_err-bare-clause-solver c =
    keeps_chain c.law_literals_are_sets.ensures c.args.pool.now.cursor.problem c.loop-part.pool.cursor.problem c.args.solver.now c.loop-part.solver c.is_bare.new.solver
    (ap (λ s. s.problem) c.loop-part.invariant.cursor) c.loop-part.invariant.solver c.is_bare.ensures.solver

pub returns-then-bare-clause-solver : goal.returns-then-bare-clause-solver
returns-then-bare-clause-solver c =
    keeps_chain c.law_literals_are_sets.ensures c.args.pool.now.cursor.problem c.loop-part.pool.cursor.problem c.args.solver.now c.loop-part.solver c.is_bare.new.solver
    (ap (λ s. s.problem) c.loop-part.invariant.cursor) c.loop-part.invariant.solver c.is_bare.ensures.solver

pub loop-part-preserved : goal.loop-part-preserved
loop-part-preserved c = record {
  pool = c.in_ok-bare.ensures.pool;
  cursor = c.in_ok-bare.ensures.cursor ∙ c.loop-part.invariant.cursor;
  solver = keeps_chain c.law_literals_are_sets.ensures c.args.pool.now.cursor.problem c.loop-part.pool.cursor.problem c.args.solver.now c.loop-part.solver c.is_bare.new.solver
      (ap (λ s. s.problem) c.loop-part.invariant.cursor) c.loop-part.invariant.solver c.is_bare.ensures.solver;
}
