use Rattle.conflict_min.proofs.Claims.{untouched}
use Rattle.conflict_lattice.proofs.lattice.find.Goals as goal

pub returns-in_err-judge-clause-keeps : goal.returns-in_err-judge-clause-keeps
returns-in_err-judge-clause-keeps g c =
    untouched _ c.from_residual.result c.args.problem.now _ (g.L.TreeLog.lines c.args.log.now) c.args.asker.now c.from_residual.ensures.1

pub returns-in_err-own-clause-keeps : goal.returns-in_err-own-clause-keeps
returns-in_err-own-clause-keeps g c =
    untouched _ c.from_residual-in_err-own.result c.args.problem.now _ (g.L.TreeLog.lines c.args.log.now) c.args.asker.now c.from_residual-in_err-own.ensures.1

pub returns-in_err-lattice-2-clause-keeps : goal.returns-in_err-lattice-2-clause-keeps
returns-in_err-lattice-2-clause-keeps g c =
    untouched _ c.from_residual-in_err-lattice-2.result c.args.problem.now _ (g.L.TreeLog.lines c.args.log.now) c.args.asker.now c.from_residual-in_err-lattice-2.ensures.1
