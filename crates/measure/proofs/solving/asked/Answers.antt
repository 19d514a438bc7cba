use Rattle.std.proofs.Common.{ℕ, List, append-nil, sym, subst}
use Rattle.learn_solver.specs.Solving.{AreConsistent}
use Rattle.measure.proofs.solving.asked.Goals as goal

pub solve-requires-clause-consistent : goal.solve-requires-clause-consistent
solve-requires-clause-consistent c = subst (λ (lits : List ℕ). AreConsistent lits) (sym (append-nil c.args.lits.now)) c.requires.consistent

pub solve-requires-in-Err-clause-consistent : goal.solve-requires-in-Err-clause-consistent
solve-requires-in-Err-clause-consistent c = subst (λ (lits : List ℕ). AreConsistent lits) (sym (append-nil c.args.lits.now)) c.requires.consistent
