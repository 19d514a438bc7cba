use Rattle.std.proofs.Common.{ap, arith}
use Rattle.lits_core.specs.Literals.{variable_of}
use Rattle.lits_core.proofs.LiteralLemmas.{variable_of-negation}
use Rattle.learn_solver.proofs.learner.Learner.fits.Goals as goal

pub is_assumed-requires : goal.is_assumed-requires
is_assumed-requires c =
    let same = variable_of-negation c.args.lit in
    let is = ap variable_of c.negate.ensures in
    omega arith
