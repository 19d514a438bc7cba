use Rattle.std.proofs.Common.{sym, subst}
use Rattle.conflict_lattice.specs.Lattice.{IsLattice}
use Rattle.conflict_lattice.specs.Rounds.{subsets_of}
use Rattle.conflict_lattice.proofs.Finding.{whole}
use Rattle.conflict_lattice.proofs.rounds.all_rounds.Goals as goal

pub returns-then-not-branch-clause-answer : goal.returns-then-not-branch-clause-answer
returns-then-not-branch-clause-answer c =
    subst (IsLattice c.args.problem.now) (sym c.new-then-not-branch.ensures)
    (whole c.args.problem.now (subsets_of c.take_round.new.found) c.in_ok-take_round.ensures.found (c.in_ok-take_round.ensures.none c.if-not-branch.true))
