use Rattle.std.proofs.Common.{sym, subst, arith}
use Rattle.conflict_lattice.specs.Lattice.{IsMinimalConflict}
use Rattle.conflict_lattice.proofs.Shrinking.{shrunk_minimal}
use Rattle.conflict_lattice.proofs.shrink.shrink.Goals as goal

pub returns-clause-minimal : goal.returns-clause-minimal
returns-clause-minimal c =
    subst (IsMinimalConflict c.args.problem.now) (sym c.new.ensures)
    (shrunk_minimal c.args.problem.now c.places.core.items c.places.place
    (omega (arith, c.places-test.false, c.len-place-end.ensures, c.args.clash.ok.0, c.requires.clash.flags, c.places.invariant.so.flags)) c.places.invariant.so)
