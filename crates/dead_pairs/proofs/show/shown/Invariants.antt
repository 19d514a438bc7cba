use Rattle.point_query.specs.Asking.{AskerGoes}
use Rattle.dead_pairs.proofs.show.shown.Given as goal

abbrev pub invariant-loop-part : goal.invariant-loop-part
invariant-loop-part l = record { goes : AskerGoes l.fn.asker l.asker }
