use Rattle.point_query.specs.Asking.{AskerGoes}
use Rattle.dead_nodes.proofs.lemmas.Lemmas.show.Given as goal

abbrev pub invariant-loop-one : goal.invariant-loop-one
invariant-loop-one l = record { goes : AskerGoes l.fn.asker l.asker }
