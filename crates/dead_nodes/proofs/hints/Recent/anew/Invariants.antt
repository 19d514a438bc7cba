use Rattle.point_query.specs.Asking.{AskerGoes}
use Rattle.dead_nodes.proofs.hints.Recent.anew.Given as goal

abbrev pub invariant-loop-kept : goal.invariant-loop-kept
invariant-loop-kept l = record { goes : AskerGoes l.fn.asker l.asker }
