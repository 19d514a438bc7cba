use Rattle.clause_arena.specs.Layout.{records_of}
use Rattle.clause_arena.proofs.PackInvariant.{Packing, Placed}
use Rattle.clause_arena.proofs.pack.pack.Given as goal

abbrev pub invariant-loop-at : goal.invariant-loop-at
invariant-loop-at l = record {
  packing : Packing l.initial.heads l.initial.codes l.at l.heads l.codes l.kept l.end;
  placed : Placed (records_of l.initial.codes l.initial.heads) l.at l.table;
}
