use Rattle.watch_arena.proofs.CompactedClauses.{Renaming}
use Rattle.watch_arena.proofs.chains.rename.Given as goal

abbrev pub invariant-loop-at : goal.invariant-loop-at
invariant-loop-at l = Renaming l.moves.pairs l.initial.clauses l.clauses l.at l.kept
