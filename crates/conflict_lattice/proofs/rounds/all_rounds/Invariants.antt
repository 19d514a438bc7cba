use Rattle.std.proofs.Common.{◌≡◌, length}
use Rattle.conflict_lattice.specs.Rounds.{IsFoundSoFar, IsJudge, subsets_of, unexplored}
use Rattle.conflict_lattice.proofs.rounds.all_rounds.Given as goal

-- each round leaves fewer lists open
abbrev pub decreases-loop-found : goal.decreases-loop-found
decreases-loop-found l = unexplored (length l.problem.articulations) (subsets_of l.found)

abbrev pub invariant-loop-found : goal.invariant-loop-found
invariant-loop-found l = record {
  shape : l.asker.shape ≡ l.fn.asker.shape;
  judge : IsJudge l.problem l.judge;
  so : IsFoundSoFar l.problem (subsets_of l.found);
}
