use Rattle.std.proofs.Common.{ℕ, ◌<◌, ◌≤◌, length, get_or}
use Rattle.conflict_clause.specs.Taught.{level_in}
use Rattle.conflict_clause.proofs.levels.highest.Given as goal

abbrev pub invariant-loop-k : goal.invariant-loop-k
invariant-loop-k l = record {
  within : l.best < length l.lits;
  most : (j : ℕ) → j < l.k → level_in l.trail.places (get_or l.lits j 0) ≤ level_in l.trail.places (get_or l.lits l.best 0);
}
