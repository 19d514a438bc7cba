use Rattle.std.proofs.Common.{◌≡◌, ◌<◌, ◌≤◌, ℕ, get_or}
use Rattle.std.specs.List.{Contains}
use Rattle.clause_arena.specs.Records.{record_at}
use Rattle.conflict_clause.specs.Taught.{level_in}
use Rattle.learn_solver.proofs.learner.Learner.top_level.Given as goal

abbrev pub invariant-loop-place : goal.invariant-loop-place
invariant-loop-place l = record {
  most : (k : ℕ) → k < l.place → level_in l.self.trail.places (get_or (record_at l.self.trail.records l.at).lits k 0) ≤ l.top;
  has : 0 < l.top → (lit : ℕ) × Contains (record_at l.self.trail.records l.at).lits lit × (level_in l.self.trail.places lit ≡ l.top);
  within : l.top ≤ l.self.trail.level;
}
