use Rattle.std.proofs.Common.{ℕ, ◌≤◌, length}
use Rattle.std.specs.Prelude.{Contains}
use Rattle.watch_arena.specs.Trails.{AreInRange}
use Rattle.family_solver.specs.Showing.{HasPoints}
use Rattle.family_solver.proofs.clauses.push_points.Given as goal

abbrev pub invariant-loop-place : goal.invariant-loop-place
invariant-loop-place l = record {
  there : HasPoints l.points l.place l.pair l.region l.lits.items;
  stay : (lit : ℕ) → Contains l.fn.lits.items lit → Contains l.lits.items lit;
  range : (count : ℕ) → length l.points ≤ count → AreInRange l.fn.lits.items count → AreInRange l.lits.items count;
}
