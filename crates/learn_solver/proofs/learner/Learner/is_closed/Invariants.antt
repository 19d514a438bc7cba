use Rattle.std.proofs.Common.{◌≡◌, ◌⊎◌, ◌<◌, ℕ, Some, get_or}
use Rattle.std.specs.Prelude.{IsTrue}
use Rattle.lits_core.specs.Literals.{negation_of}
use Rattle.clause_arena.specs.Records.{record_at}
use Rattle.conflict_clause.specs.Taught.{is_decided}
use Rattle.learn_solver.proofs.learner.Learner.is_closed.Given as goal

abbrev pub invariant-loop-place : goal.invariant-loop-place
invariant-loop-place l =
    (k : ℕ) → k < l.place → (l.stands ≡ Some (get_or (record_at l.self.trail.records l.at).lits k 0)) ⊎ IsTrue (is_decided l.self.trail.places (negation_of (get_or (record_at l.self.trail.records l.at).lits k 0)))
