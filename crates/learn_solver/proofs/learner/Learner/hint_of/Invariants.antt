use Rattle.std.proofs.Common.{◌≡◌, drop, None}
use Rattle.clause_arena.specs.Records.{record_at}
use Rattle.learn_solver.proofs.HintChain.{hint_from}
use Rattle.learn_solver.proofs.learner.Learner.hint_of.Given as goal

-- the rest of the clause comes to what the whole does
abbrev pub invariant-loop-place : goal.invariant-loop-place
invariant-loop-place l = hint_from l.falses l.open (drop l.place (record_at l.self.trail.records l.at).lits) ≡ hint_from l.falses None (record_at l.self.trail.records l.at).lits
