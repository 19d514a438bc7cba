use Rattle.std.proofs.Common.{◌≡◌, ℕ, ◌<◌, true, get_or}
use Rattle.lits_core.specs.Literals.{variable_of}
use Rattle.clause_arena.specs.Records.{record_at}
use Rattle.conflict_clause.specs.Search.{is_seen}
use Rattle.conflict_clause.proofs.analysis.Analysis.has_seen_all.Given as goal

abbrev pub invariant-loop-k : goal.invariant-loop-k
invariant-loop-k l = (j : ℕ) → j < l.k → is_seen l.self (variable_of (get_or (record_at l.trail.records l.at).lits j 0)) ≡ true
