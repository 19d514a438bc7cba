use Rattle.std.proofs.Common.{◌≡◌, take}
use Rattle.lits_core.specs.Derivation.{without_ids}
use Rattle.proof_check.proofs.clauses.Clauses.forget.Given as goal

abbrev pub invariant-loop-id : goal.invariant-loop-id
invariant-loop-id l = record {
  taken : l.self-inside.entries ≡ without_ids l.initial.self-inside.entries (take l.id-index l.ids);
  given : l.self-inside.given ≡ l.initial.self-inside.given;
}
