use Rattle.std.proofs.Common.{◌≡◌, ℕ, drop, take}
use Rattle.std.specs.Ordering.{nat_cmp}
use Rattle.std.specs.BTreeSet.{contains}
use Rattle.lits_core.specs.Derivation.{has_lit, forget_fault, without_ids}
use Rattle.proof_check.proofs.entries.Entries.can_forget.Given as goal

-- what the ids so far leave comes to what all do
abbrev pub invariant-loop-id : goal.invariant-loop-id
invariant-loop-id l = record {
  rest : forget_fault (without_ids l.self (take l.id-index l.ids)) (drop l.id-index l.ids) ≡ forget_fault l.self l.ids;
  seen : (q : ℕ) → contains nat_cmp l.seen q ≡ has_lit (take l.id-index l.ids) q;
}
