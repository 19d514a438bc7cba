use Rattle.std.proofs.Common.{◌≡◌, take}
use Rattle.claims_run.proofs.explain.reasoning.flags_of.Given as goal

-- the flags are the first of the articulations'
abbrev pub invariant-loop-index : goal.invariant-loop-index
invariant-loop-index l = l.flags.items ≡ take l.index l.kept
