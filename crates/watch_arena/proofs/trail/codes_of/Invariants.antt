use Rattle.std.proofs.Common.{◌≡◌, take}
use Rattle.watch_arena.proofs.trail.codes_of.Given as goal

abbrev pub invariant-loop-lit : goal.invariant-loop-lit
invariant-loop-lit l = l.codes.items ≡ take l.lit-index l.lits
