use Rattle.std.proofs.Common.{◌≡◌, ◌<◌, ℕ, length, get_or}
use Rattle.constraint_set.specs.Numbers.{IsBlockEnd}
use Rattle.constraint_set.proofs.numbering.block_ends.Given as goal

-- the ends of the concepts so far are there
abbrev pub invariant-loop-concept : goal.invariant-loop-concept
invariant-loop-concept l = record {
  counted : length l.ends.items ≡ l.concept;
  each : (c : ℕ) → c < l.concept → IsBlockEnd l.owners c (get_or l.ends.items c 0);
}
