use Rattle.std.proofs.Common.{◌≡◌, ◌-◌, ◌<◌, ◌≤◌, ℕ, length, get_or}
use Rattle.constraint_set.proofs.numbering.block_end.Given as goal

-- all so far are of this concept's taxonomy
abbrev pub invariant-loop-end : goal.invariant-loop-end
invariant-loop-end l = record {
  after : l.concept < l.end;
  within : l.end ≤ length l.owners;
  same : (d : ℕ) → l.concept ≤ d → d < l.end → get_or l.owners d 0 ≡ get_or l.owners l.concept 0;
}

abbrev pub decreases-loop-end : goal.decreases-loop-end
decreases-loop-end l = length l.owners - l.end
