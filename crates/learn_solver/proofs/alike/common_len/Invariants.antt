use Rattle.std.proofs.Common.{◌≡◌, ◌≤◌, ◌-◌, take}
use Rattle.learn_solver.proofs.alike.common_len.Given as goal

abbrev pub invariant-many : goal.invariant-many
invariant-many l = record { within : l.len ≤ l.most; same : take l.len l.one ≡ take l.len l.other }

abbrev pub decreases-many : goal.decreases-many
decreases-many l = l.most - l.len

abbrev pub invariant-single : goal.invariant-single
invariant-single l = record { within : l.len ≤ l.most; same : take l.len l.one ≡ take l.len l.other }

abbrev pub decreases-single : goal.decreases-single
decreases-single l = l.most - l.len
