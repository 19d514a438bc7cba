use Rattle.std.proofs.Common.{◌≡◌}
use Rattle.activity_heap.proofs.Heap.sift_down.Given as goal

abbrev pub invariant-loop : goal.invariant-loop
invariant-loop l = l.self.count ≡ l.fn.self.count
