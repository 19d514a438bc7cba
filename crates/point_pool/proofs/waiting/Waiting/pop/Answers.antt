use Rattle.std.proofs.Common.{subst, sym}
use Rattle.std.specs.Prelude.{Contains}
use Rattle.std.specs.BinaryHeap.{heap_items}
use Rattle.point_pool.proofs.Waits.{popped_least, popped_stay}
use Rattle.point_pool.proofs.waiting.Waiting.pop.Goals as goal

pub returns-clause-least : goal.returns-clause-least
returns-clause-least c = λ other h.
    popped_least (λ r. r.0) c.in_ok-number.field-0 (heap_items c.self.inside.heap) other ((c.in_ok-number.ensures.heap_order c.self.invariant).1) (subst (λ ns. Contains ns other) (sym c.self.view_is) h)

pub returns-clause-stay : goal.returns-clause-stay
returns-clause-stay c = λ other h.
    popped_stay (λ r. r.0) c.in_ok-number.field-0 (heap_items c.self.inside.heap) (heap_items c.pop.new.self) other c.in_ok-number.ensures.permutation (subst (λ ns. Contains ns other) (sym c.self.view_is) h)
