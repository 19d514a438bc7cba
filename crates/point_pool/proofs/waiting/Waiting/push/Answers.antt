use Rattle.std.proofs.Common.{subst, sym}
use Rattle.std.specs.Prelude.{Contains}
use Rattle.std.specs.BinaryHeap.{heap_items}
use Rattle.point_pool.proofs.Waits.{pushed_there, pushed_stay}
use Rattle.point_pool.proofs.waiting.Waiting.push.Goals as goal

pub returns-clause-there : goal.returns-clause-there
returns-clause-there c = pushed_there (λ r. r.0) _ (heap_items c.self.inside.heap) (heap_items c.push.new.self) c.in_ok-push.ensures.permutation

pub returns-clause-stay : goal.returns-clause-stay
returns-clause-stay c = λ other h.
    pushed_stay (λ r. r.0) _ (heap_items c.self.inside.heap) (heap_items c.push.new.self) other c.in_ok-push.ensures.permutation (subst (λ ns. Contains ns other) (sym c.self.view_is) h)
