use Rattle.std.proofs.Common.{◌-◌}
use Rattle.watch_arena.specs.Engines.{Advances}
use Rattle.watch_arena.proofs.engine.Engine.advance_all.Given as goal

abbrev pub invariant-loop-self : goal.invariant-loop-self
invariant-loop-self l = Advances l.initial.self l.self

abbrev pub decreases-loop-self : goal.decreases-loop-self
decreases-loop-self l = l.self.variables - l.self.queue_head
