use Rattle.std.proofs.Common.{◌-◌, length}
use Rattle.watch_arena.specs.Engines.{IsEngine, ImpliesMore}
use Rattle.watch_arena.proofs.engine.Engine.meet_all.Given as goal

abbrev pub invariant-loop-self : goal.invariant-loop-self
invariant-loop-self l = record { sound : IsEngine l.self; implies : ImpliesMore l.initial.self l.self }

abbrev pub decreases-loop-self : goal.decreases-loop-self
decreases-loop-self l = length l.self.shorts - l.self.first
