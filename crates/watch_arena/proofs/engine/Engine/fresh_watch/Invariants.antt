use Rattle.watch_arena.specs.Engines.{HasNoFresh}
use Rattle.watch_arena.proofs.engine.Engine.fresh_watch.Given as goal

abbrev pub invariant-loop-k : goal.invariant-loop-k
invariant-loop-k l = HasNoFresh l.self l.at l.other l.k
