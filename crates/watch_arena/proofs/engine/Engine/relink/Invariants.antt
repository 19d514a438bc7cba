use Rattle.watch_arena.specs.Chains.{AreChains}
use Rattle.watch_arena.specs.Compactions.{IsFrom, Relinks}
use Rattle.watch_arena.proofs.engine.Engine.relink.Given as goal

abbrev pub invariant-loop-place : goal.invariant-loop-place
invariant-loop-place l = record {
  relinks : Relinks l.initial.self l.self;
  filed : AreChains l.self.arena l.self.chains (IsFrom l.place);
}
