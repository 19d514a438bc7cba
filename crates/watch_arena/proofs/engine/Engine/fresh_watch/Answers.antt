use Rattle.watch_arena.proofs.EngineInvariant.{lit-in_range, HasNoFresh-more}
use Rattle.std.proofs.Common.{◌<◌, ◌≢◌, subst, arith, ℕ}
use Rattle.lits_core.specs.Literals.{negation_of}
use Rattle.watch_arena.specs.Engines.{mark_of}
use Rattle.watch_arena.proofs.engine.Engine.fresh_watch.Goals as goal

pub may_watch-requires : goal.may_watch-requires
may_watch-requires c =
    let lt = c.loop-k-test.true in
    let size = c.len_of-k-end.ensures in
    (lit-in_range c.args.self.now c.args.at c.loop-k.k c.lit_at.result c.requires.sound (omega arith) c.lit_at.ensures).2

pub loop-k-preserved : goal.loop-k-preserved
loop-k-preserved c =
    let P : ℕ → Type 0 = λ lit. lit ≢ c.args.other → 0 < mark_of c.args.self.now.marks (negation_of lit) in
    HasNoFresh-more c.args.self.now c.args.at c.args.other c.loop-k.k c.loop-k.invariant (subst P c.lit_at.ensures c.if-may_watch.ensures)
