use Rattle.std.proofs.Common.{ℕ, Some, subst, sym}
use Rattle.watch_arena.specs.declared.engine.Engine.{Engine}
use Rattle.watch_arena.specs.Engines.{IsEngine, with_place}
use Rattle.watch_arena.proofs.EngineInvariant.{IsEngine-marked}
use Rattle.watch_arena.proofs.WatchVisit.{HasRoom-from_can}
use Rattle.watch_arena.proofs.engine.Engine.imply.Goals as goal

pub returns-clause-sound : goal.returns-clause-sound
returns-clause-sound c =
    let P : ℕ → Type 0 = λ n. IsEngine (with_place c.args.self.now (record { lit = c.args.lit; level = n; reason = Some c.args.at })) in
    subst (λ (e : Engine). IsEngine e) (sym c.assign.ensures)
    (subst P (sym c.level-level.ensures)
    (IsEngine-marked c.args.self.now _ c.requires.sound c.requires.can (HasRoom-from_can c.args.self.now _ c.requires.sound c.requires.can).below))
