use Rattle.watch_arena.proofs.DroppedPlaces.{IsEngine-forgotten}
use Rattle.std.proofs.Common.{subst, sym, List}
use Rattle.clause_arena.specs.Records.{Record}
use Rattle.watch_arena.specs.Engines.{IsEngine}
use Rattle.watch_arena.proofs.engine.Engine.forget.Goals as goal

pub returns-clause-sound : goal.returns-clause-sound
returns-clause-sound c =
    let P : List Record → Type 0 = λ rs. IsEngine (record c.args.self.now { arena = rs }) in
    subst P (sym c.forget.ensures) (IsEngine-forgotten c.args.self.now c.args.at c.requires.sound c.requires.live c.requires.no_reason)
