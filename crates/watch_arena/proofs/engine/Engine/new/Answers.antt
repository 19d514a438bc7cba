use Rattle.std.proofs.Common.{refl, arith}
use Rattle.watch_arena.proofs.EmptyEngine.{IsEngine-empty}
use Rattle.watch_arena.proofs.engine.Engine.new.Goals as goal

pub returns-clause-sound : goal.returns-clause-sound
returns-clause-sound c =
    IsEngine-empty _ (omega arith) (let room = c.in_ok-new-4.ensures.room in omega arith) c.new-6.ensures c.in_ok-new-5.ensures c.in_ok-new.ensures c.in_ok-new-4.ensures.list c.in_ok-new-2.ensures c.in_ok-new-3.ensures refl refl c.new-8.ensures.pairs
