use Rattle.std.proofs.Common.{arith}
use Rattle.watch_arena.proofs.WatchVisit.{HasRoom-from_can}
use Rattle.watch_arena.proofs.engine.Engine.assign.Goals as goal

pub overflow_add-count : goal.overflow_add-count
overflow_add-count c =
    let few = (HasRoom-from_can c.args.self.now _ c.requires.sound c.requires.can).few in omega arith

pub set-requires-2 : goal.set-requires-2
set-requires-2 c = let lt = (HasRoom-from_can c.args.self.now _ c.requires.sound c.requires.can).heads in omega arith

pub set-requires-3 : goal.set-requires-3
set-requires-3 c = let lt = (HasRoom-from_can c.args.self.now _ c.requires.sound c.requires.can).firsts in omega arith

pub push-requires : goal.push-requires
push-requires c = (HasRoom-from_can c.args.self.now _ c.requires.sound c.requires.can).room
