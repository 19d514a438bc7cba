use Rattle.std.proofs.Common.{arith}
use Rattle.watch_arena.proofs.ShortClauses.{IsEngine-met}
use Rattle.watch_arena.proofs.engine.Engine.visit_short.Goals as goal

pub overflow_add-self : goal.overflow_add-self
overflow_add-self c =
    let same = c.meet.ensures.advances.first in let small = c.requires.small in omega arith

pub returns-then-meet-clause-sound : goal.returns-then-meet-clause-sound
returns-then-meet-clause-sound c =
    IsEngine-met c.args.self.now c.meet.new.self c.get-at.result c.meet.ensures.advances c.requires.first c.get-at.ensures c.if-meet.ensures.outcome
