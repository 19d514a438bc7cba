use Rattle.std.proofs.Common.{arith}
use Rattle.watch_arena.proofs.WatchVisit.{head_lit, Advances-head, places_at_most}
use Rattle.watch_arena.proofs.engine.Engine.advance.Goals as goal

pub propagate_lit-requires-clause-range : goal.propagate_lit-requires-clause-range
propagate_lit-requires-clause-range c = (head_lit c.args.self.now c.get.result.now c.negate-lit.result c.requires.sound c.requires.queue_head c.get.ensures c.negate-lit.ensures).0

pub propagate_lit-requires-clause-lit_false : goal.propagate_lit-requires-clause-lit_false
propagate_lit-requires-clause-lit_false c = (head_lit c.args.self.now c.get.result.now c.negate-lit.result c.requires.sound c.requires.queue_head c.get.ensures c.negate-lit.ensures).1

pub overflow_add-self : goal.overflow_add-self
overflow_add-self c =
    let few = c.requires.sound.few in
    let most = places_at_most c.args.self.now.marks c.args.self.now.places.list c.args.self.now.variables c.requires.sound.marked in
    let queue_head = c.propagate_lit.ensures.visits.queue_head in
    let below = c.requires.queue_head in omega arith

pub returns-in-None-clause-advances : goal.returns-in-None-clause-advances
returns-in-None-clause-advances c =
    Advances-head c.args.self.now c.propagate_lit.new.self c.negate-lit.result c.requires.sound c.propagate_lit.ensures.visits c.requires.queue_head
    (head_lit c.args.self.now c.get.result.now c.negate-lit.result c.requires.sound c.requires.queue_head c.get.ensures c.negate-lit.ensures).2
    c.in-None.ensures.outcome
