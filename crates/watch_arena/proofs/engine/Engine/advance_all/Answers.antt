use Rattle.std.proofs.Common.{arith}
use Rattle.watch_arena.proofs.WatchVisit.{Advances-refl, Advances-trans, places_at_most}
use Rattle.watch_arena.proofs.engine.Engine.advance_all.Goals as goal

pub loop-self-init : goal.loop-self-init
loop-self-init c = Advances-refl c.args.self.now c.requires.sound

pub returns-in-Some-clause-advances : goal.returns-in-Some-clause-advances
returns-in-Some-clause-advances c = Advances-trans c.args.self.now c.loop-self.self c.advance.new.self c.loop-self.invariant c.advance.ensures.advances

pub loop-self-preserved : goal.loop-self-preserved
loop-self-preserved c = Advances-trans c.args.self.now c.loop-self.self c.advance.new.self c.loop-self.invariant c.advance.ensures.advances

pub loop-self-smaller : goal.loop-self-smaller
loop-self-smaller c =
    let on = c.in_default.ensures.outcome in
    let same = c.advance.ensures.advances.implies.variables in
    let most = places_at_most c.loop-self.self.marks c.loop-self.self.places.list c.loop-self.self.variables c.loop-self.invariant.sound.marked in
    let test = c.loop-self-test.true in
    let count = c.len.ensures in
    omega arith
