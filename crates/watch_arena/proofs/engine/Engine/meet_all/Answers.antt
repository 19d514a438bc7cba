use Rattle.std.proofs.Common.{ap, length, arith}
use Rattle.watch_arena.proofs.WatchVisit.{ImpliesMore-refl, ImpliesMore-trans}
use Rattle.watch_arena.proofs.engine.Engine.meet_all.Goals as goal

pub loop-self-init : goal.loop-self-init
loop-self-init c = record { sound = c.requires; implies = ImpliesMore-refl c.args.self.now }

pub loop-self-preserved : goal.loop-self-preserved
loop-self-preserved c = record {
  sound = c.visit_short.ensures.sound;
  implies = ImpliesMore-trans c.args.self.now c.loop-self.self c.visit_short.new.self c.loop-self.invariant.implies c.visit_short.ensures.implies;
}

pub loop-self-smaller : goal.loop-self-smaller
loop-self-smaller c =
    let on = c.in_default.ensures.outcome in
    let size = ap length c.visit_short.ensures.implies.shorts in
    let test = c.loop-self-test.true in
    let count = c.len.ensures in
    omega arith

pub returns-in-Some-clause-implies : goal.returns-in-Some-clause-implies
returns-in-Some-clause-implies c = ImpliesMore-trans c.args.self.now c.loop-self.self c.visit_short.new.self c.loop-self.invariant.implies c.visit_short.ensures.implies

pub returns-clause-outcome : goal.returns-clause-outcome
returns-clause-outcome c =
    let within = c.loop-self.invariant.sound.now.alone.within in
    let test = c.loop-self-test.false in
    let count = c.len.ensures in
    omega arith
