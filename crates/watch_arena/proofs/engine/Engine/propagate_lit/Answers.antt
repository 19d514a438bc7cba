use Rattle.std.proofs.Common.{◌∙◌, Option, subst, sym, ap}
use Rattle.clause_arena.specs.declared.place.Link.{Link}
use Rattle.watch_arena.specs.Chains.{head_of}
use Rattle.watch_arena.specs.Engines.{IsWalking}
use Rattle.watch_arena.proofs.WatchVisit.{Visits-refl, Visits-trans, Visits-range}
use Rattle.watch_arena.proofs.ChainWalk.{IsEntry-walking, IsWalking-head, AllAgree-walked, walk_falls}
use Rattle.watch_arena.proofs.engine.Engine.propagate_lit.Goals as goal

pub loop-cur-init : goal.loop-cur-init
loop-cur-init c = record {
  visits = Visits-refl c.args.self.now c.args.lit c.requires.sound;
  walking = IsWalking-head c.args.self.now c.args.lit c.head-cur.result c.requires.sound c.requires.range (c.head-cur.ensures ∙ ap (head_of c.args.self.now.chains) c.code.ensures);
}

pub link-next-requires-clause-of_the_list : goal.link-next-requires-clause-of_the_list
link-next-requires-clause-of_the_list c =
    (IsEntry-walking c.loop-cur.self c.args.lit c.loop-cur.prev c.loop-cur.cur c.in-Some.link c.loop-cur.invariant.visits.sound (Visits-range c.args.self.now c.loop-cur.self c.args.lit c.args.lit c.loop-cur.invariant.visits c.requires.range) c.in-Some.is c.loop-cur.invariant.walking).within

pub link-next-requires-clause-slot : goal.link-next-requires-clause-slot
link-next-requires-clause-slot c =
    (IsEntry-walking c.loop-cur.self c.args.lit c.loop-cur.prev c.loop-cur.cur c.in-Some.link c.loop-cur.invariant.visits.sound (Visits-range c.args.self.now c.loop-cur.self c.args.lit c.args.lit c.loop-cur.invariant.visits c.requires.range) c.in-Some.is c.loop-cur.invariant.walking).slot_is

pub returns-in-False-clause-visits : goal.returns-in-False-clause-visits
returns-in-False-clause-visits c = Visits-trans c.args.self.now c.loop-cur.self c.visit.new.self c.args.lit c.loop-cur.invariant.visits c.visit.ensures.visits

pub loop-cur-smaller : goal.loop-cur-smaller
loop-cur-smaller c =
    let range = Visits-range c.args.self.now c.loop-cur.self c.args.lit c.args.lit c.loop-cur.invariant.visits c.requires.range in
    walk_falls c.loop-cur.self c.visit.new.self c.args.lit c.loop-cur.prev c.in-Behind.link c.loop-cur.cur c.in-Some.link c.link-next.result c.loop-cur.invariant.visits.sound c.visit.ensures.visits range c.in-Some.is c.loop-cur.invariant.walking c.link-next.ensures c.in-Behind.ensures.outcome c.visit.ensures.ahead

pub loop-cur-preserved : goal.loop-cur-preserved
loop-cur-preserved c = record {
  visits = Visits-trans c.args.self.now c.loop-cur.self c.visit.new.self c.args.lit c.loop-cur.invariant.visits c.visit.ensures.visits;
  walking = subst (λ (o : Option Link). IsWalking c.visit.new.self c.args.lit c.in-Behind.link o) (sym c.link-next.ensures) c.in-Behind.ensures.outcome;
}

pub returns-clause-outcome : goal.returns-clause-outcome
returns-clause-outcome c =
    let range = Visits-range c.args.self.now c.loop-cur.self c.args.lit c.args.lit c.loop-cur.invariant.visits c.requires.range in
    let w = subst (λ (o : Option Link). IsWalking c.loop-cur.self c.args.lit c.loop-cur.prev o) (c.in_default.is) c.loop-cur.invariant.walking in
    AllAgree-walked c.loop-cur.self c.args.lit c.loop-cur.prev c.loop-cur.invariant.visits.sound range w
