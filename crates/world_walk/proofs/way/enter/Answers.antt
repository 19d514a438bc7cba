use Rattle.std.proofs.Common.{◌≡◌, sym, ap, ◌∙◌, subst}
use Rattle.std.specs.Prelude.{None}
use Rattle.rcc5_core.specs.RelationSet.{first_of}
use Rattle.world_walk.specs.Ahead.{IsPast}
use Rattle.world_walk.specs.Ways.{problem_of, place, at_of}
use Rattle.world_walk.proofs.WentOn.{with_ladder, entered, turned_none}
use Rattle.world_walk.proofs.way.enter.Goals as goal

pub returns-in_default-clause-went : goal.returns-in_default-clause-went
returns-in_default-clause-went c =
    let old = c.args.way.now in
    let none : first_of c.args.set ≡ None = sym c.first.ensures ∙ c.in_default.is in
    let same : with_ladder old c.promote.new.self ≡ old = ap (with_ladder old) c.promote.ensures in
    let past : IsPast (problem_of old) (place old) (at_of c.turn_off.new.way) = subst (λ w. IsPast (problem_of w) (place w) (at_of c.turn_off.new.way)) same c.turn_off.ensures.past in
    record {
      problem = c.turn_off.ensures.problem ∙ ap problem_of same;
      way = c.turn_off.ensures.way;
      passed = turned_none old c.args.set (at_of c.turn_off.new.way) (record { way = c.requires.way; standing = c.requires.standing; ready = c.requires.ready; short = c.requires.short; next = c.requires.next }) none past;
      untold = c.turn_off.ensures.untold;
    }

pub returns-clause-went : goal.returns-clause-went
returns-clause-went c =
    let e = c.go_on.ensures in
    (entered c.go_on.result c.args.way.now c.go_on.new.way c.args.set c.in-Some.rel
    (record { way = c.requires.way; standing = c.requires.standing; ready = c.requires.ready; short = c.requires.short; next = c.requires.next }) (sym c.first.ensures ∙ c.in-Some.is) e.along e.stands e.way e.waiting e.err).0

pub returns-clause-less : goal.returns-clause-less
returns-clause-less c =
    let e = c.go_on.ensures in
    (entered c.go_on.result c.args.way.now c.go_on.new.way c.args.set c.in-Some.rel
    (record { way = c.requires.way; standing = c.requires.standing; ready = c.requires.ready; short = c.requires.short; next = c.requires.next }) (sym c.first.ensures ∙ c.in-Some.is) e.along e.stands e.way e.waiting e.err).1
