use Rattle.std.proofs.Common.{sym, ◌∙◌}
use Rattle.world_walk.specs.Ways.{at_of}
use Rattle.world_walk.proofs.HasBegun.{passed_over, turned_over}
use Rattle.world_walk.proofs.start.follow.Goals as goal

pub returns-in_ok-go_on-in-Some-clause-follows : goal.returns-in_ok-go_on-in-Some-clause-follows
returns-in_ok-go_on-in-Some-clause-follows c rest =
    let e = c.in_ok-go_on-in-Some.ensures in
    passed_over c.args.way.now c.go_on-in-Some.new.way c.args.set c.args.rel c.in-Some.next rest
    (record { way = c.requires.way; standing = c.requires.standing; ready = c.requires.ready; short = c.requires.short; next = c.requires.next })
    (sym c.has.ensures ∙ c.if-has.false) (sym c.after.ensures ∙ c.in-Some.is) (record { kept = e.along; waiting = e.waiting; standing = e.stands })

pub returns-in-None-clause-follows : goal.returns-in-None-clause-follows
returns-in-None-clause-follows c rest =
    turned_over c.args.way.now c.args.set c.args.rel rest (at_of c.turn_off.new.way)
    (record { way = c.requires.way; standing = c.requires.standing; ready = c.requires.ready; short = c.requires.short; next = c.requires.next })
    (sym c.has.ensures ∙ c.if-has.false) (sym c.after.ensures ∙ c.in-None.is) c.turn_off.ensures.past
