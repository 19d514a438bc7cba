use Rattle.std.proofs.Common.{sym, subst}
use Rattle.pick_search.specs.Picking.{AreClashes}
use Rattle.pick_search.proofs.Narrowing.{part_clashes}
use Rattle.pick_search.proofs.search.try_next.Goals as goal

pub next_picks-requires-clause-known : goal.next_picks-requires-clause-known
next_picks-requires-clause-known c =
    subst (AreClashes c.args.problem.now c.args.pairs.now) (sym c.deref.ensures.value) (part_clashes c.args.problem.now c.args.wide.now c.args.pairs.now c.args.known.now.items c.requires.part c.requires.known)

pub next_picks-requires-clause-own : goal.next_picks-requires-clause-own
next_picks-requires-clause-own c = subst (AreClashes c.args.problem.now c.args.pairs.now) (sym c.deref-2.ensures.value) c.requires.own
