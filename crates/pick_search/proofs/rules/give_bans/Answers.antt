use Rattle.std.proofs.Common.{sym, subst}
use Rattle.pick_search.specs.Picking.{IsClash}
use Rattle.pick_search.proofs.rules.give_bans.Goals as goal

pub give_ban-requires-clause-clash : goal.give_ban-requires-clause-clash
give_ban-requires-clause-clash c =
    subst (λ clash. IsClash c.args.problem.now c.args.pairs.now clash.picks.items) (sym c.clash-item.is) (c.requires.clashes c.loop-clash.clash-index c.clash-item.result c.loop-clash-test.true)
