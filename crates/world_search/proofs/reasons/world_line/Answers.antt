use Rattle.std.proofs.Common.{sym, subst}
use Rattle.cert_rules.specs.Writing.{IsWorldBy}
use Rattle.cert_rules.proofs.NodeLines.{named}
use Rattle.world_search.proofs.NodeLines.{are_sets, below_universe}
use Rattle.world_search.proofs.reasons.world_line.Goals as goal

pub returns-clause-tells : goal.returns-clause-tells
returns-clause-tells c = λ state.
    let p = c.args.problem.now in
    let m = c.args.node.now in
    let f = c.args.family.now in (
      named m c.depth_of.result c.last_rel.result c.depth_of.ensures c.last_rel.ensures,
      subst (IsWorldBy p m) (sym c.in_ok-raw_family.ensures.raw)
          (record { sets = are_sets f.universe f.sets c.in_ok-raw_family.ensures.ascend (below_universe p f c.requires.met); met = c.requires.met; table = c.requires.shown }),
    )
