use Rattle.pick_search.proofs.Ruling.{banned_more, placed_more, ranged_more}
use Rattle.pick_search.proofs.rules.ban.Goals as goal

pub loop-pick-preserved : goal.loop-pick-preserved
loop-pick-preserved c = record {
  clause = banned_more c.args.picks.now c.loop-pick.pick-index _ c.loop-pick.lits.items c.push.new.self.items c.pick_lit.result c.loop-pick-test.true c.loop-pick.invariant.clause c.in_ok-push.ensures.items c.pick_lit.ensures;
  places = placed_more c.args.picks.now c.args.count c.loop-pick.pick-index _ c.loop-pick-test.true c.loop-pick.invariant.places c.if-pick-count.false;
  range = ranged_more c.loop-pick.lits.items c.push.new.self.items c.pick_lit.result c.args.count _ _ c.loop-pick.invariant.range c.in_ok-push.ensures.items c.pick_lit.ensures c.if-pick-count.false;
}
