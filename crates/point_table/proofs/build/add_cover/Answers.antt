use Rattle.point_table.proofs.Building.{covers_more}
use Rattle.point_table.proofs.build.add_cover.Goals as goal

pub returns-in_ok-push-2-clause-covers : goal.returns-in_ok-push-2-clause-covers
returns-in_ok-push-2-clause-covers c = λ p cover are.
    covers_more p c.args.rules.now.covers c.push_empty.new.self c.set_all.new.rows c.count-number.result c.args.head c.args.rules.now.heads.items c.push.new.self.items c.args.parts.now are c.in_ok-push_empty.ensures
    c.count-number.ensures c.set_all.ensures.size.count c.set_all.ensures.others c.set_all.ensures.there c.requires.heads c.in_ok-push.ensures.items cover

pub returns-in_default-clause-covers : goal.returns-in_default-clause-covers
returns-in_default-clause-covers c = λ p cover are.
    covers_more p c.args.rules.now.covers c.push_empty.new.self c.set_all.new.rows c.count-number.result c.args.head c.args.rules.now.heads.items c.push.new.self.items c.args.parts.now are c.in_ok-push_empty.ensures
    c.count-number.ensures c.set_all.ensures.size.count c.set_all.ensures.others c.set_all.ensures.there c.requires.heads c.in_ok-push.ensures.items cover
