use Rattle.std.proofs.Common.{◌<◌, length, ap, sym, subst, arith}
use Rattle.world_model.specs.Problem.{pair_count}
use Rattle.split_search.proofs.Nodes.{length_more, child_added, small_at}
use Rattle.split_search.proofs.walk.NodePath.go_down.Goals as goal

pub narrowed-requires : goal.narrowed-requires
narrowed-requires c =
    let w = c.args.self.now in
    let counted = c.len.ensures in
    let room = c.requires.room in
    subst (λ q. c.index-pair.result.now < pair_count q) (sym c.node.ensures)
    (small_at (pair_count w.subject) w.pairs.items c.len.result c.index-pair.result.now c.requires.walk.within (omega (arith, counted, room)) c.index-pair.ensures)

pub returns-clause-walk : goal.returns-clause-walk
returns-clause-walk c =
    let w = c.args.self.now in
    let long = ap length c.in_ok-push-2.ensures.ok in
    let room = c.requires.room in
    record {
      pairs = c.requires.walk.pairs;
      within = c.requires.walk.within;
      short = omega (arith, long, length_more w.path c.args.rel, room);
      problems = child_added w.subject w.pairs.items w.path c.push-2.new.self c.args.rel c.index-pair.result.now c.len.result c.node.result.now c.in_ok-below.below c.one.result w.problems.items c.push.new.self.items
          c.requires.walk.pairs c.requires.room c.len.ensures c.index-pair.ensures c.node.ensures c.one.ensures c.in_ok-below.ensures.value c.requires.walk.problems c.in_ok-push.ensures.items c.in_ok-push-2.ensures.ok;
    }
