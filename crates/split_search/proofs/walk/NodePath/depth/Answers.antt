use Rattle.std.proofs.Common.{arith}
use Rattle.split_search.proofs.Nodes.{pairs_counted, few_split}
use Rattle.split_search.proofs.walk.NodePath.depth.Goals as goal

pub overflow_cast-result : goal.overflow_cast-result
overflow_cast-result c =
    let w = c.args.self.now in
    let counted = pairs_counted w.subject w.pairs.items c.requires.pairs in
    let few = few_split w.subject in
    let short = c.requires.short in
    omega (arith, counted, few, short)
