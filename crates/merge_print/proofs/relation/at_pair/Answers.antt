use Rattle.merge_print.proofs.MergeLemmas.{pair_read}
use Rattle.merge_print.proofs.relation.at_pair.Goals as goal

pub returns : goal.returns
returns c =
    pair_read c.args.problem.now c.args.table.now c.args.x c.args.y c.pair_index.result c.at.result c.pair_index.ensures.within c.pair_index.ensures.at c.pair_index.ensures.only
    c.at.ensures
