use Rattle.std.proofs.Common.{◌∙◌, sym, ap, subst, arith, rules}
use Rattle.world_model.proofs.PointPositions.{relation_in}
use Rattle.mir_report.specs.Steps.{AllPossible}
use Rattle.mir_report.proofs.Laws.{cross_within, possible_by}
use Rattle.mir_report.proofs.Showing.{seen_more, seen_pair}
use Rattle.mir_report.proofs.seen.seen_with.Goals as goal

pub pair_at-left-requires : goal.pair_at-left-requires
pair_at-left-requires c = cross_within c.args.problem.now c.pairs.pair (omega arith)

pub pairs-preserved : goal.pairs-preserved
pairs-preserved c =
    let p = c.args.problem.now in
    let k = c.pairs.pair in
    let within = cross_within p k (omega arith) in
    let there = ap (relation_in c.args.family.now) (sym c.pair_at-left.ensures.value) ∙ sym c.rel-rel.ensures in
    let possible = possible_by p k c.rel-rel.result c.args.family.now within c.requires.met.met there in
    seen_pair p k c.pairs.more.items c.push.new.self.items c.with.result c.pairs.invariant
    (subst (AllPossible p k) (sym c.with.ensures) (seen_more p k _ c.rel-rel.result (c.requires.seen.each k _ (omega arith)) possible)) (search rules)
