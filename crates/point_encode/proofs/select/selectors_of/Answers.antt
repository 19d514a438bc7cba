use Rattle.std.proofs.Common.{◌+◌, ◌*◌, ◌++◌, ap, ◌∙◌, arith}
use Rattle.world_model.specs.Problem.{concept_count}
use Rattle.point_encode.specs.Model.Forced.{pair_selectors}
use Rattle.point_encode.proofs.Selecting.{pair_selected}
use Rattle.point_encode.proofs.select.selectors_of.Goals as goal

pub loop-pair-preserved : goal.loop-pair-preserved
loop-pair-preserved c =
    let p = c.args.problem.now in
    let m = c.args.prefix.now in
    let first = concept_count p in
    let k = c.loop-pair.pair in
    pair_selected p m c.loop-pair.lits.items c.add_empty_regions.new.lits.items _ first k (omega arith)
    (c.in_ok-add_empty_regions.ensures
    ∙ ap (λ n. c.loop-pair.lits.items ++ pair_selectors n c.forced_at.result) c.first_selector-first.ensures.value
    ∙ ap (λ words. c.loop-pair.lits.items ++ pair_selectors (first + 3 * k) words) c.forced_at.ensures)
    c.loop-pair.invariant
