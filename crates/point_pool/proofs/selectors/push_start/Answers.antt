use Rattle.std.proofs.Common.{◌≡◌, ◌+◌, ◌*◌, ◌++◌, ◌∙◌, ap, arith}
use Rattle.std.specs.Prelude.{flat_map}
use Rattle.std.specs.List.{range_with_len}
use Rattle.world_model.specs.Problem.{concept_count, pair_count}
use Rattle.world_model.specs.Points.{forced_at}
use Rattle.point_encode.specs.Model.Forced.{pair_selectors}
use Rattle.point_pool.proofs.Selecting.{lists_more}
use Rattle.point_pool.proofs.selectors.push_start.Goals as goal

pub loop-pair-preserved : goal.loop-pair-preserved
loop-pair-preserved c =
    let p = c.args.problem.now in
    let i = c.loop-pair.pair in
    let end = c.pair_count-pair-end.ensures in
    let test = c.loop-pair-test.true in
    lists_more (λ k. pair_selectors (concept_count p + 3 * k) (forced_at p k)) c.args.lits.now.items c.loop-pair.lits.items c.push_empty.new.lits.items i c.loop-pair.invariant
    (c.in_ok-push_empty.ensures ∙ ap (λ r. c.loop-pair.lits.items ++ pair_selectors (concept_count p + 3 * i) r) (c.requires.each i _ (omega arith)))

pub returns : goal.returns
returns c =
    let p = c.args.problem.now in
    let end = c.pair_count-pair-end.ensures in
    let test = c.loop-pair-test.false in
    let most = c.loop-pair.auto.pair-end in
    let whole : c.loop-pair.pair ≡ pair_count p = omega arith in
    c.loop-pair.invariant ∙ ap (λ n. c.args.lits.now.items ++ flat_map (λ k. pair_selectors (concept_count p + 3 * k) (forced_at p k)) (range_with_len 0 n)) whole
