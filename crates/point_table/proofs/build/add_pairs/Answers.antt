use Rattle.std.proofs.Common.{◌<◌, ℕ, sym, ap, ◌∙◌, get_or}
use Rattle.rcc5_core.specs.Region.{forced_regions}
use Rattle.world_model.specs.Problem.{pair_count}
use Rattle.point_table.proofs.Building.{same_size, gained_implied, gained_excluded, size_after, pair_rules}
use Rattle.point_table.proofs.build.add_pairs.Goals as goal

pub loop-pair-init : goal.loop-pair-init
loop-pair-init c = record {
  implied_size = same_size c.args.implied.now;
  implied_rules = c.requires.implied_rules;
  excluded_size = same_size c.args.excluded.now;
  excluded_rules = c.requires.excluded_rules;
}

pub loop-pair-preserved : goal.loop-pair-preserved
loop-pair-preserved c =
    let p = c.args.problem.now in
    let k : ℕ = get_or c.args.pairs.now c.loop-pair.pair-index 0 in
    let small : k < pair_count p = c.requires.pairs c.loop-pair.pair-index 0 c.loop-pair-test.true in
    let pair = c.pair_at-left.result in
    let rules = pair_rules p k pair c.forced-regions.result small c.pair_at-left.ensures.value (c.forced-regions.ensures ∙ ap forced_regions (c.requires.sets.each k _ small)) in
    let before = c.loop-pair.invariant in
    let one = gained_implied p c.loop-pair.implied c.set_if.new.rows c.is_empty.result pair.0 pair.1 before.implied_rules c.set_if.ensures.bits (λ on. rules.left (sym c.is_empty.ensures ∙ on)) in
    let two = gained_implied p c.set_if.new.rows c.set_if-in-loop-pair.new.rows c.is_empty-in-loop-pair.result pair.1 pair.0 one c.set_if-in-loop-pair.ensures.bits
    (λ on. rules.right (sym c.is_empty-in-loop-pair.ensures ∙ on)) in
    let three = gained_excluded p c.loop-pair.excluded c.set_if-in-loop-pair-2.new.rows c.is_empty-apart.result pair.0 pair.1 before.excluded_rules c.set_if-in-loop-pair-2.ensures.bits
    (λ on. rules.one (sym c.is_empty-apart.ensures ∙ on)) in
    let four = gained_excluded p c.set_if-in-loop-pair-2.new.rows c.set_if-in-loop-pair-3.new.rows c.is_empty-apart.result pair.1 pair.0 three c.set_if-in-loop-pair-3.ensures.bits
    (λ on. rules.other (sym c.is_empty-apart.ensures ∙ on)) in
    record {
      implied_size = size_after c.args.implied.now c.set_if.new.rows c.set_if-in-loop-pair.new.rows (size_after c.args.implied.now c.loop-pair.implied c.set_if.new.rows before.implied_size c.set_if.ensures.size) c.set_if-in-loop-pair.ensures.size;
      implied_rules = two;
      excluded_size = size_after c.args.excluded.now c.set_if-in-loop-pair-2.new.rows c.set_if-in-loop-pair-3.new.rows
          (size_after c.args.excluded.now c.loop-pair.excluded c.set_if-in-loop-pair-2.new.rows before.excluded_size c.set_if-in-loop-pair-2.ensures.size) c.set_if-in-loop-pair-3.ensures.size;
      excluded_rules = four;
    }
