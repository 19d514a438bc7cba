use Rattle.std.proofs.Common.{◌<◌, ◌≤◌, ◌&&◌, length, drop, ◌+◌, arith, sym, ap, ◌∙◌}
use Rattle.std.specs.List.{list_all, items_where_true}
use Rattle.set_family.specs.Rules.{articulation_holds}
use Rattle.set_family.proofs.Holding.{kept_got, kept_skipped, kept_done}
use Rattle.set_family.proofs.Family.articulations_hold.Goals as goal
use Rattle.set_family.proofs.Family.articulations_hold.Goals.{then-is_kept+else-not-articulation_holds, else-is_kept}

pub returns-then-not-articulation_holds : goal.returns-then-not-articulation_holds
returns-then-not-articulation_holds c =
    ap (λ b. b && list_all (articulation_holds c.args.self.now) (items_where_true (drop (c.loop-index.index + 1) c.args.problem.now.kept) (drop (c.loop-index.index + 1) c.args.problem.now.articulations))) c.if-not-articulation_holds.ensures ∙
    sym (kept_got (articulation_holds c.args.self.now) c.args.problem.now.kept c.args.problem.now.articulations c.loop-index.index c.articulation.result.now c.if-is_kept.ensures c.articulation.ensures.value) ∙
    c.loop-index.invariant

pub loop-index-preserved : goal.loop-index-preserved
loop-index-preserved c =
    let within : c.loop-index.index < length c.args.problem.now.articulations = omega arith in
    elim c.if-is_kept.branch [
      | then-is_kept+else-not-articulation_holds w ↦
          ap (λ b. b && list_all (articulation_holds c.args.self.now) (items_where_true (drop (c.loop-index.index + 1) c.args.problem.now.kept) (drop (c.loop-index.index + 1) c.args.problem.now.articulations))) w.if-not-articulation_holds.ensures ∙
          sym (kept_got (articulation_holds c.args.self.now) c.args.problem.now.kept c.args.problem.now.articulations c.loop-index.index w.articulation.result.now w.if-is_kept.ensures w.articulation.ensures.value)
      | else-is_kept w ↦ sym (kept_skipped (articulation_holds c.args.self.now) c.args.problem.now.kept c.args.problem.now.articulations c.loop-index.index within w.if-is_kept.ensures)
    ] ∙ c.loop-index.invariant

pub returns : goal.returns
returns c =
    let done : length c.args.problem.now.articulations ≤ c.loop-index.index = omega arith in
    sym (kept_done (articulation_holds c.args.self.now) c.args.problem.now.kept c.args.problem.now.articulations c.loop-index.index done) ∙ c.loop-index.invariant
