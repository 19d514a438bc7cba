use Rattle.std.proofs.Common.{◌≡◌, ◌∙◌, sym, subst, true, length, ◌<◌}
use Rattle.world_model.specs.Problem.{children_of}
use Rattle.point_table.specs.Growing.{AreCovers}
use Rattle.std.specs.List.{list_any}
use Rattle.std.proofs.lemmas.Bool.{eqb-false}
use Rattle.world_model.specs.Alive.{bit_of}
use Rattle.point_table.proofs.Building.{not_empty, child_covers, IsCoveredSo}
use Rattle.point_table.proofs.build.cover_parents.Goals as goal
use Rattle.point_table.proofs.build.cover_parents.Goals.{then-not-is_empty+in_ok-add_cover, else-not-is_empty}

pub loop-concept-preserved : goal.loop-concept-preserved
loop-concept-preserved c =
    let p = c.args.problem.now in
    let concept = c.loop-concept.concept in
    let before = c.loop-concept.invariant in
    let within = subst (λ n. concept < n) c.concept_count-concept-end.ensures c.loop-concept-test.true in
    elim c.if-not-is_empty.branch [
      | then-not-is_empty+in_ok-add_cover w ↦
          let grown = w.in_ok-add_cover.ensures.same in
          let now : IsCoveredSo c.args.rules.now w.add_cover.new.rules = record {
            implied = grown.implied ∙ before.same.implied;
            excluded = grown.excluded ∙ before.same.excluded;
            width = grown.width ∙ before.same.width;
            heads = grown.heads;
          } in
          let some : 0 < length (children_of p concept) = subst (λ xs. 0 < length xs) c.children-children.ensures (not_empty c.children-children.result.now (eqb-false (length c.children-children.result.now) 0 (sym w.if-not-is_empty.ensures))) in
          subst (λ rules. record { same : IsCoveredSo c.args.rules.now rules; covers : AreCovers p rules.heads.items rules.covers }) (sym w.rules-is) (record {
            same = now;
            covers = w.in_ok-add_cover.ensures.covers p (λ bits point has. subst (λ xs. list_any (bit_of bits) xs ≡ true) (sym c.children-children.ensures) (child_covers p concept c.requires.on within some bits point has)) before.covers;
          })
      | else-not-is_empty w ↦ subst (λ rules. record { same : IsCoveredSo c.args.rules.now rules; covers : AreCovers p rules.heads.items rules.covers }) (sym w.rules-is) before
    ]
