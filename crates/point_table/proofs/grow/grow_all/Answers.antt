use Rattle.std.proofs.Common.{◌++◌, [], ◌∙◌, ap}
use Rattle.point_table.specs.Growing.{points_below}
use Rattle.point_table.proofs.Begins.{below_all}
use Rattle.point_table.proofs.grow.grow_all.Goals as goal

pub returns : goal.returns
returns c =
    let p = c.args.terms.now.problem.now in
    c.in_ok-grow.ensures.points c.if-not-branch.false ∙ ap (λ xs. xs ++ points_below p c.new.result.items c.concept_count-count.result) c.new-2.ensures.items ∙
    ap (λ xs. points_below p xs c.concept_count-count.result) c.new.ensures.items ∙ ap (points_below p []) c.concept_count-count.ensures ∙ below_all p
