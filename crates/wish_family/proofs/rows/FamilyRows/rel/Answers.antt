use Rattle.std.proofs.Common.{◌∙◌, rules}
use Rattle.world_model.specs.Family.{set_of}
use Rattle.wish_family.proofs.Shown.{inside_is, common_is, relation_told, IsRowOf}
use Rattle.wish_family.proofs.rows.FamilyRows.rel.Goals as goal

pub returns-then-right-count : goal.returns-then-right-count
returns-then-right-count c =
    let xs = set_of c.args.family.now c.args.left in
    let ys = set_of c.args.family.now c.args.right in
    let one = c.row-one.result.now in
    let other = c.row-other.result.now in
    let left : IsRowOf one xs = λ k. c.row-one.ensures.bits k ∙ c.requires.shown c.args.left k (search rules) in
    let right : IsRowOf other ys = λ k. c.row-other.ensures.bits k ∙ c.requires.shown c.args.right k (search rules) in
    c.rel_by.ensures ∙ relation_told xs ys c.is_inside.result c.have_common.result c.is_inside-then-right-count.result
    (inside_is one other xs ys c.is_inside.result left right c.is_inside.ensures)
    (common_is one other xs ys c.have_common.result left right c.have_common.ensures)
    (inside_is other one ys xs c.is_inside-then-right-count.result right left c.is_inside-then-right-count.ensures)
