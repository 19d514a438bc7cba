use Rattle.std.proofs.Common.{◌≡◌, ◌∙◌, [], Some, length, get_or, ap, arith}
use Rattle.std.specs.Prelude.{slice_get}
use Rattle.cert_rules.specs.Trees.{node_problem}
use Rattle.split_search.specs.Walking.{split_tree}
use Rattle.split_search.proofs.Nodes.{problems_counted, problems_last, got_read}
use Rattle.split_search.proofs.walk.NodePath.node.Goals as goal

pub index-requires : goal.index-requires
index-requires c =
    let w = c.args.self.now in
    let all = ap length c.requires.problems in
    let counted = problems_counted (split_tree w.subject) [] w.path in
    omega (arith, all, counted)

pub returns : goal.returns
returns c =
    let w = c.args.self.now in
    let last : slice_get w.problems.items (length w.path) ≡ Some (node_problem (split_tree w.subject) w.path) =
    ap (λ ps. slice_get ps (length w.path)) c.requires.problems ∙ problems_last (split_tree w.subject) [] w.path in
    got_read w.problems.items (length w.path) c.index.result.now (node_problem (split_tree w.subject) w.path) last
    (c.index.ensures ∙ ap (λ k. get_or w.problems.items k c.index.result.now) c.len.ensures)
