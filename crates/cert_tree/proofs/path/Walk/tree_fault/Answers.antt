use Rattle.std.proofs.Common.{ap, ◌∙◌}
use Rattle.std.specs.Option.{option_or}
use Rattle.cert_tree.specs.Walks.{at_of, name_fault}
use Rattle.cert_tree.proofs.WalkLemmas.{both_faults}
use Rattle.cert_tree.proofs.path.Walk.tree_fault.Goals as goal

pub returns : goal.returns
returns c =
    let walk = c.args.self.now in
    c.or.ensures
    ∙ ap (λ fault. option_or fault c.node_fault.result) c.name_fault.ensures
    ∙ ap (option_or (name_fault (at_of walk) c.args.line)) c.node_fault.ensures
    ∙ both_faults walk.tree c.args.book.now walk.expected walk.path c.args.line
