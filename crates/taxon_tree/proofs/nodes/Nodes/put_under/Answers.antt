use Rattle.std.proofs.Common.{sym, ◌∙◌, ap, true, false, Ok}
use Rattle.taxon_tree.proofs.RowLemmas.{with_link-root}
use Rattle.taxon_tree.proofs.nodes.Nodes.put_under.Goals as goal

pub returns-in-None-clause-fault : goal.returns-in-None-clause-fault
returns-in-None-clause-fault c =
    λ _. with_link-root c.args.parent c.args.self.now c.args.child (sym c.in-None.ensures) true (sym c.is_same_or_ancestor.ensures ∙ c.if-is_same_or_ancestor.true)

pub returns-in_ok-link-in-None-2-clause-ok : goal.returns-in_ok-link-in-None-2-clause-ok
returns-in_ok-link-in-None-2-clause-ok c =
    with_link-root c.args.parent c.args.self.now c.args.child (sym c.in-None-2.ensures) false (sym c.is_same_or_ancestor.ensures ∙ c.if-is_same_or_ancestor.false)
    ∙ ap Ok (sym c.in_ok-link-in-None-2.ensures.ok)
